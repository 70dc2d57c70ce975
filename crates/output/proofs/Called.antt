-- Laws of a reading that is called from outside, with nothing written. It comes to so few text bytes that a place of 32 bits is enough for
-- each (readings/proofs/Laws/Bounds.antt), so it is the same in the room that is tested.
use Prim.Native.Nat.{ℕ, ◌+◌, ◌-◌, ◌/◌, ◌^◌, ◌≤◌, ◌<◌, min}
use mathlib.Core.Path.{◌≡◌, refl, sym, ◌∙◌, ap}
use mathlib.Core.Bool.{Bool, true, false}
use mathlib.Core.List.{List}
use native.Mathlib.Omega.{arith}
use borrow.Author.Tests.{le-leb, leb-true, leb-false, lt-leb}
use lib.Dec.{ltb, leb}
use lib.ListN.{length, length-append}
use Rattle.std.specs.Prelude.{Result, Ok, Err}
use Rattle.std.specs.Borrow.{MutBor}
use Rattle.lists.specs.Tests.{pick}
use Rattle.lists.proofs.Overwrite.{overwrite_none}
use Rattle.refusal.specs.declared.Refusal.{Refusal}
use Rattle.readings.specs.Call.{Upload, Call}
use Rattle.readings.specs.Output.{Room, Output, nothing, refused, output, numbers_of, fits, appended, outcome, outcome_place}
use Rattle.readings.specs.Plan.{Plan, put, end, stop, perform}
use Rattle.readings.specs.Shape.{Shape, structure, list, map, strings, plan_of, read}
use Rattle.readings.specs.Structure.{structure_reading}
use Rattle.readings.specs.Collection.{list_reading, string_list_reading, map_reading}
use Rattle.readings.proofs.Laws.Bounds.{reading_small}
use Rattle.readings.proofs.Plans.Bytes.{bytes_in, bytes_performed}
use Rattle.output.specs.declared.Output.{Output as Buffers}
use Rattle.output.specs.Held.{reading_of, Holds, Ends, Does, Whole, Begun}
use Rattle.output.specs.Call.{room_of, number_of, place_of, ReadingCall, ReadingPlace}

-- what is written is only added to
texts_grow : (room : Room) (p : Plan) (out : Output) → length out.texts ≤ length (output (perform room p out)).texts
unfolding perform
texts_grow room (put entry bytes more) out = go (fits room bytes out) (texts_grow room more (appended entry bytes out))
  where
    go : (b : Bool) → length (appended entry bytes out).texts ≤ length (output (perform room more (appended entry bytes out))).texts
        → length out.texts ≤ length (output (pick b (perform room more (appended entry bytes out)) (refused Refusal.NoRoom out))).texts
    go true ih = omega (arith, ih, length-append out.texts bytes)
    go false ih = omega arith
texts_grow room end out = omega arith
texts_grow room (stop r) out = omega arith

-- a reading that comes to few bytes is the same in a room of so many
module _ (e t : ℕ) where
  abbrev wide : Room
  wide = record { entries = e; bytes = t }

  abbrev small : Room
  small = record { entries = e; bytes = min t (2 ^ 32 - 1) }

  same_room : (p : Plan) (out : Output) → length (output (perform wide p out)).texts < 2 ^ 32 → perform small p out ≡ perform wide p out
  unfolding perform
  same_room (put entry bytes more) out h =
      by (ltb (length out.entries) e) (leb (length out.texts + length bytes) t) refl
      (same_room more (appended entry bytes out)) h
    where
      same_bytes : (b : Bool) → leb (length out.texts + length bytes) t ≡ b
          → (b ≡ true → length out.texts + length bytes < 2 ^ 32)
          → leb (length out.texts + length bytes) (min t (2 ^ 32 - 1)) ≡ b
      same_bytes true q few =
          let a = leb-true _ _ q in
          let c = few refl in
          le-leb (length out.texts + length bytes) (min t (2 ^ 32 - 1)) (omega arith)
      same_bytes false q few =
          let a = leb-false _ _ q in
          lt-leb (length out.texts + length bytes) (min t (2 ^ 32 - 1)) (omega arith)

      by : (c b : Bool) → leb (length out.texts + length bytes) t ≡ b
          → (length (output (perform wide more (appended entry bytes out))).texts < 2 ^ 32
          → perform small more (appended entry bytes out) ≡ perform wide more (appended entry bytes out))
          → length (output (pick (pick c b false) (perform wide more (appended entry bytes out)) (refused Refusal.NoRoom out))).texts < 2
          ^ 32
          → pick (pick c (leb (length out.texts + length bytes) (min t (2 ^ 32 - 1))) false) (perform small more (appended entry bytes out))
          (refused Refusal.NoRoom out)
          ≡ pick (pick c b false) (perform wide more (appended entry bytes out)) (refused Refusal.NoRoom out)
      by false b q ih g = refl
      by true true q ih g =
          let grown = texts_grow wide more (appended entry bytes out) in
          rw (same_bytes true q (λ z. omega (arith, g, grown, length-append out.texts bytes))) (ih g)
      by true false q ih g = rw (same_bytes false q (λ z. cc))
  same_room end out h = refl
  same_room (stop r) out h = refl

-- ---- nothing is written yet
holds_nothing : {b : Buffers} → b.count ≡ 0 → b.used ≡ 0 → Holds nothing b.entries.now b.texts.now b
unfolding numbers_of
holds_nothing {b} c u =
    record {
      count = c;
      used = u;
      entries = sym (overwrite_none b.entries.now);
      texts = sym (overwrite_none b.texts.now);
      same_entries = refl;
      same_texts = refl;
      bytes = omega arith;
    }

-- a plan that comes to few bytes ends in the whole room
module _ {p : Plan} {b b' : Buffers} {r : Result (Unit {0}) Refusal} (d : Does p b b' r) where
  ends_whole : length (output (perform (room_of b.entries.now b.texts.now) p nothing)).texts < 2 ^ 32 → Whole p b b' r
  ends_whole few =
      record {
        is = λ c u. rw (sym (same_room (length b.entries.now / 6) (length b.texts.now) p nothing few)) (d.is (holds_nothing c u));
      }

  pub does_whole : bytes_in p < 2 ^ 32 → Whole p b b' r
  does_whole few = ends_whole (omega (arith, few, bytes_performed (room_of b.entries.now b.texts.now) p nothing))

-- ---- the readings by a sheet
reading_plan : (shape : Shape) (u : Upload) (call : Call) (room : Room)
    → read shape u call room ≡ perform room (plan_of shape u call) nothing
unfolding structure_reading list_reading map_reading string_list_reading
reading_plan structure u call room = refl
reading_plan list u call room = refl
reading_plan map u call room = refl
reading_plan strings u call room = refl

number_is : (r : Result (Unit {0}) Refusal) (out : Output) → outcome (reading_of r out) ≡ number_of r
number_is (Ok x) out = refl
number_is (Err why) out = refl

place_is : (r : Result (Unit {0}) Refusal) (out : Output) → outcome_place (reading_of r out) ≡ place_of r
place_is (Ok x) out = refl
place_is (Err why) out = refl

module _ (shape : Shape) (u : Upload) (call : Call) {e t : MutBor (List ℕ)} {b b' : Buffers} {r : Result (Unit {0}) Refusal}
    (z : Begun e t b) (d : Does (plan_of shape u call) b b' r) where
  ends : Ends (read shape u call (room_of e.now t.now)) e.now t.now b' r
  ends =
      let wide_plan = reading_plan shape u call (room_of e.now t.now) in
      let few = rw wide_plan at (reading_small shape u call (room_of e.now t.now)).texts in
      rw (wide_plan, ← z.entries, ← z.texts) ((ends_whole d (rw (z.entries, z.texts) few)).is z.count z.used)

  -- what a function left in the buffers is the reading in the room that was lent
  pub reading_called : ReadingCall (read shape u call) e.now t.now b'.entries.now b'.texts.now b'.count b'.used (number_of r)
  reading_called =
      let x = ends in
      record {
        number = sym (ap outcome x.is ∙ number_is r (output (read shape u call (room_of e.now t.now))));
        count = x.holds.count;
        used = x.holds.used;
        entries = x.holds.entries;
        texts = x.holds.texts;
      }

  pub reading_placed : ReadingPlace (read shape u call) e.now t.now (place_of r)
  reading_placed =
      let x = ends in
      record { place = sym (ap outcome_place x.is ∙ place_is r (output (read shape u call (room_of e.now t.now)))) }

  -- the buffers are those that were lent
  pub lent_entries : e.ghost_name ≡ b'.entries.ghost_name
  lent_entries = sym (d.same.entries ∙ ap (λ (x : MutBor (List ℕ)). x.ghost_name) z.entries)

  pub lent_texts : t.ghost_name ≡ b'.texts.ghost_name
  lent_texts = sym (d.same.texts ∙ ap (λ (x : MutBor (List ℕ)). x.ghost_name) z.texts)

pub ruleset called_laws = (reading_called, reading_placed, lent_entries, lent_texts)
