-- Plans whose entries have no bytes: beside any texts of the same length they write the same entries, and no text. So a function that
-- performs such a plan asks no room for texts.
use Prim.Native.Nat.{ℕ, zero, suc, ◌-◌, ◌*◌, ◌/◌, ◌^◌, ◌≤◌, min}
use mathlib.Core.Path.{◌≡◌, refl, sym, ◌∙◌, ap, subst⁻¹}
use mathlib.Core.Bool.{Bool, true, false}
use mathlib.Core.List.{List, [], ◌∷◌, ◌++◌, append-nil}
use native.Mathlib.Omega.{arith}
use lib.Dec.{ltb}
use lib.ListN.{length, take, take-append-drop}
use lib.Seq.{length-take-le}
use Rattle.std.specs.Prelude.{Result, Ok, Err}
use Rattle.lists.specs.Tests.{pick}
use Rattle.lists.specs.Overwrite.{overwritten}
use Rattle.refusal.specs.declared.Refusal.{Refusal}
use Rattle.readings.specs.Output.{Entry, Output, Reading, finished, refused, output, numbers_of}
use Rattle.readings.specs.Plan.{Plan, perform}
use Rattle.readings.proofs.Plans.Made.{Made, made_put, made_end, made_stop}
use Rattle.readings.proofs.Plans.Sources.{Anything}
use Rattle.output.specs.declared.Output.{Output as Buffers}
use Rattle.output.specs.Call.{room_of}
use Rattle.output.specs.Held.{room_in, reading_of, Holds, Does, HoldsAny, EndsAny, Enters, Counted}
use Rattle.output.proofs.Writing.{alone}

-- an entry that has no bytes
abbrev pub NoBytes : (ℕ → Entry) → List ℕ → Type 0
NoBytes entry bytes = bytes ≡ []

-- ---- the same entries, beside other texts
abbrev with_texts : List ℕ → Output → Output
with_texts x out = record { entries = out.entries; texts = x }

abbrev beside : List ℕ → Reading → Reading
beside x (finished out) = finished (with_texts x out)
beside x (refused r out) = refused r (with_texts x out)

beside_output : (x : List ℕ) (z : Reading) → output (beside x z) ≡ with_texts x (output z)
beside_output x (finished out) = refl
beside_output x (refused r out) = refl

beside_reading : (x : List ℕ) (r : Result (Unit {0}) Refusal) (out : Output) → beside x (reading_of r out) ≡ reading_of r (with_texts x out)
beside_reading x (Ok a) out = refl
beside_reading x (Err r) out = refl

module _ (x y : List ℕ) where
  either_way : (b : Bool) {u : Reading} (v : Reading) (l : List Entry) → u ≡ beside x v
      → pick b u (refused Refusal.NoRoom (record { entries = l; texts = x }))
      ≡ beside x (pick b v (refused Refusal.NoRoom (record { entries = l; texts = y })))
  either_way true v l e = e
  either_way false v l e = refl

  -- THE LAW: how such a plan ends in a room doesn't depend on the texts, where their length is the same and there is room for them
  performs_alone : (k i j : ℕ) → length x ≡ length y → length x ≤ i → length y ≤ j → {n : ℕ} {p : Plan} → Made NoBytes Anything n p
      → (l : List Entry)
      → perform (record { entries = k; bytes = i }) p (record { entries = l; texts = x })
      ≡ beside x (perform (record { entries = k; bytes = j }) p (record { entries = l; texts = y }))
  unfolding perform
  performs_alone k i j same few less (made_put {entry = entry} w t) l =
      rw (w, alone (ltb (length l) k) few, alone (ltb (length l) k) less, append-nil x, append-nil y, same)
      (either_way (ltb (length l) k) _ l (performs_alone k i j same few less t (l ++ entry (length y) ∷ [])))
  performs_alone k i j same few less made_end l = refl
  performs_alone k i j same few less (made_stop s) l = refl

-- ---- numbers that are counted as entries are those of some entries
record Entries (n : ℕ) (l : List ℕ) : Type 0 where
  entries : List Entry
  count : n ≡ length entries
  is : l ≡ overwritten l (numbers_of entries)

entries_in : (n : ℕ) (l : List ℕ) → n * 6 ≤ length l → Entries n l
unfolding numbers_of overwritten
entries_in zero l h = record { entries = []; count = refl; is = refl }
entries_in (suc n) (a ∷ b ∷ c ∷ d ∷ e ∷ f ∷ l) h =
    let x = entries_in n l (omega (arith, h)) in
    record {
      entries = (record { kind = a; member = b; key_start = c; key_len = d; start = e; len = f }) ∷ x.entries;
      count = ap suc x.count;
      is = ap (λ (r : List ℕ). a ∷ b ∷ c ∷ d ∷ e ∷ f ∷ r) x.is;
    }
entries_in (suc n) [] h = absurd (omega (arith, h))
entries_in (suc n) (a ∷ []) h = absurd (omega (arith, h))
entries_in (suc n) (a ∷ b ∷ []) h = absurd (omega (arith, h))
entries_in (suc n) (a ∷ b ∷ c ∷ []) h = absurd (omega (arith, h))
entries_in (suc n) (a ∷ b ∷ c ∷ d ∷ []) h = absurd (omega (arith, h))
entries_in (suc n) (a ∷ b ∷ c ∷ d ∷ e ∷ []) h = absurd (omega (arith, h))

-- ---- a function that performs such a plan, where what is counted lies in the buffers
module _ {n : ℕ} {p : Plan} (m : Made NoBytes Anything n p) {b b' : Buffers} {r : Result (Unit {0}) Refusal} (c : Counted b)
    (d : Does p b b' r) where
  abbrev own : List ℕ
  own = take b.used b.texts.now

  own_length : length own ≡ b.used
  own_length = length-take-le b.used b.texts.now (omega (arith, c.texts))

  own_texts : b.texts.now ≡ overwritten b.texts.now own
  unfolding overwritten
  own_texts = rw own_length (sym (take-append-drop b.used b.texts.now))

  own_few : length own ≤ min (length b.texts.now) (2 ^ 32 - 1)
  own_few = omega (arith, c.texts, own_length)

  -- the buffers hold the entries, however these are told, and their own texts
  holds_own : {l : List Entry} {e : List ℕ} → b.count ≡ length l → b.entries.now ≡ overwritten e (numbers_of l)
      → length b.entries.now ≡ length e → Holds (record { entries = l; texts = own }) e b.texts.now b
  holds_own q z s =
      record {
        count = q;
        used = sym own_length;
        entries = z;
        texts = own_texts;
        same_entries = s;
        same_texts = refl;
        bytes = own_few;
      }

  abbrev own_reading : List ℕ → List Entry → Reading
  own_reading e l = perform (room_in (length e) (length b.texts.now)) p (record { entries = l; texts = own })

  -- no text is written
  own_stays : (e : List ℕ) (l : List Entry) → (output (own_reading e l)).texts ≡ own
  own_stays e l =
      ap (λ (z : Reading). (output z).texts) (performs_alone own own (length e / 6) _ _ refl own_few own_few m l)
      ∙ ap (λ (o : Output). o.texts) (beside_output own (own_reading e l))

  ends_alone : (x : List ℕ) {e t : List ℕ} {out : Output} → HoldsAny out e t b.entries.now x b.count b.used
      → EndsAny (perform (room_of e t) p out) e t b'.entries.now x b'.count b'.used r
  ends_alone x {e} {t} {out} h =
      let z = own_reading e out.entries in
      let w = d.is (holds_own h.count h.entries h.same_entries) in
      let same : length out.texts ≡ length own = sym h.used ∙ sym own_length in
      let there = beside_output out.texts z in
      subst⁻¹ (λ (y : Reading). EndsAny y e t b'.entries.now x b'.count b'.used r)
      (performs_alone out.texts own (length e / 6) (length t) _ same h.bytes own_few m out.entries)
      (record {
        is = ap (beside out.texts) w.is ∙ beside_reading out.texts r (output z) ∙ ap (reading_of r) (sym there);
        holds = subst⁻¹ (λ (o : Output). HoldsAny o e t b'.entries.now x b'.count b'.used) there (record {
          count = w.holds.count;
          used = w.holds.used ∙ ap length (own_stays e out.entries) ∙ sym same;
          entries = w.holds.entries;
          texts = h.texts;
          same_entries = w.holds.same_entries;
          same_texts = h.same_texts;
          bytes = h.bytes;
        });
      })

  -- so a function that performs such a plan asks no room for texts, and leaves them as they are
  pub enters_alone : Enters p b b' r
  enters_alone =
      let q = entries_in b.count b.entries.now c.entries in
      let w = d.is (holds_own q.count q.is refl) in
      record {
        is = ends_alone;
        texts = w.holds.texts ∙ ap (overwritten b.texts.now) (own_stays b.entries.now q.entries) ∙ sym own_texts;
      }
