-- Laws of performing a plan: where it fails, exactly; and that it writes no more than there is room for.
use Prim.Native.Nat.{ℕ, ◌+◌, ◌≤◌}
use mathlib.Core.Path.{◌≡◌, refl, ◌∙◌, subst}
use mathlib.Core.Logic.{◌↔◌}
use mathlib.Core.Bool.{Bool, true, false}
use mathlib.Core.List.{List, [], ◌∷◌}
use native.Mathlib.Omega.{arith}
use borrow.Author.Tests.{ltb-true, ltb-false, leb-true, leb-false}
use lib.Dec.{ltb, leb}
use lib.ListN.{length, length-append}
use Rattle.lists.specs.Tests.{pick}
use Rattle.lists.proofs.Tests.{pick_cases, false_true}
use Rattle.refusal.specs.declared.Refusal.{Refusal}
use Rattle.readings.specs.Output.{Entry, Room, Output, nothing, Reading, finished, refused, output, fits, appended}
use Rattle.readings.specs.Plan.{Plan, put, end, stop, perform, followed_by}
use Rattle.readings.specs.Demand.{Reaches, here, later, Exceeds, too_many, too_long}

-- ---- room
pub record Within (room : Room) (out : Output) : Type 0 where
  pub entries : length out.entries ≤ room.entries
  pub texts : length out.texts ≤ room.bytes

within_not : {room : Room} {out : Output} → Within room out → Exceeds room out → ⊥
within_not w (too_many h) = omega (arith, h, w.entries)
within_not w (too_long h) = omega (arith, h, w.texts)

pub nothing_within : (room : Room) → Within room nothing
nothing_within room = record { entries = omega arith; texts = omega arith }

module _ (room : Room) (entry : ℕ → Entry) (bytes : List ℕ) (out : Output) where
  abbrev more : length (appended entry bytes out).entries ≡ length out.entries + 1
  more = length-append out.entries (entry (length out.texts) ∷ [])

  abbrev longer : length (appended entry bytes out).texts ≡ length out.texts + length bytes
  longer = length-append out.texts bytes

  pub written_within : fits room bytes out ≡ true → Within room (appended entry bytes out)
  written_within e = go (ltb (length out.entries) room.entries) refl e
    where
      go : (t : Bool) → ltb (length out.entries) room.entries ≡ t
          → pick t (leb (length out.texts + length bytes) room.bytes) false ≡ true
          → Within room (appended entry bytes out)
      go true p e = record {
        entries = omega (arith, more, ltb-true (length out.entries) room.entries p);
        texts = omega (arith, longer, leb-true (length out.texts + length bytes) room.bytes e);
      }
      go false p e = false_true e

  pub written_exceeds : fits room bytes out ≡ false → Exceeds room (appended entry bytes out)
  written_exceeds e = go (ltb (length out.entries) room.entries) refl e
    where
      go : (t : Bool) → ltb (length out.entries) room.entries ≡ t
          → pick t (leb (length out.texts + length bytes) room.bytes) false ≡ false
          → Exceeds room (appended entry bytes out)
      go true p e = too_long (omega (arith, longer, leb-false (length out.texts + length bytes) room.bytes e))
      go false p e = too_many (omega (arith, more, ltb-false (length out.entries) room.entries p))

  pub within_fits : Within room (appended entry bytes out) → fits room bytes out ≡ true
  within_fits w = go (fits room bytes out) refl
    where
      go : (t : Bool) → fits room bytes out ≡ t → t ≡ true
      go true e = refl
      go false e = absurd (within_not w (written_exceeds e))

-- ---- a plan and another after it
abbrev pub and_then : Reading → (Output → Reading) → Reading
and_then (finished out) f = f out
and_then (refused r out) f = refused r out

pub perform_followed : (room : Room) (p q : Plan) (out : Output)
    → perform room (followed_by p q) out ≡ and_then (perform room p out) (perform room q)
unfolding perform followed_by
perform_followed room (put entry bytes p) q out = go (fits room bytes out) _ (perform_followed room p q (appended entry bytes out))
  where
    go : (t : Bool) {x : Reading} (y : Reading) → x ≡ and_then y (perform room q)
        → pick t x (refused Refusal.NoRoom out) ≡ and_then (pick t y (refused Refusal.NoRoom out)) (perform room q)
    go true y e = e
    go false y e = refl
perform_followed room end q out = refl
perform_followed room (stop r) q out = refl

-- ---- how a plan ends that is performed: all of it is written, and fits; or it stops; or with the next entry and its bytes it would exceed
-- the room
pub data Ended (room : Room) (p : Plan) (out : Output) : Reading → Type 0 where
  all_done : {last : Output} → Reaches p out end last → Within room last → Ended room p out (finished last)
  at_stop : {r : Refusal} {last : Output} → Reaches p out (stop r) last → Within room last → Ended room p out (refused r last)
  no_room : {entry : ℕ → Entry} {bytes : List ℕ} {q : Plan} {last : Output} → Reaches p out (put entry bytes q) last → Within room last
      → Exceeds room (appended entry bytes last) → Ended room p out (refused Refusal.NoRoom last)

pub perform_ended : (room : Room) (p : Plan) (out : Output) → Within room out → Ended room p out (perform room p out)
unfolding perform
perform_ended room (put entry bytes p) out w =
    pick_cases (Ended room (put entry bytes p) out) (fits room bytes out) _ _
    (λ e. go (perform_ended room p (appended entry bytes out) (written_within room entry bytes out e)))
    (λ e. no_room here w (written_exceeds room entry bytes out e))
  where
    go : {x : Reading} → Ended room p (appended entry bytes out) x → Ended room (put entry bytes p) out x
    go (all_done t h) = all_done (later t) h
    go (at_stop t h) = at_stop (later t) h
    go (no_room t h f) = no_room (later t) h f
perform_ended room end out w = all_done here w
perform_ended room (stop r) out w = at_stop here w

pub ended_within : {room : Room} {p : Plan} {out : Output} {x : Reading} → Ended room p out x → Within room (output x)
ended_within (all_done t w) = w
ended_within (at_stop t w) = w
ended_within (no_room t w f) = w

-- ---- and exactly so
reaches_more : {p q : Plan} {out last : Output} → Reaches p out q last
    → (length out.entries ≤ length last.entries) × (length out.texts ≤ length last.texts)
reaches_more here = (omega arith, omega arith)
reaches_more (later {entry = entry} {bytes = bytes} {out = out} t) =
    let h = reaches_more t in (
      omega (arith, h.0, length-append out.entries (entry (length out.texts) ∷ [])),
      omega (arith, h.1, length-append out.texts bytes),
    )

-- what is reached within the room is performed
perform_reaches : (room : Room) {p q : Plan} {out last : Output} → Reaches p out q last → Within room last
    → perform room p out ≡ perform room q last
unfolding perform
perform_reaches room here w = refl
perform_reaches room (later {entry = entry} {bytes = bytes} {out = out} t) w =
    let h = reaches_more t in
    rw (within_fits room entry bytes out (record { entries = omega (arith, h.0, w.entries); texts = omega (arith, h.1, w.texts) }))
    (perform_reaches room t w)

not_fits : (b : Bool) → (b ≡ true → ⊥) → b ≡ false
not_fits true n = absurd (n refl)
not_fits false n = refl

pub ended_is : {room : Room} {p : Plan} {out : Output} {x : Reading} → Ended room p out x → perform room p out ≡ x
unfolding perform
ended_is {room} (all_done t w) = perform_reaches room t w
ended_is {room} (at_stop t w) = perform_reaches room t w
ended_is {room} (no_room {entry = entry} {bytes = bytes} {last = last} t w f) =
    perform_reaches room t w ∙ rw (not_fits (fits room bytes last) (λ e. within_not (written_within room entry bytes last e) f))

-- THE LAW: a plan ends so exactly where it is said to
pub perform_exactly : (room : Room) (p : Plan) (x : Reading) → (perform room p nothing ≡ x) ↔ Ended room p nothing x
perform_exactly room p x = (λ e. subst (Ended room p nothing) e (perform_ended room p nothing (nothing_within room)), ended_is)
