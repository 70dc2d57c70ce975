-- Room for text past what numbers of 32 bits count makes no difference: no reading comes to so much. So a reading may be performed in the
-- less of both.
use Prim.Native.Nat.{ℕ, ◌+◌, ◌-◌, ◌^◌, ◌≤◌}
use mathlib.Core.Path.{◌≡◌, refl, sym, ◌∙◌}
use mathlib.Core.Bool.{Bool, true, false}
use native.Mathlib.Omega.{arith}
use borrow.Author.Tests.{leb-true, leb-false, le-leb, lt-leb}
use lib.Dec.{ltb, leb}
use lib.ListN.{length, length-append}
use Rattle.std.specs.Prelude.{min}
use Rattle.lists.specs.Tests.{pick}
use Rattle.refusal.specs.declared.Refusal.{Refusal}
use Rattle.readings.specs.Call.{Upload, Call}
use Rattle.readings.specs.Output.{Room, Output, nothing, refused, output, fits, appended}
use Rattle.readings.specs.Plan.{Plan, put, end, stop, perform}
use Rattle.readings.specs.Shape.{Shape, plan_of, read}
use Rattle.readings.proofs.Plans.Readings.{read_is}
use Rattle.readings.proofs.Laws.Bounds.{reading_small}

abbrev room : ℕ → ℕ → Room
room e b = record { entries = e; bytes = b }

-- what was written stays
texts_stay : (r : Room) (p : Plan) (out : Output) → length out.texts ≤ length (output (perform r p out)).texts
unfolding perform
texts_stay r (put entry bytes more) out = go (fits r bytes out) (texts_stay r more (appended entry bytes out))
  where
    go : (b : Bool) → length (appended entry bytes out).texts ≤ length (output (perform r more (appended entry bytes out))).texts
        → length out.texts ≤ length (output (pick b (perform r more (appended entry bytes out)) (refused Refusal.NoRoom out))).texts
    go true ih = omega (arith, ih, length-append out.texts bytes)
    go false ih = omega arith
texts_stay r end out = omega arith
texts_stay r (stop why) out = omega arith

-- a plan that comes to no more than m bytes of text is performed alike in the less of a room and m
module _ (e b m : ℕ) where
  pub less_room : (p : Plan) (out : Output) → length (output (perform (room e b) p out)).texts ≤ m
      → perform (room e (min b m)) p out ≡ perform (room e b) p out
  unfolding perform
  less_room (put entry bytes more) out h =
      entries_fit (ltb (length out.entries) e) h (less_room more (appended entry bytes out))
    where
      next : Output
      next = appended entry bytes out

      size : ℕ
      size = length out.texts + length bytes

      Alike : Type 0
      Alike = length (output (perform (room e b) more next)).texts ≤ m
          → perform (room e (min b m)) more next ≡ perform (room e b) more next

      bytes_fit : (x : Bool) → leb size b ≡ x
          → length (output (pick x (perform (room e b) more next) (refused Refusal.NoRoom out))).texts ≤ m → Alike
          → pick (leb size (min b m)) (perform (room e (min b m)) more next) (refused Refusal.NoRoom out)
          ≡ pick x (perform (room e b) more next) (refused Refusal.NoRoom out)
      bytes_fit true q k ih =
          let stays = texts_stay (room e b) more next in
          let low : size ≤ min b m = omega (arith, k, stays, length-append out.texts bytes, leb-true size b q) in
          rw (le-leb size (min b m) low) (ih k)
      bytes_fit false q k ih = rw (lt-leb size (min b m) (omega (arith, leb-false size b q))) refl

      entries_fit : (x : Bool)
          → length (output (pick (pick x (leb size b) false) (perform (room e b) more next) (refused Refusal.NoRoom out))).texts ≤ m → Alike
          → pick (pick x (leb size (min b m)) false) (perform (room e (min b m)) more next) (refused Refusal.NoRoom out)
          ≡ pick (pick x (leb size b) false) (perform (room e b) more next) (refused Refusal.NoRoom out)
      entries_fit true k ih = bytes_fit (leb size b) refl k ih
      entries_fit false k ih = refl
  less_room end out h = refl
  less_room (stop why) out h = refl

-- ---- THE LAW: for every input and each reading
pub reading_in_less : (shape : Shape) (u : Upload) (call : Call) (e b : ℕ)
    → read shape u call (room e (min b (2 ^ 32 - 1))) ≡ read shape u call (room e b)
reading_in_less shape u call e b =
    let whole = room e b in
    let short : length (output (read shape u call whole)).texts ≤ 2 ^ 32 - 1 = omega (arith, (reading_small shape u call whole).texts) in
    let h = rw (read_is shape u call whole) at short in
    read_is shape u call (room e (min b (2 ^ 32 - 1))) ∙ (less_room e b (2 ^ 32 - 1) (plan_of shape u call) nothing h
    ∙ sym (read_is shape u call whole))
