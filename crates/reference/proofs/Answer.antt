-- What "7, then 10; both write nothing" comes to: laws of `answer` and `filled`, for callers.
use Prim.Native.Nat.{ℕ, ◌≤◌}
use mathlib.Core.Path.{◌≡◌, refl, sym}
use mathlib.Core.Bool.{Bool, true, false}
use mathlib.Core.List.{List}
use native.Mathlib.Omega.{arith}
use borrow.Author.Tests.{leb-true, leb-false}
use lib.Dec.{leb}
use lib.ListN.{length}
use Rattle.lists.specs.Tests.{pick}
use Rattle.lists.specs.Overwrite.{overwritten}
use Rattle.reference.specs.Text.{Out, answer, filled, unescaped}
use Rattle.reference.specs.Text.Out.{bytes, bad}
use Rattle.reference.proofs.Result.{unescaped_shorter}
use Rattle.reference.specs.declared.UnescapeError.{UnescapeError}
use Rattle.std.specs.Prelude.{Ok, Err}

-- a bad reference is 7, with its place, in any room: 7 comes before 10
pub bad_first : (at room : ℕ) → answer (bad at) room ≡ Err (UnescapeError.BadReference at)
unfolding answer
bad_first at room = refl

-- a length that is answered is that of the result, and fits
pub length_fits : (o : Out) (room : ℕ) {n : ℕ} → answer o room ≡ Ok n
    → (l : List ℕ) × (o ≡ bytes l) × (n ≡ length l) × (n ≤ room)
unfolding answer
length_fits (bad at) room e = let z : ◌≡◌ {A = ℕ} 0 1 = cc in absurd (omega arith)
length_fits (bytes l) room {n} e = go (leb (length l) room) refl e
  where
    go : (t : Bool) → leb (length l) room ≡ t → pick t (Ok (length l)) (Err UnescapeError.NoRoom) ≡ Ok n
        → (m : List ℕ) × (bytes l ≡ bytes m) × (n ≡ length m) × (n ≤ room)
    go true h e = let q : length l ≡ n = cc in (l, refl, sym q, omega (arith, leb-true (length l) room h))
    go false h e = let z : ◌≡◌ {A = ℕ} 0 1 = cc in absurd (omega arith)

-- a refusal leaves the buffer as it was: any answer that is no length
pub refusal_keeps : (o : Out) (old : List ℕ) → ((n : ℕ) → answer o (length old) ≡ Ok n → ⊥) → filled o old ≡ old
unfolding answer filled
refusal_keeps (bad at) old f = refl
refusal_keeps (bytes l) old f = go (leb (length l) (length old)) f
  where
    go : (t : Bool) → ((n : ℕ) → pick t (Ok (length l)) (Err UnescapeError.NoRoom) ≡ Ok n → ⊥)
        → pick t (overwritten old l) old ≡ old
    go true f = absurd (f (length l) refl)
    go false f = refl

-- a buffer as long as the text is always room enough
pub room_enough : (t : List ℕ) (room : ℕ) → length t ≤ room → answer (unescaped t) room ≡ Err UnescapeError.NoRoom → ⊥
unfolding answer
room_enough t room h = go (unescaped t) refl
  where
    go : (o : Out) → unescaped t ≡ o → answer o room ≡ Err UnescapeError.NoRoom → ⊥
    go (bad at) q e = let z : ◌≡◌ {A = ℕ} 0 1 = cc in omega arith
    go (bytes l) q e = fit (leb (length l) room) refl e
      where
        fit : (u : Bool) → leb (length l) room ≡ u → pick u (Ok (length l)) (Err UnescapeError.NoRoom) ≡ Err UnescapeError.NoRoom → ⊥
        fit true p e = let z : ◌≡◌ {A = ℕ} 0 1 = cc in omega arith
        fit false p e = omega (arith, leb-false (length l) room p, unescaped_shorter t l q)
