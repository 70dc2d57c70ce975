-- The loop that copies: after k turns the first k elements are stored.
use Prim.Native.Nat.{ℕ, suc, ◌+◌, ◌≤◌, ◌<◌}
use mathlib.Core.Path.{◌≡◌, refl, sym, ◌∙◌, ap}
use mathlib.Core.List.{List, [], ◌∷◌, ◌++◌}
use native.Mathlib.Nat.{add-zero, add-suc, suc-add}
use native.Mathlib.Numerals.{add-one}
use native.Mathlib.Omega.{arith}
use borrow.Author.Rules.{rules}
use lib.ListN.{length, get_or, take, set}
use lib.Seq.{sets, length-sets, take-suc, length-take-le, take_all}
use Rattle.lists.specs.Overwrite.{Stored}

-- one more store at the end of a run of stores
sets_snoc : (l : List ℕ) (n : ℕ) (xs : List ℕ) (b : ℕ) → sets l n (xs ++ (b ∷ [])) ≡ set (sets l n xs) (n + length xs) b
sets_snoc l n [] b = rw add-zero
sets_snoc l n (x ∷ xs) b = sets_snoc (set l n x) (suc n) xs b
    ∙ ap (λ (k : ℕ). set (sets (set l n x) (suc n) xs) k b) (suc-add n (length xs) ∙ sym (add-suc n (length xs)))

pub record CopyAt (src old out : List ℕ) (at k : ℕ) : Type 0 where
  pub within : k ≤ length src
  pub is : out ≡ sets old at (take k src)
  pub same : length out ≡ length old

pub copy_start : (src old : List ℕ) (at : ℕ) → CopyAt src old old at 0
copy_start src old at = record { within = omega arith; is = refl; same = refl }

module _ {src old out : List ℕ} {at k : ℕ} (c : CopyAt src old out at k) where
  pub copy_turn : k < length src → CopyAt src old (set out (at + k) (get_or src k 0)) at (k + 1)
  copy_turn h =
      let n : length (take k src) ≡ k = length-take-le k src c.within in
      let e : sets old at (take (k + 1) src) ≡ set out (at + k) (get_or src k 0) =
      rw (add-one, take-suc src k 0, sets_snoc old at (take k src) (get_or src k 0), ← c.is, n) in
      record { within = omega arith; is = sym e; same = ap length (sym e) ∙ length-sets old at (take (k + 1) src) }

  pub copy_write : at + length src ≤ length old → k < length src → at + k < length out
  copy_write room h = omega (arith, c.same)

  pub copy_end : length src ≤ k → Stored old out at src (at + length src)
  copy_end h = record { next = refl; is = rw (take_all k src h) at c.is }

pub ruleset copy_laws = (rules, copy_start, copy_turn, copy_write, copy_end)
