-- What the library's functions answer, in the words of `lists`.
use Prim.Native.Nat.{ℕ, ◌+◌, ◌-◌, ◌≤◌, ◌<◌}
use mathlib.Core.Path.{◌≡◌, refl, sym, ◌∙◌, ap}
use mathlib.Core.Bool.{Bool, true, false, ◌&&◌}
use mathlib.Core.List.{List, [], ◌∷◌}
use native.Mathlib.Omega.{arith}
use borrow.Author.Tests.{eqb-true, eq-eqb}
use lib.Dec.{eqb}
use lib.ListN.{length, get_or, take, drop, length-drop}
use lib.Pointwise.{pointwise}
use lib.Seq.{get_or-drop}
use Rattle.lists.specs.Bytes.{sameb}
use Rattle.lists.specs.Find.{NextAt}
use Rattle.lists.specs.Tests.{pick}
use Rattle.lists.proofs.Parts.{tail}
use Rattle.memchr.specs.Find.{NoneBefore, Nowhere, Passes, is_byte}

-- `==` of slices is `sameb`
pub same_pointwise : (a b : List ℕ) → pointwise eqb a b ≡ sameb a b
unfolding sameb
same_pointwise [] [] = refl
same_pointwise [] (y ∷ ys) = refl
same_pointwise (x ∷ xs) [] = refl
same_pointwise (x ∷ xs) (y ∷ ys) = go (eqb x y) (same_pointwise xs ys)
  where
    go : (t : Bool) → pointwise eqb xs ys ≡ sameb xs ys → t && pointwise eqb xs ys ≡ pick t (sameb xs ys) false
    go true e = e
    go false e = refl

-- a search of `&s[from..]`
module _ (s : List ℕ) (x from : ℕ) (h : from ≤ length s) where
  abbrev rest : List ℕ
  rest = take (length s - from) (drop from s)

  rest_length : length rest ≡ length s - from
  rest_length = ap length (tail from s) ∙ length-drop from s

  rest_at : (k : ℕ) → get_or rest k 0 ≡ get_or s (from + k) 0
  rest_at k = ap (λ (l : List ℕ). get_or l k 0) (tail from s) ∙ get_or-drop from s k 0

  missed : (n : ℕ) → Nowhere (Passes (is_byte x) rest) 0 n → (i : ℕ) → from ≤ i → i < from + n → get_or s i 0 ≡ x → ⊥
  missed n f i l u e =
      let q : from + (i - from) ≡ i = omega arith in
      f (i - from) (omega arith) (omega arith) (eq-eqb _ _ (rest_at (i - from) ∙ ap (λ (k : ℕ). get_or s k 0) q ∙ e))

  pub next_found : (k : ℕ) → NoneBefore (Passes (is_byte x) rest) 0 (length rest) k × Passes (is_byte x) rest k → NextAt s x from (from + k)
  next_found k f =
      let m = f.0 in
      record {
        clear = record { low = omega arith; high = omega (arith, m.high, rest_length); none = missed k m.before };
        found = λ u. sym (rest_at k) ∙ eqb-true _ _ f.1;
      }

  pub next_none : Nowhere (Passes (is_byte x) rest) 0 (length rest) → NextAt s x from (length s)
  next_none f =
      record {
        clear = record { low = h; high = omega arith; none = λ i l u e. missed (length rest) f i l (omega (arith, rest_length)) e };
        found = λ u. absurd (omega arith);
      }
