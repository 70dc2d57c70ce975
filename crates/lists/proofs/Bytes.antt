-- Laws on texts in quotes as bytes, and on the test whether two lists of bytes are the same.
use Prim.Native.Nat.{ℕ}
use mathlib.Core.Path.{◌≡◌, refl}
use mathlib.Core.Bool.{Bool, true, false}
use mathlib.Core.List.{List, [], ◌∷◌}
use borrow.Author.Tests.{eqb-true, eq-eqb}
use lib.Dec.{eqb}
use Rattle.lists.specs.Tests.{pick}
use Rattle.lists.proofs.Tests.{false_true}
use Rattle.lists.specs.Bytes.{ascii, sameb}

pub ascii_example : ascii "&#x;lt" ≡ 38 ∷ 35 ∷ 120 ∷ 59 ∷ 108 ∷ 116 ∷ []
ascii_example = refl

-- the test says what it is named after
pub same_self : (a : List ℕ) → sameb a a ≡ true
unfolding sameb
same_self [] = refl
same_self (x ∷ a) = rw (eq-eqb x x refl) (same_self a)

pub same_is : (a b : List ℕ) → sameb a b ≡ true → a ≡ b
unfolding sameb
same_is [] [] e = refl
same_is [] (y ∷ ys) e = false_true e
same_is (x ∷ xs) [] e = false_true e
same_is (x ∷ xs) (y ∷ ys) e = go (eqb x y) refl e (same_is xs ys)
  where
    go : (t : Bool) → eqb x y ≡ t → pick t (sameb xs ys) false ≡ true → (sameb xs ys ≡ true → xs ≡ ys) → (x ∷ xs) ≡ (y ∷ ys)
    go true q e ih = let p = eqb-true x y q in let r = ih e in cc
    go false q e ih = false_true e
