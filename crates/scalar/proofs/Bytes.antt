-- `==` of slices of bytes, in the words of `lists`.
use Prim.Native.Nat.{ℕ}
use mathlib.Core.Path.{◌≡◌, refl}
use mathlib.Core.Bool.{Bool, true, false, ◌&&◌}
use mathlib.Core.List.{List, [], ◌∷◌}
use lib.Dec.{eqb}
use lib.Pointwise.{pointwise}
use Rattle.lists.specs.Tests.{pick}
use Rattle.lists.specs.Bytes.{sameb}

pub same_pointwise : (a b : List ℕ) → pointwise eqb a b ≡ sameb a b
unfolding sameb
same_pointwise [] [] = refl
same_pointwise [] (y ∷ ys) = refl
same_pointwise (x ∷ xs) [] = refl
same_pointwise (x ∷ xs) (y ∷ ys) = go (eqb x y) (same_pointwise xs ys)
  where
    go : (t : Bool) → pointwise eqb xs ys ≡ sameb xs ys → t && pointwise eqb xs ys ≡ pick t (sameb xs ys) false
    go true e = e
    go false e = refl
