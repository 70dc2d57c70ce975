-- Laws of a sheet's members: the one that a name resolves to is among them, and their indexes are below their number.
use Prim.Native.Nat.{ℕ, suc, ◌+◌, ◌<◌}
use mathlib.Core.Path.{◌≡◌}
use mathlib.Core.Logic.{⊎_elim}
use mathlib.Core.Bool.{Bool, true, false}
use mathlib.Core.List.Memᴰ
use mathlib.Core.List.{List, [], ◌∷◌, Memᴰ}
use mathlib.Core.Option.{some}
use native.Mathlib.Omega.{arith}
use lib.ListN.{length}
use Rattle.lists.specs.Tests.{pick}
use Rattle.sheet.specs.Sheet.{Member}
use Rattle.sheet.specs.Names.{child_name, is_named, Indexed, indexed, first_named}

-- the member that a name resolves to is one of the sheet's
pub named_in : (l : List Indexed) (local : List ℕ) (m : Indexed) → first_named l local ≡ some m → Memᴰ m l
unfolding first_named
named_in [] local m e = let z : ◌≡◌ {A = ℕ} 0 1 = cc in absurd (omega arith)
named_in (n ∷ l) local m e = go (is_named (child_name n.member) local) e (named_in l local m)
  where
    go : (t : Bool) → pick t (some n) (first_named l local) ≡ some m → (first_named l local ≡ some m → Memᴰ m l) → Memᴰ m (n ∷ l)
    go true e ih = let q : m ≡ n = cc in Memᴰ.head q
    go false e ih = Memᴰ.tail (ih e)

pub index_below : (i : ℕ) (l : List Member) (m : Indexed) → Memᴰ m (indexed i l) → m.index < i + length l
unfolding indexed
index_below i [] m x = absurd (Memᴰ.not-nil x)
index_below i (y ∷ l) m x = ⊎_elim (λ q. rw q (omega arith)) (λ j. omega (arith, index_below (suc i) l m j)) (Memᴰ.cases_cons x)
