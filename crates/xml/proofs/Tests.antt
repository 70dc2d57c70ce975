-- The drain's tests say what they are named after.
use Prim.Native.Nat.{ℕ}
use mathlib.Core.Path.{◌≡◌, refl, sym, ◌∙◌}
use mathlib.Core.Bool.{Bool, true, false}
use mathlib.Core.List.{List, [], ◌∷◌, Memᴰ}
use native.Mathlib.Omega.{arith}
use Rattle.lists.specs.Tests.{pick}
use Rattle.lists.proofs.Tests.{false_true}
use Rattle.lists.specs.Bytes.{sameb}
use Rattle.lists.proofs.Bytes.{same_is, same_self}
use Rattle.table.specs.Row.{Name}
use Rattle.reference.specs.declared.BadReference.{BadReference}
use Rattle.xml.specs.Drain.{same_name, has_name}
use Rattle.std.specs.Prelude.{Result, Ok, Err}

-- `same_name` is equality of names
pub same_name_lem : (m n : Name) → same_name m n ≡ true → m ≡ n
unfolding same_name
same_name_lem m n e = go (sameb m.prefix n.prefix) refl e
  where
    go : (t : Bool) → sameb m.prefix n.prefix ≡ t → pick t (sameb m.local n.local) false ≡ true → m ≡ n
    go true q e =
        let p = same_is m.prefix n.prefix q in
        let r = same_is m.local n.local e in
        λ i. record { prefix = p i; local = r i }
    go false q e = false_true e

pub name_same : (m : Name) → same_name m m ≡ true
unfolding same_name
name_same m = rw (same_self m.prefix, same_self m.local)

-- `has_name` is membership
pub seen_member : (m : Name) (l : List Name) → has_name m l ≡ true → Memᴰ m l
unfolding has_name
seen_member m [] e = false_true e
seen_member m (n ∷ l) e = go (same_name m n) refl e (seen_member m l)
  where
    go : (t : Bool) → same_name m n ≡ t → pick t true (has_name m l) ≡ true → (has_name m l ≡ true → Memᴰ m l) → Memᴰ m (n ∷ l)
    go true q e ih = Memᴰ.head (same_name_lem m n q)
    go false q e ih = Memᴰ.tail (ih e)

pub member_seen : {m : Name} {l : List Name} → Memᴰ m l → has_name m l ≡ true
unfolding has_name
member_seen {m} (Memᴰ.head e) = rw (← e, name_same m)
member_seen {m} (Memᴰ.tail {x = n} i) = go (same_name m n) (member_seen i)
  where
    go : (t : Bool) → {u : Bool} → u ≡ true → pick t true u ≡ true
    go true e = refl
    go false e = e

-- a test that has failed
pub not_member : (m : Name) (l : List Name) → has_name m l ≡ false → Memᴰ m l → ⊥
not_member m l e i = false_true (sym e ∙ member_seen i)

pub not_seen : (m : Name) (l : List Name) → (Memᴰ m l → ⊥) → has_name m l ≡ false
not_seen m l f = go (has_name m l) refl
  where
    go : (t : Bool) → has_name m l ≡ t → t ≡ false
    go true e = absurd (f (seen_member m l e))
    go false e = refl

pub not_named : (m n : Name) → same_name m n ≡ false → m ≡ n → ⊥
not_named m n e q = false_true (sym e ∙ (rw q (name_same n)))

-- a value is not both
pub not_both {ℓ} : {A : Type ℓ} {x : Result (Unit {0}) BadReference} {why : BadReference} → x ≡ Ok tt → x ≡ Err why → A
not_both p q = let z : ◌≡◌ {A = ℕ} 0 1 = cc in absurd (omega arith)
