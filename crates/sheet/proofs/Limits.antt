-- A structure that a sheet says has at most 64 members, whatever numbers the sheet is made of.
use Prim.Native.Nat.{ℕ, zero, suc, ◌≤◌}
use mathlib.Core.Path.{◌≡◌, refl}
use mathlib.Core.Bool.{Bool, true, false}
use mathlib.Core.List.{List, [], ◌∷◌}
use mathlib.Core.Option.{some}
use native.Mathlib.Omega.{arith}
use borrow.Author.Tests.{leb-true}
use lib.Dec.{leb}
use lib.ListN.{length}
use Rattle.sheet.specs.Front.{Front, front, broken, then, where_holds, byte, bit_map, bit, name, name_if, times, all}
use Rattle.sheet.specs.Sheet.{most_members, Member, Structure, member, member_list, structure_of}

-- what holds of a field, where it is not broken
data Holds {A : Type 0} (P : A → Type 0) : Front A → Type 0 where
  of_field : {a : A} {rest : List ℕ} → P a → Holds P (front a rest)
  of_none : Holds P broken

then_holds : {A B : Type 0} {R : A → Type 0} {P : B → Type 0} {x : Front A} (f : A → List ℕ → Front B) → Holds R x
    → ((a : A) (rest : List ℕ) → R a → Holds P (f a rest)) → Holds P (then x f)
then_holds f (of_field {a = a} {rest = rest} r) g = g a rest r
then_holds f of_none g = of_none

-- nothing is said of some fields
abbrev Any : {A : Type 0} → A → Type 0
Any a = Unit {0}

any : {A : Type 0} (x : Front A) → Holds Any x
any (front a rest) = of_field (tt {0})
any broken = of_none

times_holds : {A : Type 0} (field : List ℕ → Front A) (n : ℕ) (s : List ℕ) → Holds (λ (l : List A). length l ≤ n) (times field n s)
unfolding times
times_holds field zero s = of_field {a = []} (omega arith)
times_holds {A} field (suc n) s =
    then_holds _ (any (field s)) (λ a rest u. then_holds _ (times_holds field n rest) (λ l end h. of_field {a = a ∷ l} (omega (arith, h))))

few_listed : (s : List ℕ) → Holds (λ (l : List Member). length l ≤ most_members) (member_list s)
few_listed s = then_holds _ (any (byte s)) (λ n rest u. go n rest (leb n most_members) refl)
  where
    go : (n : ℕ) (rest : List ℕ) (b : Bool) → leb n most_members ≡ b
        → Holds (λ (l : List Member). length l ≤ most_members) (where_holds b (times member n rest))
    go n rest true e = more (times_holds member n rest)
      where
        more : {x : Front (List Member)} → Holds (λ (l : List Member). length l ≤ n) x
            → Holds (λ (l : List Member). length l ≤ most_members) x
        more (of_field {a = l} h) = of_field {a = l} (omega (arith, h, leb-true n most_members e))
        more of_none = of_none
    go n rest false e = of_none

pub few_members_lem : (sheet : List ℕ) (s : Structure) → structure_of sheet ≡ some s → length s.members ≤ most_members
unfolding structure_of
few_members_lem sheet s e =
    last
    (then_holds _ (any (bit_map 16 sheet))
    (λ b s1 u. then_holds _ (any (name_if (bit 1 b) s1)) (λ x s2 u. then_holds _ (any (name_if (bit 2 b) s2)) (λ o s3 u.
    then_holds _ (any (name_if (bit 4 b) s3))
    (λ m s4 u. then_holds _ (any (name s4)) (λ shape s5 u. then_holds _ (few_listed s5) (λ l s6 h. of_field h))))))) e
  where
    last : {x : Front Structure} → Holds (λ (y : Structure). length y.members ≤ most_members) x → all x ≡ some s
        → length s.members ≤ most_members
    last (of_field {a = y} {rest = []} h) e = let q : y ≡ s = cc in rw (← q) h
    last (of_field {a = y} {rest = b ∷ rest} h) e = let z : ◌≡◌ {A = ℕ} 0 1 = cc in absurd (omega arith)
    last of_none e = let z : ◌≡◌ {A = ℕ} 0 1 = cc in absurd (omega arith)
