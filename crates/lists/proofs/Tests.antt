-- Laws on a choice by a test, and what `search` needs to go by the tests of a definition.
use Prim.Native.Nat.{ℕ, zero, suc, ◌-◌, ◌≤◌}
use mathlib.Core.Path.{◌≡◌, refl}
use mathlib.Core.Bool.{Bool, true, false}
use mathlib.Core.Logic.{◌⊎◌, inl, inr}
use native.Mathlib.Nat.{lt_of_lt_of_le}
use native.Mathlib.Omega.{arith}
use borrow.Author.Rules.{rules}
use borrow.Author.Tests.{leb-true, le-leb, lt-leb, le-ltb, lt-ltb, eq-eqb, ne_eqb}
use lib.Dec.{leb}
use Rattle.lists.specs.Tests.{pick, within, less}

pub pick_same {ℓ} : {A : Type ℓ} (t : Bool) (a : A) → pick t a a ≡ a
pick_same true a = refl
pick_same false a = refl

pub pick_flag : (t : Bool) → t ≡ pick t true false
pick_flag true = refl
pick_flag false = refl

-- what holds of both holds of the one that is picked
pub pick_all : {A : Type 0} (P : A → Type 0) (t : Bool) (a b : A) → P a → P b → P (pick t a b)
pick_all P true a b p q = p
pick_all P false a b p q = q

-- the same, with what the test says
pub pick_cases : {A : Type 0} (P : A → Type 0) (t : Bool) (a b : A) → (t ≡ true → P a) → (t ≡ false → P b) → P (pick t a b)
pick_cases P true a b p q = p refl
pick_cases P false a b p q = q refl

-- no two constructors are equal
pub false_true {ℓ} : {A : Type ℓ} → false ≡ true → A
false_true e = let z : ◌≡◌ {A = ℕ} 0 1 = cc in absurd (omega arith)

-- `pick t true u` is t or u
pub or_is : (t u : Bool) → pick t true u ≡ true → (t ≡ true) ⊎ (u ≡ true)
or_is true u e = inl refl
or_is false u e = inr e

pub within_is : (from to x : ℕ) → within from to x ≡ true → (from ≤ x) × (x ≤ to)
within_is from to x = go (leb from x) refl
  where
    go : (t : Bool) → leb from x ≡ t → pick t (leb x to) false ≡ true → (from ≤ x) × (x ≤ to)
    go true p e = (leb-true _ _ p, leb-true _ _ e)
    go false p e = false_true e

pub is_within : (from to x : ℕ) → from ≤ x → x ≤ to → within from to x ≡ true
is_within from to x g h = rw (le-leb from x g, le-leb x to h)

-- by a flag t that a call gave, and that was tested
pub pick_true : {A : Type 0} {t : Bool} (u : Bool) (a b r : A) → t ≡ u → t ≡ true → r ≡ a → r ≡ pick u a b
pick_true {t = t} u a b r e h q = rw (← e, h) q

pub pick_false : {A : Type 0} {t : Bool} (u : Bool) (a b r : A) → t ≡ u → t ≡ false → r ≡ b → r ≡ pick u a b
pick_false {t = t} u a b r e h q = rw (← e, h) q

pub less_is : (n : ℕ) → less n ≡ n - 1
less_is zero = refl
less_is (suc n) = omega arith

-- what `search` needs besides the borrow checker's own set to go by the tests of a definition
pub ruleset tests = (rules, le-leb, lt-leb, le-ltb, lt-ltb, eq-eqb, ne_eqb, lt_of_lt_of_le)

pub ruleset flags = (tests, pick_true, pick_false)
