-- A choice by a test, a test as a number, whether a number lies in a range, and one less.
use Rattle.std.specs.Prelude.{ℕ, zero, suc, Bool, true, false, leb}

-- one of two, by a test
abbrev pub pick {ℓ} : {A : Type ℓ} → Bool → A → A → A
pick true a b = a
pick false a b = b

-- yes as 1, no as 0
abbrev pub yes_no : Bool → ℕ
yes_no true = 1
yes_no false = 0

-- from ≤ x ≤ to
abbrev pub within : ℕ → ℕ → ℕ → Bool
within from to x = pick (leb from x) (leb x to) false

-- one less, or 0: n - 1, by its cases
abbrev pub less : ℕ → ℕ
less zero = zero
less (suc n) = n
