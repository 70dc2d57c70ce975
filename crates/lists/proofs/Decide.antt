-- Laws on what a test says of a statement.
use Prim.Native.Nat.{ℕ, ◌≤◌, ◌<◌}
use mathlib.Core.Path.{◌≡◌, refl, sym, ◌∙◌}
use mathlib.Core.Bool.{Bool, true, false, not}
use borrow.Author.Tests.{leb-true, le-leb, ltb-true, lt-ltb, eqb-true, eq-eqb}
use lib.Dec.{leb, ltb, eqb}
use Rattle.lists.proofs.Tests.{false_true}
use Rattle.lists.specs.Decide.{is_yes, Says}

pub says_yes : {P : Type 0} → P → Says P true
says_yes p = record { sound = λ e. p; complete = λ q. refl }

pub says_no : {P : Type 0} → (P → ⊥) → Says P false
says_no n = record { sound = λ e. false_true e; complete = λ p. absurd (n p) }

-- of what is said in another way
pub says_same : {P Q : Type 0} {r : Bool} → (P → Q) → (Q → P) → Says P r → Says Q r
says_same f g s = record { sound = λ e. f (s.sound e); complete = λ q. s.complete (g q) }

-- where the test failed
pub says_not : {P : Type 0} {r : Bool} → Says P r → r ≡ false → P → ⊥
says_not s e p = false_true {A = ⊥} (sym e ∙ s.complete p)

-- such a test is the decision's flag
pub says_is : {P : Type 0} {r : Bool} (d : Dec P) → Says P r → r ≡ is_yes d
says_is (yes p) s = s.complete p
says_is {r = true} (no n) s = absurd (n (s.sound refl))
says_is {r = false} (no n) s = refl

-- the tests of numbers, and a flag
pub says_eqb : (a b : ℕ) → Says (a ≡ b) (eqb a b)
says_eqb a b = record { sound = eqb-true a b; complete = eq-eqb a b }

pub says_leb : (a b : ℕ) → Says (a ≤ b) (leb a b)
says_leb a b = record { sound = leb-true a b; complete = le-leb a b }

pub says_ltb : (a b : ℕ) → Says (a < b) (ltb a b)
says_ltb a b = record { sound = ltb-true a b; complete = lt-ltb a b }

pub says_flag : (t : Bool) → Says (t ≡ true) t
says_flag t = record { sound = λ e. e; complete = λ e. e }

pub says_not_flag : (t : Bool) → Says (t ≡ false) (not t)
says_not_flag true = says_no (λ e. false_true (sym e))
says_not_flag false = says_yes refl

-- what a decision's flag says
pub yes_of : {P : Type 0} (d : Dec P) → true ≡ is_yes d → P
yes_of (yes p) e = p
yes_of (no n) e = false_true (sym e)
