-- Decisions that compute: of a conjunction, of an implication, of what is said in another way; and what a test says of a statement.
use Rattle.std.specs.Prelude.{◌≡◌, refl, Bool, true, false}
use Rattle.std.proofs.Common.{true≢false}
use Rattle.std.proofs.lemmas.Bool.{false≢true}

infixr 35 ◌and◌
abbrev pub ◌and◌ : {A B : Type 0} → Dec A → Dec B → Dec (A × B)
yes a and yes b = yes (a, b)
yes a and no b = no (λ p. b p.1)
no a and d = no (λ p. a p.0)

infixr 30 ◌implies◌
abbrev pub ◌implies◌ : {A B : Type 0} → Dec A → Dec B → Dec (A → B)
yes a implies yes b = yes (λ x. b)
yes a implies no b = no (λ f. b (f a))
no a implies d = yes (λ x. absurd (a x))

-- what is said in two ways is decided in both
abbrev pub same : {A B : Type 0} → (A → B) → (B → A) → Dec A → Dec B
same f g (yes a) = yes (f a)
same f g (no n) = no (λ b. n (g b))

abbrev pub is_true : (b : Bool) → Dec (b ≡ true)
is_true true = yes refl
is_true false = no false≢true

abbrev pub is_false : (b : Bool) → Dec (b ≡ false)
is_false false = yes refl
is_false true = no true≢false

-- a decision as a flag
abbrev pub is_yes : {P : Type 0} → Dec P → Bool
is_yes (yes p) = true
is_yes (no n) = false

-- a test says whether P
pub record Says (P : Type 0) (r : Bool) : Type 0 where
  pub sound : r ≡ true → P
  pub complete : P → r ≡ true
