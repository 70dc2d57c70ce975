-- What an answer is: given, with what holds of what it gives; or refused, with the condition of the refusal. Answers that go on from one
-- another are so in turn.
use mathlib.Core.Path.{◌≡◌, refl, sym, ap, subst}
use mathlib.Core.Bool.{Bool, true, false}
use Rattle.lists.proofs.Tests.{false_true}
use Rattle.refusal.specs.declared.Refusal.{Refusal}
use Rattle.refusal.specs.Answer.{Answer, gives, refuses, onward}

abbrev is_given : {A : Type 0} → Answer A → Bool
is_given (gives a) = true
is_given (refuses r) = false

abbrev refusal_in : {A : Type 0} → Refusal → Answer A → Refusal
refusal_in other (gives a) = other
refusal_in other (refuses r) = r

abbrev given_in : {A : Type 0} → A → Answer A → A
given_in other (gives a) = a
given_in other (refuses r) = other

-- no answer is both
pub given_refused : {A B : Type 0} {a : A} {r : Refusal} → gives a ≡ refuses r → B
given_refused e = false_true (sym (ap is_given e))

pub refuses_same : {A : Type 0} {r s : Refusal} → ◌≡◌ {A = Answer A} (refuses r) (refuses s) → r ≡ s
refuses_same {r = r} e = ap (refusal_in r) e

pub gives_same : {A : Type 0} {a b : A} → gives a ≡ gives b → a ≡ b
gives_same {a = a} e = ap (given_in a) e

pub data Is {A : Type 0} (Given : A → Type 0) (Refused : Refusal → Type 0) : Answer A → Type 0 where
  is_given_lem : {a : A} → Given a → Is Given Refused (gives a)
  is_refused : {r : Refusal} → Refused r → Is Given Refused (refuses r)

module _ {A : Type 0} {Given : A → Type 0} {Refused : Refusal → Type 0} where
  pub refused_is : {x : Answer A} {r : Refusal} → Is Given Refused x → x ≡ refuses r → Refused r
  refused_is (is_given_lem g) e = given_refused e
  refused_is (is_refused n) e = subst Refused (refuses_same e) n

  pub also : {Given' : A → Type 0} {Refused' : Refusal → Type 0} {x : Answer A} → Is Given Refused x → ((a : A) → Given a → Given' a)
      → ((r : Refusal) → Refused r → Refused' r) → Is Given' Refused' x
  also (is_given_lem {a = a} g) on off = is_given_lem (on a g)
  also (is_refused {r = r} n) on off = is_refused (off r n)

  pub onward_is : {B : Type 0} {Given' : B → Type 0} {Refused' : Refusal → Type 0} {x : Answer A} (f : A → Answer B) → Is Given Refused x
      → ((a : A) → Given a → Is Given' Refused' (f a))
      → ((r : Refusal) → Refused r → Refused' r) → Is Given' Refused' (onward x f)
  onward_is f (is_given_lem {a = a} g) on off = on a g
  onward_is f (is_refused {r = r} n) on off = is_refused (off r n)

-- an answer is itself, by its equations
pub itself : {A : Type 0} (x : Answer A) → Is (λ (a : A). x ≡ gives a) (λ (r : Refusal). x ≡ refuses r) x
itself (gives a) = is_given_lem refl
itself (refuses r) = is_refused refl
