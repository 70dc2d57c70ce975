-- What an operation answers: a value, or a refusal (demand 1).
use Rattle.refusal.specs.declared.Refusal.{Refusal}

pub data Answer (A : Type 0) : Type 0 where
  gives : A → Answer A
  refuses : Refusal → Answer A

-- go on with the value
abbrev pub onward : {A B : Type 0} → Answer A → (A → Answer B) → Answer B
onward (gives a) f = f a
onward (refuses r) f = refuses r
