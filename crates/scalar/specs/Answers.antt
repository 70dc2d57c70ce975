-- What the functions answer, as `readings` says it.
use Rattle.std.specs.Prelude.{ℕ, Result, Ok, Err}
use Rattle.refusal.specs.declared.Refusal.{Refusal}
use Rattle.refusal.specs.Answer.{Answer, gives, refuses}
use Rattle.document.specs.declared.part.Piece.{Piece}

-- a value, or why there is none
abbrev pub answer : {A : Type 0} → Result A Refusal → Answer A
answer (Ok a) = gives a
answer (Err r) = refuses r

-- a part by its start and its length
abbrev pub span_as : Result (ℕ × ℕ) Refusal → Answer Piece
span_as (Ok p) = gives (record { start = p.0; len = p.1 })
span_as (Err r) = refuses r
