-- The search for the part of a body that has a name.
use Rattle.std.specs.Prelude.{ℕ, ◌+◌, ◌≤◌, ◌≡◌, List, length, Result, Ok, Err}
use Rattle.refusal.specs.declared.Refusal.{Refusal}
use Rattle.refusal.specs.Answer.{Answer, gives, onward}
use Rattle.document.specs.declared.part.Piece.{Piece}
use Rattle.document.specs.View.{View}
use Rattle.document.specs.Scope.{Child, piece_of}
use Rattle.readings.specs.Opening.{present}
use Rattle.readings.specs.Find.{first_child}
use Rattle.scalar.specs.Answers.{answer}

-- the piece of the first of some elements that has the name
abbrev pub first_piece : List ℕ → View → List ℕ → List Child → Answer Piece
first_piece body v name l = onward (present Refusal.NoSuchElement (first_child name l)) (λ (c : Child). gives (piece_of body v c))

-- a piece lies in a body
abbrev pub Inside : List ℕ → Result Piece Refusal → Type 0
Inside body (Ok p) = p.start + p.len ≤ length body
Inside body (Err r) = Unit {0}

-- the promise: the definition's part, which lies in the body
pub record FindingIs (body : List ℕ) (a : Answer Piece) (r : Result Piece Refusal) : Type 0 where
  pub is : answer r ≡ a
  pub inside : Inside body r
