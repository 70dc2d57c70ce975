-- Each answer as 01's number (refusal/specs/Numbers.antt) and values: 0 where the operation finished. The place beside the number 7 is
-- that of the first failing `&`, "counted from the start of the text they got" (change request 1).
use Rattle.std.specs.Prelude.{ℕ, ◌≡◌, List, Result, Ok, Err, length}
use Rattle.refusal.specs.declared.Refusal.{Refusal}
use Rattle.refusal.specs.Numbers.{number}
use Rattle.reference.specs.Text.{answer, filled, unescaped}
use Rattle.reference.specs.Place.{failing_at}
use Rattle.reference.specs.declared.BadReference.{BadReference}
use Rattle.reference.specs.declared.UnescapeError.{UnescapeError}
use Rattle.xml.specs.declared.Cause.{Cause}
use Rattle.xml.specs.declared.DrainError.{DrainError}

abbrev pub finished : ℕ
finished = 0

-- how long a buffer is, where `length` is a parameter's name
abbrev pub size_of : List ℕ → ℕ
size_of l = length l

-- "Validate. 7."
abbrev pub validated_number : Result (Unit {0}) BadReference → ℕ
validated_number (Ok u) = finished
validated_number (Err e) = number (Refusal.BadReference e.at)

-- the promise: r is the number and p the place of the answer
pub record ValidateCall (v : Result (Unit {0}) BadReference) (p r : ℕ) : Type 0 where
  pub number : r ≡ validated_number v
  pub place : p ≡ failing_at v

-- "Unescape. 7, then 10": the number, how many bytes were written, and the place
abbrev pub unescaped_number : Result ℕ UnescapeError → ℕ
unescaped_number (Ok n) = finished
unescaped_number (Err (UnescapeError.BadReference at)) = number (Refusal.BadReference at)
unescaped_number (Err UnescapeError.NoRoom) = number Refusal.NoRoom

abbrev pub unescaped_length : Result ℕ UnescapeError → ℕ
unescaped_length (Ok n) = n
unescaped_length (Err (UnescapeError.BadReference at)) = 0
unescaped_length (Err UnescapeError.NoRoom) = 0

abbrev pub unescaped_place : Result ℕ UnescapeError → ℕ
unescaped_place (Ok n) = 0
unescaped_place (Err (UnescapeError.BadReference at)) = at
unescaped_place (Err UnescapeError.NoRoom) = 0

-- the promise: r is the number, n the length and p the place of the answer, and the buffer, which held old, now holds new
pub record UnescapeCall (text old new : List ℕ) (n p r : ℕ) : Type 0 where
  pub number : r ≡ unescaped_number (answer (unescaped text) (length old))
  pub written : n ≡ unescaped_length (answer (unescaped text) (length old))
  pub place : p ≡ unescaped_place (answer (unescaped text) (length old))
  pub buffer : new ≡ filled (unescaped text) old

-- the causes in the order of 01, "Drain", from 1
abbrev pub cause_number : Cause → ℕ
cause_number Cause.TokenError = 1
cause_number Cause.MismatchedEnd = 2
cause_number Cause.UnclosedElement = 3
cause_number Cause.RepeatedAttribute = 4
cause_number Cause.BadReference = 5

-- "Drain. 1; then 9 with the first failing row and its cause": the number, the row and the cause
abbrev pub drained_number : Result (Unit {0}) DrainError → ℕ
drained_number (Ok u) = finished
drained_number (Err DrainError.Table) = number Refusal.Table
drained_number (Err (DrainError.IllFormed row cause)) = number Refusal.IllFormed

abbrev pub drained_row : Result (Unit {0}) DrainError → ℕ
drained_row (Ok u) = 0
drained_row (Err DrainError.Table) = 0
drained_row (Err (DrainError.IllFormed row cause)) = row

abbrev pub drained_cause : Result (Unit {0}) DrainError → ℕ
drained_cause (Ok u) = 0
drained_cause (Err DrainError.Table) = 0
drained_cause (Err (DrainError.IllFormed row cause)) = cause_number cause

pub record DrainCall (d : Result (Unit {0}) DrainError) (row cause r : ℕ) : Type 0 where
  pub number : r ≡ drained_number d
  pub first : row ≡ drained_row d
  pub why : cause ≡ drained_cause d
