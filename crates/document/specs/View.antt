-- The view: what a strict and a lenient reading see of a table. They differ in nothing else.
use Rattle.std.specs.Prelude.{ℕ, zero, suc, Bool, true, false, List, [], ◌∷◌, take, Err, Ok, Result}
use Rattle.std.proofs.Math.Option.{Option, none, some}
use Rattle.refusal.specs.declared.Refusal.{Refusal}
use Rattle.table.specs.Row.{Row, Tok, start, attr, gt, close, slash, matter, bad, toks_of}
use Rattle.xml.specs.declared.Cause.{Cause}
use Rattle.xml.specs.declared.DrainError.{DrainError}
use Rattle.xml.specs.Drain.{walked, cause_place, reference_place}

-- the rows that a reader takes one by one; what it meets when they run out, if anything; whether it is refused with 9 at its end; and the
-- stream position at the end of the rows, where a piece ends whose own rows run out
pub record View : Type 0 where
  pub rows : List Row
  pub failure : Option Refusal
  pub ill_formed : Bool
  pub ends : ℕ

-- nothing stops the reader before the table's end
abbrev pub whole : List Row → ℕ → View
whole rows final = record { rows = rows; failure = none; ill_formed = false; ends = final }

-- the position of row k, or the final one where there is no such row
abbrev pub position_at : ℕ → List Row → ℕ → ℕ
position_at final [] k = final
position_at final (r ∷ rest) zero = r.position
position_at final (r ∷ rest) (suc k) = position_at final rest k

-- what a text meets: "In a text under strict reading a mismatched or unclosed tag gives 9". (A text never meets a repeated attribute: the
-- start row before it gives 6.) A reference has the place `at` of the drain's cause, that of validation.
abbrev pub failure_of : ℕ → Cause → Refusal
failure_of at Cause.TokenError = Refusal.TokenError
failure_of at Cause.MismatchedEnd = Refusal.IllFormed
failure_of at Cause.UnclosedElement = Refusal.IllFormed
failure_of at Cause.RepeatedAttribute = Refusal.IllFormed
failure_of at Cause.BadReference = Refusal.BadReference at

-- strict: the rows before the one that fails the drain; the tokenizer then stands after that one. (A walk over tokens never says `Table`.)
abbrev pub strict_view : List ℕ → List Row → ℕ → Result (Unit {0}) DrainError → View
strict_view body rows final (Ok u) = whole rows final
strict_view body rows final (Err DrainError.Table) = whole rows final
strict_view body rows final (Err (DrainError.IllFormed k cause)) =
    record {
      rows = take k rows;
      failure = some (failure_of (cause_place body rows k cause) cause);
      ill_formed = true;
      ends = position_at final rows k;
    }

abbrev pub is_error : Tok → Bool
is_error (start n) = false
is_error (attr m v) = false
is_error gt = false
is_error (close m) = false
is_error slash = false
is_error (matter b) = false
is_error bad = true

abbrev pub later_error : Bool → Option ℕ → Option ℕ
later_error true k = some zero
later_error false none = none
later_error false (some k) = some (suc k)

-- the number of the first row that is a token error
unfoldable pub error_at : List Tok → Option ℕ
error_at [] = none
error_at (t ∷ l) = later_error (is_error t) (error_at l)

-- lenient: the rows before a token error; "at the final position when the rows run out", wherever the row of kind 8 stands
abbrev pub lenient_view : List Row → ℕ → Option ℕ → View
lenient_view rows final none = whole rows final
lenient_view rows final (some k) = record { rows = take k rows; failure = some Refusal.TokenError; ill_formed = false; ends = final }

unfoldable pub view : Bool → List ℕ → List Row → ℕ → View
unfolding reference_place
view true body rows final = strict_view body rows final (walked (toks_of body rows))
view false body rows final = lenient_view rows final (error_at (toks_of body rows))
