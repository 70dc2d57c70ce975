-- The strict drain (01, "Drain"): the rules, and then a walk over the tokens that keeps the names of the open elements and the attribute
-- names of the last start tag.
use Rattle.std.specs.Prelude.{ℕ, zero, suc, ◌+◌, Bool, true, false, List, [], ◌∷◌, length, Result, Ok, Err}
use Rattle.lists.specs.Tests.{pick}
use Rattle.lists.specs.Bytes.{sameb}
use Rattle.reference.specs.Text.{validated}
use Rattle.reference.specs.Place.{failing_at}
use Rattle.reference.specs.declared.BadReference.{BadReference}
use Rattle.table.specs.Row.{Row, Name, Tok, start, attr, gt, close, slash, matter, references_in, bad, value_of, rows_of, toks_of}
use Rattle.table.specs.Test.{dec_table}
use Rattle.xml.specs.declared.Cause.{Cause}
use Rattle.xml.specs.declared.DrainError.{DrainError}

-- alike in prefix and local name
unfoldable pub same_name : Name → Name → Bool
same_name m n = pick (sameb m.prefix n.prefix) (sameb m.local n.local) false

-- a name is among those seen
unfoldable pub has_name : Name → List Name → Bool
has_name m [] = false
has_name m (n ∷ l) = pick (same_name m n) true (has_name m l)

-- the names of the open elements, innermost first, with the attribute names of the last start tag; or the row that failed, and why
pub data State : Type 0 where
  going : List Name → List Name → State
  failed : ℕ → Cause → State

-- an attribute's or a text's value, in row k
abbrev pub with_value : Result (Unit {0}) BadReference → ℕ → State → State
with_value (Ok u) k st = st
with_value (Err why) k st = failed k Cause.BadReference

-- "repeated attribute, reference (tested after repetition)"
abbrev pub with_attribute : Bool → ℕ → State → State
with_attribute true k st = failed k Cause.RepeatedAttribute
with_attribute false k st = st

-- "each close tag has the innermost open element's prefix and local name"
abbrev pub closed : Name → List Name → List Name → ℕ → State
closed m [] a k = failed k Cause.MismatchedEnd
closed m (n ∷ s) a k = pick (same_name m n) (going s a) (failed k Cause.MismatchedEnd)

-- the open elements without the innermost
abbrev pub popped : List Name → List Name
popped [] = []
popped (n ∷ s) = s

-- what the token of row k does
abbrev pub step : ℕ → List Name → List Name → Tok → State
step k s a (start n) = going (n ∷ s) []
step k s a (attr m v) = with_attribute (has_name m a) k (with_value (validated v) k (going s (m ∷ a)))
step k s a gt = going s a
step k s a (close m) = closed m s a k
step k s a slash = going (popped s) a
step k s a (matter b) = with_value (validated (references_in b)) k (going s a)
step k s a bad = failed k Cause.TokenError

unfoldable pub walk : ℕ → State → List Tok → State
walk k st [] = st
walk k (going s a) (t ∷ l) = walk (suc k) (step k s a t) l
walk k (failed j c) (t ∷ l) = failed j c

-- "unclosed element (row = row count)"
abbrev pub verdict : ℕ → State → Result (Unit {0}) DrainError
verdict n (going [] a) = Ok tt
verdict n (going (x ∷ s) a) = Err (DrainError.IllFormed n Cause.UnclosedElement)
verdict n (failed k c) = Err (DrainError.IllFormed k c)

-- of the tokens of a table that obeys the rules
unfoldable pub walked : List Tok → Result (Unit {0}) DrainError
walked l = verdict (length l) (walk zero (going [] []) l)

-- "1; then 9 ..", by a decision of the rules
abbrev pub drained_by : {P : Type 0} → Dec P → List Tok → Result (Unit {0}) DrainError
drained_by (yes rules) l = walked l
drained_by (no broken) l = Err DrainError.Table

-- 01, "Drain": what the drain of a body, a table and a final position answers
unfoldable pub drained : List ℕ → List ℕ → ℕ → Result (Unit {0}) DrainError
unfolding dec_table
drained body table final = drained_by (dec_table body table final) (toks_of body (rows_of table))

-- ---- the place of the drain's cause (change request 1: "Every reading above that answers 7 passes it on as a body offset; so do the
-- drain's cause ..")
-- the place of the failing `&` in row k, an offset in the body: the start of the row's value, and where validating that value fails
unfoldable pub reference_place : List ℕ → List Row → ℕ → ℕ
reference_place body [] k = 0
reference_place body (r ∷ rest) zero = r.value_start + failing_at (validated (value_of body r))
reference_place body (r ∷ rest) (suc k) = reference_place body rest k

-- of a cause that the drain answers with row k: only a reference has a place, the others have 0
abbrev pub cause_place : List ℕ → List Row → ℕ → Cause → ℕ
cause_place body rows k Cause.TokenError = 0
cause_place body rows k Cause.MismatchedEnd = 0
cause_place body rows k Cause.UnclosedElement = 0
cause_place body rows k Cause.RepeatedAttribute = 0
cause_place body rows k Cause.BadReference = reference_place body rows k

-- of what the drain answers
unfoldable pub drain_place : List ℕ → List Row → Result (Unit {0}) DrainError → ℕ
unfolding reference_place
drain_place body rows (Ok u) = 0
drain_place body rows (Err DrainError.Table) = 0
drain_place body rows (Err (DrainError.IllFormed k cause)) = cause_place body rows k cause
