-- The walk of the drain by row numbers: the fault of a row, and the open elements.
use Rattle.std.specs.Prelude.{ℕ, zero, suc, ◌+◌, ◌-◌, ◌*◌, ◌≤◌, ◌<◌, ◌≡◌, Bool, true, List, [], ◌∷◌, eqb, get_or, set, Result, Ok, Err}
use Rattle.lists.specs.Tests.{pick}
use Rattle.reference.specs.Text.{validated}
use Rattle.reference.specs.Place.{failing_at}
use Rattle.reference.specs.declared.BadReference.{BadReference}
use Rattle.table.specs.Row.{Name, Tok, start, attr, gt, close, slash, matter, references_in, bad}
use Rattle.table.specs.Rules.{open_count}
use Rattle.table.specs.Rows.{InTable, name_at, value_at, tok_at}
use Rattle.xml.specs.Drain.{same_name, has_name}
use Rattle.xml.specs.declared.Cause.{Cause}

-- ---- names: of the m rows before row k, the nearest first; and of those back to the row after row `tag`
abbrev pub back : List ℕ → List ℕ → ℕ → ℕ → List Name
back body t k zero = []
back body t k (suc m) = name_at body t (k - 1) ∷ back body t (k - 1) m

abbrev pub names_back : List ℕ → List ℕ → ℕ → ℕ → List Name
names_back body t tag k = back body t k (k - (tag + 1))

-- ---- values: the fault where a reference is not right
abbrev pub Fault : Type 0
Fault = Result Unit Cause

abbrev pub as_fault : Result Unit BadReference → Fault
as_fault (Ok u) = Ok u
as_fault (Err e) = Err Cause.BadReference

abbrev pub value_fault : List ℕ → Fault
value_fault v = as_fault (validated v)

-- where validating the value of row k fails, "as a body offset" (change request 1); the value's start where it is valid
abbrev pub failing_in : List ℕ → List ℕ → ℕ → ℕ
failing_in body t k = get_or t (k * 8 + 5) 0 + failing_at (validated (value_at body t k))

-- where a test says so, a value, by its start and length, lies between two places
pub record LiesIn (from len low high : ℕ) (r : Bool) : Type 0 where
  pub says : r ≡ true → (low ≤ from) × (from + len ≤ high)

-- ---- what is wrong with a token: top is the name of the innermost open element, names are the attribute names of the start tag so far
abbrev pub fault_of : Name → List Name → Tok → Fault
fault_of top names (start n) = Ok tt
fault_of top names (attr m v) = pick (has_name m names) (Err Cause.RepeatedAttribute) (value_fault v)
fault_of top names gt = Ok tt
fault_of top names (close m) = pick (same_name m top) (Ok tt) (Err Cause.MismatchedEnd)
fault_of top names slash = Ok tt
fault_of top names (matter b) = value_fault (references_in b)
fault_of top names bad = Err Cause.TokenError

-- the fault of row k, where the innermost open element starts in row `top`: an attribute stands in that element's start tag
pub record FaultIs (body t : List ℕ) (top k : ℕ) (r : Fault) : Type 0 where
  pub is : r ≡ fault_of (name_at body t top) (names_back body t top k) (tok_at body t k)

-- row k and the start row `top` are rows of the table, and where row k is an attribute it stands after row `top`
pub record WellPlaced (t : List ℕ) (top k : ℕ) : Type 0 where
  pub row : InTable t k
  pub start : InTable t top
  pub in_tag : get_or t (k * 8 + 0) 0 ≡ 2 → top < k

-- ---- the start rows of the open elements, the innermost last: the last of so many, or row 0
abbrev pub top_of : List ℕ → ℕ → ℕ
top_of starts zero = 0
top_of starts (suc d) = get_or starts d 0

-- the start rows after row k, of a kind, where so many were open: it is put after them if it starts an element
abbrev pub starts_after : List ℕ → ℕ → ℕ → ℕ → List ℕ
starts_after starts depth k kind = pick (eqb kind 1) (set starts depth k) starts

pub record Entered (starts : List ℕ) (depth kind k : ℕ) (after : List ℕ) (r : ℕ) : Type 0 where
  pub rows : after ≡ starts_after starts depth k kind
  pub count : r ≡ open_count depth kind
