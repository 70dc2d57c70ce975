-- What is known of a start element and of a place among the first n rows of a table, by number.
use Rattle.std.specs.Prelude.{ℕ, ◌+◌, ◌-◌, ◌*◌, ◌≤◌, ◌<◌, ◌≡◌, Bool, true, false, List, get_or}
use Rattle.reference.specs.Text.{Out, bytes, unescaped}
use Rattle.reference.specs.Text as ref
use Rattle.table.specs.Row.{Tok, toks_of}
use Rattle.table.specs.Rules.{in_tag_only}
use Rattle.table.specs.Flat.{rows_from}
use Rattle.table.specs.Rows.{InTable, value_at}
use Rattle.document.specs.Reader.{depth}
use Rattle.document.specs.Tags.{Tags}
use Rattle.decode.specs.declared.place.Cursor.{Cursor}
use Rattle.decode.specs.declared.place.Past.{Past}
use Rattle.decode.specs.declared.place.Start.{Start}
use Rattle.decode.specs.declared.place.Scope.{Scope}

-- the tokens from row k on
abbrev pub toks_from : List ℕ → List ℕ → ℕ → ℕ → List Tok
toks_from body t n k = toks_of body (rows_from t k (n - k))

-- whether a value unescapes
abbrev pub is_bytes : Out → Bool
is_bytes (bytes v) = true
is_bytes (ref.bad at) = false

-- a start element that was read: its rows are seen, and its attributes unescape
pub record StartIn (body t : List ℕ) (n : ℕ) (s : Start) : Type 0 where
  pub starts : get_or t (s.row * 8 + 0) 0 ≡ 1
  pub low : s.row < s.end
  pub high : s.end < n
  pub deep : s.depth.0 ≤ s.row
  pub good : (j : ℕ) → s.row < j → j < s.end → is_bytes (unescaped (value_at body t j)) ≡ true

-- the row of a scope's element is one of the table's
abbrev pub HasRow : List ℕ → Scope → Type 0
HasRow t Scope.Document = Unit {0}
HasRow t (Scope.Element d k) = InTable t k

-- a place: the depth is no greater than the number of rows before it
pub record At (n : ℕ) (c : Cursor) : Type 0 where
  pub high : c.row ≤ n
  pub low : c.depth.0 ≤ c.row

-- and from it on start tags are in order, whether it stands in one or outside
pub record Tagged (body t : List ℕ) (n : ℕ) (c : Cursor) : Type 0 where
  pub at : At n c
  pub in_tag : Bool
  pub tags : Tags in_tag (toks_from body t n c.row)

-- and it stands outside of them (truncated, so that an element can keep it as a fact)
pub record Outside (body t : List ℕ) (n : ℕ) (c : Cursor) : Type 0 where
  pub at : At n c
  pub tags : ∥ Tags false (toks_from body t n c.row) ∥₁

-- of its next row alone: there is none of a kind that comes in a start tag alone
pub record OutOfTag (t : List ℕ) (n : ℕ) (c : Cursor) : Type 0 where
  pub at : At n c
  pub out : c.row < n → in_tag_only (get_or t (c.row * 8 + 0) 0) ≡ false

-- the first place of all
abbrev pub at_first : Cursor
at_first = record { row = 0; depth = depth 0 }

-- where a search for children ended: outside of start tags, if it read the scope's end
pub record EndedAt (body t : List ℕ) (n : ℕ) (p : Past) : Type 0 where
  pub at : Tagged body t n p.at
  pub out : p.ended ≡ true → Outside body t n p.at

-- a scope that is over: where the reader stands then
abbrev pub over_at : Bool → ℕ → ℕ → Past
over_at ended k d = record { ended = ended; at = record { row = k; depth = depth d } }
