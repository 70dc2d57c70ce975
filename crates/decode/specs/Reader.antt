-- What row numbers stand for in `document`, of a body and the first n rows of a table, and what the reader over rows that are seen answers.
use Rattle.std.specs.Prelude.{ℕ, zero, suc, ◌+◌, ◌-◌, ◌*◌, ◌≤◌, ◌<◌, ◌≡◌, Bool, true, false, eqb, get_or, List, [], ◌∷◌, Option, Some, None}
use Rattle.std.specs.Prelude.{Result, Ok, Err}
use Rattle.std.proofs.Math.Option as math
use Rattle.lists.specs.Tests.{pick}
use Rattle.refusal.specs.declared.Refusal.{Refusal}
use Rattle.refusal.specs.Answer.{Answer, gives, refuses}
use Rattle.reference.specs.Text.{bytes, unescaped, meaning}
use Rattle.table.specs.Row.{toks_of}
use Rattle.table.specs.Flat.{rows_from}
use Rattle.table.specs.Names.{name_matches}
use Rattle.table.specs.Rows.{InTable, name_at, value_at}
use Rattle.document.specs.Reader.{Reader, reader, depth, Scope, document, element, StartEl, blank, found, gone, next, skip}
use Rattle.document.specs.Reader as doc
use Rattle.document.specs.Scope.{Child, dropped, leave, on_root, root_of}
use Rattle.document.specs.Text.{unescaped_from, text_of}
use Rattle.document.specs.View.{View}
use Rattle.decode.specs.declared.place.Cursor.{Cursor}
use Rattle.decode.specs.declared.place.Past.{Past}
use Rattle.decode.specs.declared.place.Start.{Start}
use Rattle.decode.specs.declared.place.Found.{Found}
use Rattle.decode.specs.declared.place.Scope.{Scope as ScopeAt}
use Rattle.decode.specs.Place.{toks_from, is_bytes, StartIn, Outside, EndedAt, at_first}

-- ---- what row numbers stand for
abbrev pub reader_at : List ℕ → List ℕ → ℕ → Cursor → Reader
reader_at body t n c = reader c.depth c.row (toks_from body t n c.row)

abbrev pub past_at : List ℕ → List ℕ → ℕ → Past → doc.Past
past_at body t n p = record { ended = p.ended; reader = reader_at body t n p.at }

-- a scope: its name is that of its start row
abbrev pub scope_at : List ℕ → List ℕ → ScopeAt → Scope
scope_at body t ScopeAt.Document = document
scope_at body t (ScopeAt.Element d k) = element d (name_at body t k)

-- an attribute, its value unescaped; and those of m rows from row k on
abbrev pub attribute_at : List ℕ → List ℕ → ℕ → doc.Attribute
attribute_at body t k = record { name = name_at body t k; value = meaning (unescaped (value_at body t k)) }

abbrev pub attributes_from : List ℕ → List ℕ → ℕ → ℕ → List doc.Attribute
attributes_from body t k zero = []
attributes_from body t k (suc m) = attribute_at body t k ∷ attributes_from body t (suc k) m

-- a start element: its attributes are the rows between its row and the end of its tag
abbrev pub start_at : List ℕ → List ℕ → Start → StartEl
start_at body t s =
    record {
      name = name_at body t s.row;
      attributes = attributes_from body t (s.row + 1) (s.end - (s.row + 1));
      closed = s.closed;
      depth = s.depth;
      row = s.row;
    }

-- an element whose start tag was read, and the reader at its content
abbrev pub child_from : List ℕ → List ℕ → ℕ → Start → Cursor → Child
child_from body t n s c = record { start = start_at body t s; inner = reader_at body t n c }

abbrev pub next_at : List ℕ → List ℕ → ℕ → Result Found Past → doc.Next
next_at body t n (Ok f) = found (start_at body t f.start) (reader_at body t n f.at)
next_at body t n (Err p) = gone (past_at body t n p)

-- ---- the skip to the end of a scope, from a place: the definition's answer, outside of start tags
pub record PastIs (body t : List ℕ) (n : ℕ) (s : ScopeAt) (c : Cursor) (r : Past) : Type 0 where
  pub is : past_at body t n r ≡ skip (scope_at body t s) c.depth c.row (toks_from body t n c.row)
  pub stands : Outside body t n r.at
  pub later : c.row ≤ r.at.row

-- an element that is dropped
pub record DropIs (body t : List ℕ) (n : ℕ) (s : Start) (c : Cursor) (r : Past) : Type 0 where
  pub is : past_at body t n r ≡ dropped (child_from body t n s c)
  pub stands : Outside body t n r.at
  pub later : c.row ≤ r.at.row

-- one that is left after its children, wherever the reader stood in its content
pub record LeaveIs (body t : List ℕ) (n : ℕ) (s : Start) (p : Past) (r : Cursor) : Type 0 where
  pub is : (c : Cursor) → reader_at body t n r ≡ leave (child_from body t n s c) (past_at body t n p)
  pub stands : Outside body t n r
  pub later : p.at.row ≤ r.row

-- ---- the search for a start element
-- from row k on it found one that was read, after that row, with the reader after it and outside of start tags
pub record FoundFrom (body t : List ℕ) (n k : ℕ) (f : Found) : Type 0 where
  pub start : StartIn body t n f.start
  pub stands : Outside body t n f.at
  pub since : k ≤ f.start.row
  pub past : f.start.end < f.at.row

-- or it found none, and ended at no earlier place
pub record GoneFrom (body t : List ℕ) (n k : ℕ) (p : Past) : Type 0 where
  pub ended : EndedAt body t n p
  pub since : k ≤ p.at.row

abbrev pub MetFrom : List ℕ → List ℕ → ℕ → ℕ → Result Found Past → Type 0
MetFrom body t n k (Ok f) = FoundFrom body t n k f
MetFrom body t n k (Err p) = GoneFrom body t n k p

-- the next start element in a scope, from a place
pub record SoughtIs (body t : List ℕ) (n : ℕ) (s : ScopeAt) (c : Cursor) (r : Result Found Past) : Type 0 where
  pub is : next_at body t n r ≡ next (scope_at body t s) blank c.depth c.row (toks_from body t n c.row)
  pub met : MetFrom body t n c.row r

-- the first of all: what is sought in the document from its first row on, and so the definition's root
pub record FirstIs (body t : List ℕ) (n : ℕ) (r : Result Found Past) : Type 0 where
  pub sought : SoughtIs body t n ScopeAt.Document at_first r
  pub root : on_root (next_at body t n r) ≡ root_of (toks_of body (rows_from t 0 n))

-- ---- the reading of a start tag
-- whether row k is an attribute that unescapes
abbrev pub good_attribute : List ℕ → List ℕ → ℕ → Bool
good_attribute body t k = pick (eqb (get_or t (k * 8 + 0) 0) 2) (is_bytes (unescaped (value_at body t k))) false

-- the rows after row i and before row k are such attributes, and row k is none
pub record TagEnd (body t : List ℕ) (n i k : ℕ) : Type 0 where
  pub low : i < k
  pub high : k ≤ n
  pub good : (j : ℕ) → i < j → j < k → good_attribute body t j ≡ true
  pub stops : k < n → good_attribute body t k ≡ false

-- a start tag begins in row k, at depth d
pub record StartsAt (body t : List ℕ) (n d k : ℕ) : Type 0 where
  pub at : Outside body t n (record { row = k; depth = depth d })
  pub here : k < n
  pub starts : get_or t (k * 8 + 0) 0 ≡ 1

-- the search from there on, whatever the scope
pub record TagIs (body t : List ℕ) (n d k : ℕ) (r : Result Found Past) : Type 0 where
  pub is : (s : Scope) → next_at body t n r ≡ next s blank (depth d) k (toks_from body t n k)
  pub met : MetFrom body t n k r

-- ---- the first attribute that a pattern asks for, by its row
-- a pattern asks for the name of none of the rows from one on and before another
pub record NoMatch (body t pattern : List ℕ) (from end : ℕ) : Type 0 where
  pub none : (j : ℕ) → from ≤ j → j < end → name_matches (name_at body t j) pattern ≡ false

-- of these rows, k is the first whose name it asks for; its value unescapes, which was seen as the start tag was read
pub record FirstNamed (body t pattern : List ℕ) (from end k : ℕ) : Type 0 where
  pub low : from ≤ k
  pub high : k < end
  pub asked : name_matches (name_at body t k) pattern ≡ true
  pub earlier : NoMatch body t pattern from k
  pub row : InTable t k
  pub value : unescaped (value_at body t k) ≡ bytes (meaning (unescaped (value_at body t k)))

abbrev pub NamedIn : List ℕ → List ℕ → List ℕ → ℕ → ℕ → Option ℕ → Type 0
NamedIn body t pattern from end None = NoMatch body t pattern from end
NamedIn body t pattern from end (Some k) = FirstNamed body t pattern from end k

-- ---- the first text of an element, by its row
-- what a text meets where the rows run out
abbrev pub failure_at : Option Refusal → math.Option Refusal
failure_at None = math.none
failure_at (Some r) = math.some r

-- what a text by its row stands for; where it does not unescape, its place is told "as a body offset" (change request 1): the start of
-- the row's value, and the place in it
abbrev pub text_by : List ℕ → List ℕ → Result (Option ℕ) Refusal → Answer (List ℕ)
text_by body t (Ok (Some k)) = unescaped_from (get_or t (k * 8 + 5) 0) (unescaped (value_at body t k))
text_by body t (Ok None) = gives []
text_by body t (Err why) = refuses why

-- its row is one of the table's
abbrev pub RowIn : List ℕ → Result (Option ℕ) Refusal → Type 0
RowIn t (Ok (Some k)) = InTable t k
RowIn t (Ok None) = Unit {0}
RowIn t (Err why) = Unit {0}

-- the definition's text, in a view of the first n rows and of what is met where they run out
pub record TextBy (body t : List ℕ) (n : ℕ) (failure : Option Refusal) (s : Start) (c : Cursor)
    (r : Result (Option ℕ) Refusal) : Type 0 where
  pub same : (v : View) → v.rows ≡ rows_from t 0 n → v.failure ≡ failure_at failure
      → text_by body t r ≡ text_of v (child_from body t n s c)
  pub row : RowIn t r
