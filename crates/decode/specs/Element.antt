-- What elements, texts and pieces of a view stand for in `document`, and what each method of a view and of an element answers.
use Rattle.std.specs.Prelude.{ℕ, ◌+◌, ◌*◌, ◌≤◌, ◌<◌, ◌≡◌, true, get_or, List, [], ◌∷◌, length, Option, Some, None, Result, Ok, Err}
use Rattle.std.proofs.Math.Option as math
use Rattle.lists.specs.Tests.{pick}
use Rattle.refusal.specs.declared.Refusal.{Refusal}
use Rattle.reference.specs.Text.{bytes, unescaped, meaning}
use Rattle.table.specs.Row.{toks_of}
use Rattle.table.specs.Names.{name_matches}
use Rattle.table.specs.Rows.{InTable, name_at, value_at}
use Rattle.document.specs.Reader.{Reader, found, gone}
use Rattle.document.specs.Reader as doc
use Rattle.document.specs.Scope.{Child, scope_of, shut, next_from, leave, root_of, piece_end, piece_of}
use Rattle.document.specs.declared.part.Piece.{Piece}
use Rattle.document.specs.declared.part.Text.{Text}
use Rattle.decode.specs.declared.place.Cursor.{Cursor}
use Rattle.decode.specs.declared.place.Past.{Past}
use Rattle.decode.specs.declared.place.Start.{Start}
use Rattle.decode.specs.declared.view.View.{View}
use Rattle.decode.specs.declared.element.Element.{Element}
use Rattle.decode.specs.Place.{Outside}
use Rattle.decode.specs.Reader.{reader_at, past_at, start_at, child_from, DropIs, GoneFrom, NoMatch}
use Rattle.decode.specs.View.{view_of}

-- ---- what row numbers stand for, of a view
abbrev pub reader_of : View → Cursor → Reader
reader_of v c = reader_at v.table.body.now v.table.rows.now v.count c

abbrev pub past_of : View → Past → doc.Past
past_of v p = past_at v.table.body.now v.table.rows.now v.count p

-- an element, and the reader at its content
abbrev pub child_at : View → Start → Cursor → Child
child_at v s c = child_from v.table.body.now v.table.rows.now v.count s c

abbrev pub child_of : Element → Child
child_of e = child_at e.view e.start e.at

abbrev pub next_of : View → Result Element Past → doc.Next
next_of v (Ok e) = let c = child_of e in found c.start c.inner
next_of v (Err p) = gone (past_of v p)

-- ---- the root
abbrev pub root_at : Option Element → math.Option Child
root_at None = math.none
root_at (Some e) = math.some (child_of e)

-- an element is one of a view
abbrev pub InView : View → Option Element → Type 0
InView v None = Unit {0}
InView v (Some e) = e.view ≡ v

pub record RootIs (v : View) (r : Option Element) : Type 0 where
  pub is : root_at r ≡ root_of (toks_of v.table.body.now (view_of v).rows)
  pub view : InView v r

-- ---- the children of an element: the next from where the reader stands; one that ended in `/>` has none
abbrev pub next_child : Child → doc.Next
next_child c = let inside = next_from (scope_of c.start) c.inner in pick c.start.closed (gone (shut c.inner)) inside

-- a search of a view from row k on found an element, after that row; or it ended at no earlier place
pub record FoundIn (v : View) (k : ℕ) (c : Element) : Type 0 where
  pub view : c.view ≡ v
  pub since : k ≤ c.start.row
  pub past : c.start.end < c.at.row

abbrev pub GoneIn : View → ℕ → Past → Type 0
GoneIn v k p = GoneFrom v.table.body.now v.table.rows.now v.count k p

abbrev pub Met : View → ℕ → Result Element Past → Type 0
Met v k (Ok c) = FoundIn v k c
Met v k (Err p) = GoneIn v k p

pub record NextIs (e : Element) (r : Result Element Past) : Type 0 where
  pub is : next_of e.view r ≡ next_child (child_of e)
  pub met : Met e.view e.at.row r

-- the element of a view, by its start and its place
pub record FoundAt (v : View) (s : Start) (c : Cursor) (r : Element) : Type 0 where
  pub view : r.view ≡ v
  pub start : r.start ≡ s
  pub at : r.at ≡ c

-- ---- an element that is dropped, and one that is left after its children
abbrev pub DroppedIs : Element → Past → Type 0
DroppedIs e r = DropIs e.view.table.body.now e.view.table.rows.now e.view.count e.start e.at r

pub record LeftIs (e : Element) (p : Past) (r : Cursor) : Type 0 where
  pub is : reader_of e.view r ≡ leave (child_of e) (past_of e.view p)
  pub stands : Outside e.view.table.body.now e.view.table.rows.now e.view.count r
  pub later : p.at.row ≤ r.row

-- ---- the first attribute that a pattern asks for (`StartEl::attr`)
unfoldable pub first_named : List ℕ → List doc.Attribute → math.Option (List ℕ)
first_named pattern [] = math.none
first_named pattern (a ∷ l) = pick (name_matches a.name pattern) (math.some a.value) (first_named pattern l)

-- its value unescapes: that was seen as the start tag was read
abbrev pub attribute_value : Option Text → math.Option (List ℕ)
attribute_value None = math.none
attribute_value (Some t) = math.some (meaning (unescaped t.bytes.now))

abbrev pub Unescapes : Option Text → Type 0
Unescapes None = Unit {0}
Unescapes (Some t) = unescaped t.bytes.now ≡ bytes (meaning (unescaped t.bytes.now))

-- the value of row k, as a text
pub record ValueIs (body t : List ℕ) (k : ℕ) (r : Text) : Type 0 where
  pub from : r.from ≡ get_or t (k * 8 + 5) 0
  pub bytes : r.bytes.now ≡ value_at body t k

-- a text is empty, or it is the value of a row of the table
pub data TextIn (body t : List ℕ) (r : Text) : Type 0 where
  no_text : r.bytes.now ≡ [] → TextIn body t r
  row_text : (k : ℕ) → InTable t k → ValueIs body t k r → TextIn body t r

-- and so is one that is given
abbrev pub GivenIn : List ℕ → List ℕ → Result Text Refusal → Type 0
GivenIn body t (Ok r) = TextIn body t r
GivenIn body t (Err e) = Unit {0}

-- of these rows, one is the first whose name it asks for, and a text is its value
pub record FirstMatch (body t pattern : List ℕ) (from end : ℕ) (r : Text) : Type 0 where
  pub row : ℕ
  pub low : from ≤ row
  pub high : row < end
  pub asked : name_matches (name_at body t row) pattern ≡ true
  pub earlier : NoMatch body t pattern from row
  pub value : ValueIs body t row r

abbrev pub MatchIn : List ℕ → List ℕ → List ℕ → ℕ → ℕ → Option Text → Type 0
MatchIn body t pattern from end None = NoMatch body t pattern from end
MatchIn body t pattern from end (Some r) = FirstMatch body t pattern from end r

pub record AttributeOf (v : View) (s : Start) (pattern : List ℕ) (r : Option Text) : Type 0 where
  pub is : attribute_value r ≡ first_named pattern (start_at v.table.body.now v.table.rows.now s).attributes
  pub value : Unescapes r
  pub row : MatchIn v.table.body.now v.table.rows.now pattern (s.row + 1) s.end r

abbrev pub AttributeIs : Element → List ℕ → Option Text → Type 0
AttributeIs e pattern r = AttributeOf e.view e.start pattern r

-- ---- pieces: the definition's, which lies in the body
pub record PieceOf (v : View) (s : Start) (c : Cursor) (r : Piece) : Type 0 where
  pub is : r ≡ piece_of v.table.body.now (view_of v) (child_at v s c)
  pub inside : r.start + r.len ≤ length v.table.body.now

abbrev pub PieceIs : Element → Piece → Type 0
PieceIs e r = PieceOf e.view e.start e.at r

-- where it ends
pub record EndIs (v : View) (p : Past) (r : ℕ) : Type 0 where
  pub is : r ≡ piece_end (view_of v) (past_of v p)
  pub within : r ≤ length v.table.body.now
