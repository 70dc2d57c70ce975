-- What an import service gets from a drain, a reading, and a reading of each piece by its own rows (demand 3, from a caller's side).
use Rattle.std.specs.Prelude.{ℕ, ◌+◌, ◌*◌, ◌/◌, ◌<◌, ◌≡◌, List, length, get_or, Option, None, Result, Ok, Err, IsSomeAnd, MatchResult}
use Rattle.table.specs.Row.{cut, rows_of, table_of}
use Rattle.table.specs.Piece.{element_rows, piece_rows}
use Rattle.xml.specs.declared.DrainError.{DrainError}
use Rattle.xml.specs.Drain.{drained}
use Rattle.xml.specs.Piece.{PieceAt}
use Rattle.document.specs.declared.part.Piece.{Piece}
use Rattle.readings.specs.Call.{Upload, Call, uploaded, calling}
use Rattle.readings.specs.Output.{piece_kind}
use Rattle.output.specs.Call.{room_of, number_of}
use Rattle.deserializer.specs.declared.Shape.{Shape}
use Rattle.deserializer.specs.declared.Reading.{Reading}
use Rattle.deserializer.specs.Call.{SheetCall, shape_depth}
use Rattle.deserializer.specs.Demand.{MayAnswer, defined_as}
use Rattle.import.specs.declared.pieces.Asked.{Asked}
use Rattle.import.specs.declared.pieces.Buffers.{Buffers}

-- the call of a reading that asks for this, at a depth
abbrev pub asking : Asked → ℕ → Call
asking a depth = calling a.sheet.now a.settings (shape_depth depth)

-- the strict drain passes an upload
pub record Passes (u : Upload) : Type 0 where
  pub is : drained u.body u.rows u.end ≡ Ok tt

-- a piece as an upload of its own: its bytes, the rows of the element that starts in a row, counted from the piece's first byte, and its
-- length as final position
abbrev pub piece_upload : Upload → ℕ → ℕ → ℕ → Upload
piece_upload u row start len = uploaded (cut u.body start len) (table_of (piece_rows u.body (element_rows (rows_of u.rows) row))) len

-- r is what comes of a reading of a piece by its element's rows, in buffers of these lengths; and its number is 0 or one of demand 3's six,
-- each where its condition holds: never 1, never 9
pub record Reread (shape : Shape) (u : Upload) (start len : ℕ) (call : Call) (entries texts : ℕ) (r : Reading) : Type 0 where
  pub row : ℕ
  pub piece : PieceAt u.body u.rows row start len
  -- the buffers, before and after
  pub e : List ℕ
  pub t : List ℕ
  pub e' : List ℕ
  pub t' : List ℕ
  pub entry_room : length e ≡ entries
  pub text_room : length t ≡ texts
  pub reads : SheetCall shape (piece_upload u row start len) call e t e' t' r.count r.length (number_of r.outcome)
  pub may : MayAnswer (defined_as shape) (piece_upload u row start len) call (room_of e t) (number_of r.outcome)

-- they are the two buffers that were lent, as long as they were
pub record SameBuffers (b b' : Buffers) : Type 0 where
  pub entries : b'.entries.ghost_name ≡ b.entries.ghost_name
  pub texts : b'.texts.ghost_name ≡ b.texts.ghost_name
  pub entry_room : length b'.entries.now ≡ length b.entries.now
  pub text_room : length b'.texts.now ≡ length b.texts.now

-- entry k is of kind 2, and this is its piece
pub record Names (entries : List ℕ) (k : ℕ) (piece : Piece) : Type 0 where
  pub kind : get_or entries (k * 6) 0 ≡ piece_kind
  pub start : piece.start ≡ get_or entries (k * 6 + 4) 0
  pub len : piece.len ≡ get_or entries (k * 6 + 5) 0

-- it is not, or there is no entry k
pub record NamesNone (entries : List ℕ) (k : ℕ) : Type 0 where
  pub is : k < length entries / 6 → get_or entries (k * 6) 0 ≡ piece_kind → ⊥

-- what came of the pieces of an upload, one after another: a reading, or nothing where none was read
abbrev pub Outcomes : Type 0
Outcomes = List (Option Reading)

-- of entry k, if it is of kind 2 and there is a place k among them: there stands what came of its piece
pub record RereadAt (shape : Shape) (u : Upload) (entries : List ℕ) (call : Call) (room texts : ℕ) (outcomes : Outcomes) (k : ℕ)
    : Type 0 where
  pub is : k < length entries / 6 → k < length outcomes → get_or entries (k * 6) 0 ≡ piece_kind
      → IsSomeAnd (get_or outcomes k None) (Reread shape u (get_or entries (k * 6 + 4) 0) (get_or entries (k * 6 + 5) 0) call room texts)

-- of entry k; in every other place stands what stood there, and so it does here where the entry is no piece
pub record RereadOne (shape : Shape) (u : Upload) (entries : List ℕ) (call : Call) (room texts : ℕ) (outcomes outcomes' : Outcomes) (k : ℕ)
    : Type 0 where
  pub here : RereadAt shape u entries call room texts outcomes' k
  pub others : (j : ℕ) → (j ≡ k → ⊥) → get_or outcomes' j None ≡ get_or outcomes j None
  pub idle : (get_or entries (k * 6) 0 ≡ piece_kind → ⊥) → get_or outcomes' k None ≡ get_or outcomes k None
  pub long : length outcomes' ≡ length outcomes

-- of each of the first n entries; in the places of all others, and of those that are no piece, stands what stood there
pub record EachReread (shape : Shape) (u : Upload) (entries : List ℕ) (n : ℕ) (call : Call) (room texts : ℕ)
    (outcomes outcomes' : Outcomes) : Type 0 where
  pub each : (k : ℕ) → k < n → RereadAt shape u entries call room texts outcomes' k
  pub others : (k : ℕ) → (k < n → get_or entries (k * 6) 0 ≡ piece_kind → ⊥) → get_or outcomes' k None ≡ get_or outcomes k None

-- nothing is handed on: all that was lent, for the upload, for the outcomes and for the pieces, is as it was
pub record NothingDone (lent lent' : Buffers) (outcomes outcomes' : Outcomes) (space space' : Buffers) : Type 0 where
  pub entries : lent'.entries.now ≡ lent.entries.now
  pub texts : lent'.texts.now ≡ lent.texts.now
  pub same : outcomes' ≡ outcomes
  pub piece_entries : space'.entries.now ≡ space.entries.now
  pub piece_texts : space'.texts.now ≡ space.texts.now

-- the upload passed: what the reading promises, its number, and the pieces. (The buffers of the pieces are working space: what a piece's
-- reading left there, the next one's overwrites.)
pub record AllRead (whole piece : Asked) (u : Upload) (lent lent' : Buffers) (outcomes outcomes' : Outcomes) (space : Buffers)
    (r : Reading) : Type 0 where
  pub reads : SheetCall whole.shape u (asking whole 0) lent.entries.now lent.texts.now lent'.entries.now lent'.texts.now r.count r.length
      (number_of r.outcome)
  pub may : MayAnswer (defined_as whole.shape) u (asking whole 0) (room_of lent.entries.now lent.texts.now) (number_of r.outcome)
  pub again : EachReread piece.shape u lent'.entries.now r.count (asking piece 1) (length space.entries.now) (length space.texts.now)
      outcomes outcomes'

-- the drain's answer, of that of an import
abbrev pub drained_as : Result Reading DrainError → Result (Unit {0}) DrainError
drained_as (Ok reading) = Ok tt
drained_as (Err why) = Err why

-- THE PROMISE of an import: of the upload and of each piece, read as they are asked for, the upload at depth 0 and a piece at depth 1.
-- `lent` are the buffers for the upload, `space` those for its pieces, as they were and as they are
pub record ImportCall (whole piece : Asked) (u : Upload) (lent lent' : Buffers) (outcomes outcomes' : Outcomes) (space space' : Buffers)
    (r : Result Reading DrainError) : Type 0 where
  pub drained : drained_as r ≡ drained u.body u.rows u.end
  pub came : MatchResult r (AllRead whole piece u lent lent' outcomes outcomes' space)
      (λ why. NothingDone lent lent' outcomes outcomes' space space')
  pub same_lent : SameBuffers lent lent'
  pub same_space : SameBuffers space space'
