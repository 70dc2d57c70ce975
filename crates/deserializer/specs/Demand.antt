-- Demand 3 of a call: what is promised of it where the drain passes the body and the table that were lent, down to the numbers in the
-- entries' buffer.
use Rattle.std.specs.Prelude.{ℕ, ◌+◌, ◌*◌, ◌<◌, ◌≡◌, List, Ok, get_or}
use Rattle.refusal.specs.declared.Refusal.{Refusal}
use Rattle.refusal.specs.Numbers.{number}
use Rattle.xml.specs.Drain.{drained}
use Rattle.xml.specs.Piece.{ElementPiece}
use Rattle.readings.specs.Call.{Upload, Call}
use Rattle.readings.specs.Output.{piece_kind, Room, Output}
use Rattle.readings.specs.Shape as readings
use Rattle.readings.specs.Shape.{read}
use Rattle.readings.specs.Demand.{MayRefuse, Promised}
use Rattle.output.specs.Call.{room_of}
use Rattle.deserializer.specs.declared.Shape.{Shape}

-- "Each piece it hands out .. is exactly its element's bytes .. and that element's rows .. pass the drain again": the entry whose numbers
-- stand at i, if it is of kind 2
pub record PieceEntry (u : Upload) (entries : List ℕ) (i : ℕ) : Type 0 where
  pub is : get_or entries i 0 ≡ piece_kind → ElementPiece u.body u.rows (get_or entries (i + 4) 0) (get_or entries (i + 5) 0)

-- each of the n entries in the buffer
pub record PiecesIn (u : Upload) (entries : List ℕ) (n : ℕ) : Type 0 where
  pub each : (k : ℕ) → k < n → PieceEntry u entries (k * 6)

-- what the definitions call it
abbrev pub defined_as : Shape → readings.Shape
defined_as Shape.Struct = readings.structure
defined_as Shape.List = readings.list
defined_as Shape.Map = readings.map
defined_as Shape.StringList = readings.strings

-- "is refused only for a broken sheet, the depth limit, no root, the root's name, an element where text is wanted, or no room": the number
-- that was answered
pub data MayAnswer (shape : readings.Shape) (u : Upload) (call : Call) (room : Room) : ℕ → Type 0 where
  finished : MayAnswer shape u call room 0
  refused : {why : Refusal} {out : Output} → MayRefuse u call room shape out why → MayAnswer shape u call room (number why)

-- what is promised of a call that a passed body and table were lent to: its number, its pieces, and of the definition's reading the whole
-- of demand 3 (readings/specs/Demand.antt)
pub record Kept (shape : Shape) (u : Upload) (call : Call) (e t e' : List ℕ) (n r : ℕ) : Type 0 where
  pub number : MayAnswer (defined_as shape) u call (room_of e t) r
  pub pieces : PiecesIn u e' n
  pub promised : Promised u call (room_of e t) (defined_as shape) (read (defined_as shape) u call (room_of e t))

pub record Demanded (shape : Shape) (u : Upload) (call : Call) (e t e' : List ℕ) (n r : ℕ) : Type 0 where
  pub kept : drained u.body u.rows u.end ≡ Ok tt → Kept shape u call e t e' n r
