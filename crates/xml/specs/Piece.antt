-- Demand 3: a piece "is exactly its element's bytes from `<` to the end of its end tag or `/>`, and that element's rows, counted from
-- the piece's first byte, obey the table rules and pass the drain again".
use Rattle.std.specs.Prelude.{ℕ, ◌+◌, ◌≤◌, ◌≡◌, List, length, Ok}
use Rattle.table.specs.Row.{cut, rows_of, table_of}
use Rattle.table.specs.Rules.{last_position}
use Rattle.table.specs.Piece.{element_rows, piece_rows, ElementAt}
use Rattle.xml.specs.Drain.{drained}

-- `from` and `len` are the piece of the element that starts in a row
pub record PieceAt (body table : List ℕ) (row from len : ℕ) : Type 0 where
  -- it is a start row whose last `<` before its local name stands at `from`, and a later row closes its element
  pub element : ElementAt body (rows_of table) row from
  -- the piece ends at the position of the row that closes the element
  pub ends : from + len ≡ last_position 0 (element_rows (rows_of table) row)
  pub inside : from + len ≤ length body
  -- the element's rows, counted from the piece's first byte, with the piece as body and its length as final position, pass the drain
  pub again : drained (cut body from len) (table_of (piece_rows body (element_rows (rows_of table) row))) len ≡ Ok tt

-- the piece of an element of the table, in whatever row it starts
pub record ElementPiece (body table : List ℕ) (from len : ℕ) : Type 0 where
  pub row : ℕ
  pub is : PieceAt body table row from len
