-- Rows of an element by number, and counted from a place.
use Rattle.std.specs.Prelude.{ℕ, ◌+◌, ◌*◌, ◌/◌, ◌-◌, ◌≤◌, ◌<◌, ◌≡◌, List, [], ◌∷◌, map, length, get_or}
use Rattle.std.proofs.lemmas.List.Edits.{sets}
use Rattle.table.specs.Row.{Row, table_of}
use Rattle.table.specs.Flat.{rows_from}
use Rattle.table.specs.Piece.{moved, closing}

-- the numbers of a row: "kind, prefix start and length, local start and length, value start and length, stream position after the token"
abbrev pub eight_numbers : Row → List ℕ
eight_numbers r =
    r.kind ∷ r.prefix_start ∷ r.prefix_len ∷ r.local_start ∷ r.local_len ∷ r.value_start ∷ r.value_len ∷ r.position ∷ []

-- the flat table of rows counted from a place
abbrev pub moved_table : ℕ → List Row → List ℕ
moved_table place rows = table_of (map (moved place) rows)

-- row k starts an element, and its local name stands after a place
pub record StartsAfter (rows : List ℕ) (place k : ℕ) : Type 0 where
  pub starts : get_or rows (k * 8 + 0) 0 ≡ 1
  pub after : place < get_or rows (k * 8 + 3) 0

-- r is the first such row, or the number of rows
pub record FirstAfter (rows : List ℕ) (place r : ℕ) : Type 0 where
  pub high : r ≤ length rows / 8
  pub found : r < length rows / 8 → StartsAfter rows place r
  pub first : (k : ℕ) → k < r → StartsAfter rows place k → ⊥

-- the rows of the first such row's element, counted from the place, stand at the front of a table that held old, and r is how many they
-- are; where they do not all fit, the table holds what it held, and r is 0
pub record OwnRows (rows : List ℕ) (place : ℕ) (old new : List ℕ) (r : ℕ) : Type 0 where
  pub row : ℕ
  pub first : FirstAfter rows place row
  pub fit : closing 0 (rows_from rows row (length rows / 8 - row)) ≤ length old / 8
      → (r ≡ closing 0 (rows_from rows row (length rows / 8 - row))) × (new ≡ sets old 0 (moved_table place (rows_from rows row r)))
  pub short : length old / 8 < closing 0 (rows_from rows row (length rows / 8 - row)) → (r ≡ 0) × (new ≡ old)
