-- An element of a table, its rows, and rows counted from a piece's first byte (01, "Token table", the end of "Rules").
use Rattle.std.specs.Prelude.{ℕ, zero, suc, ◌-◌, ◌≡◌, Bool, true, false, List, [], ◌∷◌, map, eqb, length, take, drop}
use Rattle.lists.specs.Tests.{pick}
use Rattle.table.specs.Row.{Row, cut}
use Rattle.table.specs.Rules.{uses_name, open_count, begin_of, last_position}

-- a filled span's start is counted from s, an empty one's stays
abbrev pub moved_span : ℕ → ℕ → ℕ → ℕ
moved_span s from zero = from
moved_span s from (suc len) = from - s

-- "the piece's start is subtracted from each position, each filled span's start and each local name's start in kinds 1, 2 and 4; all
-- else stays"
abbrev pub moved : ℕ → Row → Row
moved s r =
    record {
      kind = r.kind;
      prefix_start = moved_span s r.prefix_start r.prefix_len;
      prefix_len = r.prefix_len;
      local_start = pick (uses_name r.kind) (r.local_start - s) r.local_start;
      local_len = r.local_len;
      value_start = moved_span s r.value_start r.value_len;
      value_len = r.value_len;
      position = r.position - s;
    }

-- "the row that closes it, kind 4 or 5": how many rows there are up to and with the first after which none is open, where n elements are
-- open, the element itself among them (0 before its start row); all rows where none closes it
unfoldable pub closing : ℕ → List Row → ℕ
closing n [] = zero
closing n (r ∷ rest) =
    let m = open_count n r.kind in
    let more = closing m rest in
    suc (pick (eqb m 0) 0 more)

-- whether a row closes it
unfoldable pub is_closed : ℕ → List Row → Bool
is_closed n [] = false
is_closed n (r ∷ rest) =
    let m = open_count n r.kind in
    let more = is_closed m rest in
    pick (eqb m 0) true more

-- "Its rows run from its start row to that closing row": of the element that starts in row k, a kind 1 row
abbrev pub element_rows : List Row → ℕ → List Row
element_rows rows k = take (closing 0 (drop k rows)) (drop k rows)

-- "An element of a table runs from the last `<` before its start row's local name to the position of the row that closes it"
abbrev pub piece_start : List ℕ → List Row → ℕ
piece_start body [] = zero
piece_start body (r ∷ rest) = begin_of body r

abbrev pub piece_bytes : List ℕ → List Row → List ℕ
piece_bytes body rows = cut body (piece_start body rows) (last_position 0 rows - piece_start body rows)

-- "Counted from a piece's first byte they belong to the piece as body"
abbrev pub piece_rows : List ℕ → List Row → List Row
piece_rows body rows = map (moved (piece_start body rows)) rows

-- "with its length as final position"
abbrev pub piece_final : List ℕ → List Row → ℕ
piece_final body rows = length (piece_bytes body rows)

-- "A piece's element is the one that begins where it does": the element that starts in row k begins at this place
pub record ElementAt (body : List ℕ) (rows : List Row) (k place : ℕ) : Type 0 where
  pub first : Row
  pub rest : List Row
  pub cut_at : drop k rows ≡ first ∷ rest
  pub starts : first.kind ≡ 1
  pub closes : is_closed 1 rest ≡ true
  pub begins : begin_of body first ≡ place
