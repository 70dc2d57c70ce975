-- The definitions at worked tables: the rules compute, and pieces and their rows.
use Prim.Native.Nat.{ℕ}
use mathlib.Core.Path.{◌≡◌, refl}
use mathlib.Core.Bool.{true, false}
use mathlib.Core.List.{List, [], ◌∷◌, map}
use lib.ListN.{set}
use Rattle.lists.specs.Bytes.{ascii}
use Rattle.lists.specs.Decide.{is_yes}
use Rattle.table.specs.Row.{Row, rows_of}
use Rattle.table.specs.Rules.{last_lt}
use Rattle.table.specs.Piece.{closing, element_rows, piece_bytes, piece_rows}
use Rattle.table.specs.Test.{dec_table}

-- the oracle's table of this body; its final position is 7
abbrev body : List ℕ
body = ascii "<a></a>"

abbrev table : List ℕ
table =
    1 ∷ 0 ∷ 0 ∷ 1 ∷ 1 ∷ 0 ∷ 0 ∷ 2
    ∷ 3 ∷ 0 ∷ 0 ∷ 0 ∷ 0 ∷ 0 ∷ 0 ∷ 3
    ∷ 4 ∷ 0 ∷ 0 ∷ 5 ∷ 1 ∷ 0 ∷ 0 ∷ 7
    ∷ []

pub obeys_example : is_yes (dec_table body table 7) ≡ true
unfolding dec_table
obeys_example = refl

-- a final position past the body
pub past_example : is_yes (dec_table body table 8) ≡ false
unfolding dec_table
past_example = refl

-- ---- pieces: the nested elements of a body, one that ends in `/>` and one with a prefix and an attribute without a value
abbrev nested : List ℕ
nested = ascii "<r><p:a x=''><b/></p:a></r>"

abbrev nested_rows : List Row
nested_rows =
    rows_of
    (1 ∷ 0 ∷ 0 ∷ 1 ∷ 1 ∷ 0 ∷ 0 ∷ 2
    ∷ 3 ∷ 0 ∷ 0 ∷ 0 ∷ 0 ∷ 0 ∷ 0 ∷ 3
    ∷ 1 ∷ 4 ∷ 1 ∷ 6 ∷ 1 ∷ 0 ∷ 0 ∷ 7
    ∷ 2 ∷ 0 ∷ 0 ∷ 8 ∷ 1 ∷ 0 ∷ 0 ∷ 12
    ∷ 3 ∷ 0 ∷ 0 ∷ 0 ∷ 0 ∷ 0 ∷ 0 ∷ 13
    ∷ 1 ∷ 0 ∷ 0 ∷ 14 ∷ 1 ∷ 0 ∷ 0 ∷ 15
    ∷ 5 ∷ 0 ∷ 0 ∷ 0 ∷ 0 ∷ 0 ∷ 0 ∷ 17
    ∷ 4 ∷ 19 ∷ 1 ∷ 21 ∷ 1 ∷ 0 ∷ 0 ∷ 23
    ∷ 4 ∷ 0 ∷ 0 ∷ 25 ∷ 1 ∷ 0 ∷ 0 ∷ 27
    ∷ [])

abbrev bytes_from : ℕ → List ℕ
bytes_from k = piece_bytes nested (element_rows nested_rows k)

pub piece_examples :
    map bytes_from (0 ∷ 2 ∷ 5 ∷ []) ≡ ascii "<r><p:a x=''><b/></p:a></r>" ∷ ascii "<p:a x=''><b/></p:a>" ∷ ascii "<b/>" ∷ []
unfolding rows_of closing last_lt
piece_examples = refl

-- the rows of the prefixed element, counted from its first byte
pub moved_example :
    piece_rows nested (element_rows nested_rows 2)
    ≡ rows_of
    (1 ∷ 1 ∷ 1 ∷ 3 ∷ 1 ∷ 0 ∷ 0 ∷ 4
    ∷ 2 ∷ 0 ∷ 0 ∷ 5 ∷ 1 ∷ 0 ∷ 0 ∷ 9
    ∷ 3 ∷ 0 ∷ 0 ∷ 0 ∷ 0 ∷ 0 ∷ 0 ∷ 10
    ∷ 1 ∷ 0 ∷ 0 ∷ 11 ∷ 1 ∷ 0 ∷ 0 ∷ 12
    ∷ 5 ∷ 0 ∷ 0 ∷ 0 ∷ 0 ∷ 0 ∷ 0 ∷ 14
    ∷ 4 ∷ 16 ∷ 1 ∷ 18 ∷ 1 ∷ 0 ∷ 0 ∷ 20
    ∷ [])
unfolding rows_of closing last_lt
moved_example = refl

-- ---- neighbours: each changes one number of the table of `<a></a>` and breaks one rule
abbrev changed : ℕ → ℕ → List ℕ
changed i v = set table i v

-- kind 9; an unused field that is not 0; a position that falls; a local name past its position; a `>` that is none; a text in a start tag;
-- and the table itself
pub broken_examples :
    map (λ (t : List ℕ). is_yes (dec_table body t 7))
    (changed 8 9 ∷ changed 9 1 ∷ changed 15 1 ∷ changed 4 2 ∷ changed 15 2 ∷ changed 8 6 ∷ table ∷ [])
    ≡ false ∷ false ∷ false ∷ false ∷ false ∷ false ∷ true ∷ []
unfolding dec_table
broken_examples = refl
