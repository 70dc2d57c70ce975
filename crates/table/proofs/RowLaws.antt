-- Laws on rows and the flat table that they make.
use Prim.Native.Nat.{◌%◌}
use mathlib.Core.Path.{◌≡◌, refl, ap}
use mathlib.Core.List.{List, [], ◌∷◌}
use native.Mathlib.Omega.{arith}
use lib.ListN.{length}
use Rattle.table.specs.Row.{Row, rows_of, table_of}

pub rows_table : (rows : List Row) → rows_of (table_of rows) ≡ rows
unfolding rows_of table_of
rows_table [] = refl
rows_table (r ∷ rows) = ap {B = List Row} (λ l. r ∷ l) (rows_table rows)

pub table_whole : (rows : List Row) → length (table_of rows) % 8 ≡ 0
unfolding table_of
table_whole [] = refl
table_whole (r ∷ rows) = omega (arith, table_whole rows)
