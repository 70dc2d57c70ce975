-- What the rules of some rows say of the first of them.
use Prim.Native.Nat.{ℕ}
use mathlib.Core.List.{List, ◌∷◌}
use Rattle.table.specs.Row.{Row}
use Rattle.table.specs.Rules.{Place, after, RowRules, EachRow, row}

-- the rules of the first row, and of the rest
pub first : {body : List ℕ} {p : Place} {r : Row} {rest : List Row} → EachRow body p (r ∷ rest)
    → RowRules body p r rest × EachRow body (after p r) rest
first (row k t) = (k, t)
