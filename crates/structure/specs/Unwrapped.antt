-- An unwrapped structure: where the root ends by its rows.
use Rattle.std.specs.Prelude.{ℕ, ◌-◌, ◌≤◌, ◌≡◌, List, length, take}
use Rattle.lists.specs.Tests.{pick}
use Rattle.table.specs.Row.{Row}
use Rattle.table.specs.Rules.{last_position}
use Rattle.table.specs.Flat.{rows_from}
use Rattle.table.specs.Piece.{closing, is_closed}
use Rattle.decode.specs.declared.element.Element.{Element}
use Rattle.opening.specs.Opening.{body_of}

-- where an element ends by its rows, n being open before them, after a row at position p
abbrev pub end_from : ℕ → ℕ → ℕ → List Row → ℕ
end_from ends p n rows = pick (is_closed n rows) (last_position p (take (closing n rows) rows)) ends

-- that of an element
pub record EndIs (e : Element) (r : ℕ) : Type 0 where
  pub is : r ≡ end_from e.view.ends 0 0 (rows_from e.view.table.rows.now e.start.row (e.view.count - e.start.row))
  pub low : r ≤ length (body_of e)
