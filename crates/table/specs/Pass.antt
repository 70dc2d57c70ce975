-- The pass over the rows: what is tested of a row, and of the rows that are left.
use Rattle.std.specs.Prelude.{ℕ, ◌/◌, ◌%◌, ◌≤◌, ◌≡◌, List, length, replicate}
use Rattle.table.specs.Row.{Row}
use Rattle.table.specs.Rules.{Place, RowRules, EachRow, last_position, most_rows, most_bytes}

-- a row at p, before so many more (whatever they are), obeys the rules, and ends no later than the last position
pub record RowIn (body : List ℕ) (last : ℕ) (p : Place) (r : Row) (left : ℕ) : Type 0 where
  pub rules : RowRules body p r (replicate left r)
  pub ends : r.position ≤ last

-- the rows that are left
pub record Rest (body : List ℕ) (last : ℕ) (p : Place) (rows : List Row) : Type 0 where
  pub each : EachRow body p rows
  pub ends : last_position p.position rows ≤ last

-- a flat table: whole rows, within the limits
pub record Small (body t : List ℕ) (final : ℕ) : Type 0 where
  pub whole : length t % 8 ≡ 0
  pub few_rows : length t / 8 ≤ most_rows
  pub few_bytes : length body ≤ most_bytes
  pub within : final ≤ length body
