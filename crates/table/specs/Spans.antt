-- The rules on spans as the code tests them.
use Rattle.std.specs.Prelude.{ℕ, ◌+◌, ◌≤◌, ◌≡◌, Bool, true, false}
use Rattle.table.specs.Row.{Row}
use Rattle.table.specs.Rules.{uses_name, uses_value, FilledSpan}

-- ---- between two positions
pub record Between (previous own from len : ℕ) : Type 0 where
  pub low : previous ≤ from
  pub high : from + len ≤ own

-- ---- a prefix or a value
pub record Span (used : Bool) (previous own from len : ℕ) : Type 0 where
  pub unused : used ≡ false → len ≡ 0
  pub empty : len ≡ 0 → from ≡ 0
  pub filled : FilledSpan previous own from len

-- ---- a local name
pub record LocalSpan (used : Bool) (previous own from len : ℕ) : Type 0 where
  pub unused : used ≡ false → (from ≡ 0) × (len ≡ 0)
  pub start : used ≡ true → (previous ≤ from) × (from ≤ own)
  pub filled : FilledSpan previous own from len

-- ---- the spans of a row of a kind
pub record Spans (kind previous : ℕ) (r : Row) : Type 0 where
  pub prefix : Span (uses_name kind) previous r.position r.prefix_start r.prefix_len
  pub local : LocalSpan (uses_name kind) previous r.position r.local_start r.local_len
  pub value : Span (uses_value kind) previous r.position r.value_start r.value_len
