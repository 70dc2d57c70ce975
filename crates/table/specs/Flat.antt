-- The rows of a flat table by number, as code meets them, and where a row's spans lie in the body.
use Rattle.std.specs.Prelude.{ℕ, zero, suc, ◌+◌, ◌*◌, ◌≤◌, List, [], ◌∷◌, length, get_or}
use Rattle.table.specs.Row.{Row}

-- row k
abbrev pub row_at : List ℕ → ℕ → Row
row_at t k =
    record {
      kind = get_or t (k * 8 + 0) 0;
      prefix_start = get_or t (k * 8 + 1) 0;
      prefix_len = get_or t (k * 8 + 2) 0;
      local_start = get_or t (k * 8 + 3) 0;
      local_len = get_or t (k * 8 + 4) 0;
      value_start = get_or t (k * 8 + 5) 0;
      value_len = get_or t (k * 8 + 6) 0;
      position = get_or t (k * 8 + 7) 0;
    }

-- m rows from row k on
abbrev pub rows_from : List ℕ → ℕ → ℕ → List Row
rows_from t k zero = []
rows_from t k (suc m) = row_at t k ∷ rows_from t (suc k) m

-- ---- the spans of a row lie in the body
pub record SpansIn (body : List ℕ) (table : List ℕ) (k : ℕ) : Type 0 where
  pub prefix : get_or table (k * 8 + 1) 0 + get_or table (k * 8 + 2) 0 ≤ length body
  pub local : get_or table (k * 8 + 3) 0 + get_or table (k * 8 + 4) 0 ≤ length body
  pub value : get_or table (k * 8 + 5) 0 + get_or table (k * 8 + 6) 0 ≤ length body
  pub position : get_or table (k * 8 + 7) 0 ≤ length body
