-- What is known of the first n rows of a table that a reader sees.
use Rattle.std.specs.Prelude.{ℕ, ◌+◌, ◌*◌, ◌≤◌, ◌<◌, ◌≡◌, List, get_or}
use Rattle.table.specs.Rows.{RulesAt}

-- each obeys the rules of a row, at some place (truncated, so that a type can keep it as a fact); and a token error is the last
pub record Sees (body t : List ℕ) (n : ℕ) : Type 0 where
  pub each : (k : ℕ) → k < n → ∥ RulesAt body t k ∥₁
  pub last : (k : ℕ) → k < n → get_or t (k * 8 + 0) 0 ≡ 8 → n ≤ k + 1
