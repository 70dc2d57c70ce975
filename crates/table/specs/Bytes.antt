-- The rules on bytes of the body as the code tests them.
use Rattle.std.specs.Prelude.{ℕ, ◌-◌, ◌≤◌, ◌<◌, ◌≡◌, true, List, get_or}
use Rattle.lists.specs.Characters.{solidus, less_than, greater_than}
use Rattle.table.specs.Row.{Row}
use Rattle.table.specs.Rules.{ends_in_gt, is_tag, begin_of, last_lt}

-- ---- the last `<`
-- none stands from a place on and before another
pub record NoLt (body : List ℕ) (low at : ℕ) : Type 0 where
  pub none : (k : ℕ) → low ≤ k → k < at → get_or body k 0 ≡ less_than → ⊥

-- r is the place of the last `<` before `at`, and not before `low`
pub record LastIn (body : List ℕ) (low at r : ℕ) : Type 0 where
  pub late : low ≤ r
  pub high : r < at
  pub is : get_or body r 0 ≡ less_than
  pub last : r ≡ last_lt body at

-- ---- where the tag of a row begins, after a position
pub record Begins (body : List ℕ) (previous : ℕ) (r : Row) : Type 0 where
  pub is : get_or body (begin_of body r) 0 ≡ less_than
  pub before : begin_of body r < r.local_start
  pub late : previous ≤ begin_of body r
  pub prefix : 0 < r.prefix_len → begin_of body r < r.prefix_start

-- ---- how a row ends
pub record Ends (body : List ℕ) (kind own : ℕ) : Type 0 where
  pub gt : ends_in_gt kind ≡ true → (1 ≤ own) × (get_or body (own - 1) 0 ≡ greater_than)
  pub slash : kind ≡ 5 → (2 ≤ own) × (get_or body (own - 2) 0 ≡ solidus)

-- ---- both, of a row of a kind after a position
pub record Bytes (body : List ℕ) (kind previous : ℕ) (r : Row) : Type 0 where
  pub tag : is_tag kind ≡ true → Begins body previous r
  pub ending : Ends body kind r.position
