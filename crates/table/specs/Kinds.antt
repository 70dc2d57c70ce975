-- The kinds of rows by their numbers: "1 start, 2 attribute, 3 `>`, 4 close tag, 5 `/>`, 6 text, 7 all others, 8 token error."
use Rattle.std.specs.Prelude.{ℕ, ◌≤◌, ◌≡◌}
use Rattle.table.specs.Rules.{most_kind, open_count}
use Rattle.table.specs.declared.kinds.Kind.{Kind}

-- the number of a kind
abbrev pub kind_number : Kind → ℕ
kind_number Kind.Start = 1
kind_number Kind.Attribute = 2
kind_number Kind.Gt = 3
kind_number Kind.Close = 4
kind_number Kind.Slash = 5
kind_number Kind.Text = 6
kind_number Kind.Misc = 7
kind_number Kind.Error = 8

-- a number that is one's
abbrev pub IsKind : ℕ → Type 0
IsKind n = (1 ≤ n) × (n ≤ most_kind)

-- how many elements are open after a row of a kind that starts none; after one that does, whatever that is, they are no more
pub record DepthIs (kind d r : ℕ) : Type 0 where
  pub is : (kind ≡ 1 → ⊥) → r ≡ open_count d kind
  pub low : r ≤ d
