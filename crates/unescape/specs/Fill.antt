-- When what a text comes to fits into a room.
use Rattle.std.specs.Prelude.{ℕ, ◌≤◌, length}
use Rattle.reference.specs.Text.{Out}
use Rattle.reference.specs.Text.Out.{bytes, bad}

-- no reference is bad, and n bytes are room enough
unfoldable pub Room : Out → ℕ → Type 0
Room (bytes l) n = length l ≤ n
Room (bad at) n = ⊥
