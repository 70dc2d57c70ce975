-- Where an element stands next in a list.
use Rattle.std.specs.Prelude.{ℕ, ◌≤◌, ◌<◌, ◌≡◌, List, length, get_or}

-- x stands nowhere from one place up to another
pub record Clear (s : List ℕ) (x from to : ℕ) : Type 0 where
  pub low : from ≤ to
  pub high : to ≤ length s
  pub none : (k : ℕ) → from ≤ k → k < to → get_or s k 0 ≡ x → ⊥

-- r is the first place from `from` on where x stands, or the end
pub record NextAt (s : List ℕ) (x from r : ℕ) : Type 0 where
  pub clear : Clear s x from r
  pub found : r < length s → get_or s r 0 ≡ x
