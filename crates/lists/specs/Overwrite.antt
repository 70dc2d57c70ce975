-- A buffer whose front is overwritten: what a lent buffer holds after a call that wrote some bytes at its front. And stores one after
-- another.
use Rattle.std.specs.Prelude.{ℕ, ◌+◌, ◌≡◌, List, ◌++◌, length, drop}
use Rattle.std.proofs.lemmas.List.Edits.{sets}

-- what stands in `old` once `new` is written at its front
unfoldable pub overwritten : List ℕ → List ℕ → List ℕ
overwritten old new = new ++ drop (length new) old

-- the elements of s stand in new from at on, r is the place after them, and all else is as in old
pub record Stored (old new : List ℕ) (at : ℕ) (s : List ℕ) (r : ℕ) : Type 0 where
  pub next : r ≡ at + length s
  pub is : new ≡ sets old at s
