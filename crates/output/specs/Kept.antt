-- The children that wait for their groups: while the children of a structure are read, those of flattened aggregate members are kept.
use Rattle.std.specs.Prelude.{ℕ, ◌+◌, ◌≤◌, Bool, List, [], ◌∷◌, ◌++◌, eqb, length}
use Rattle.std.specs.List.{list_any}
use Rattle.lists.specs.Tests.{pick}
use Rattle.lists.specs.Bytes.{ascii}
use Rattle.lists.specs.Every.{Every}
use Rattle.table.specs.Row.{cut}
use Rattle.document.specs.declared.part.Piece.{Piece}
use Rattle.output.specs.declared.kept.Kept.{Kept}

-- the pieces that are kept for member i, in order
unfoldable pub kept_for : ℕ → List Kept → List Piece
kept_for i [] = []
kept_for i (k ∷ more) = pick (eqb k.member i) (k.piece ∷ kept_for i more) (kept_for i more)

-- whether there is one
unfoldable pub is_kept : List Kept → ℕ → Bool
is_kept kept i = list_any (λ (k : Kept). eqb k.member i) kept

-- how many bytes they have together
unfoldable pub lengths : List Piece → ℕ
lengths [] = 0
lengths (p ∷ l) = p.len + lengths l

unfoldable pub kept_len : List Kept → ℕ → ℕ
unfolding kept_for lengths
kept_len kept i = lengths (kept_for i kept)

-- their bytes, one after another
unfoldable pub bytes_of : List ℕ → List Piece → List ℕ
bytes_of body [] = []
bytes_of body (p ∷ l) = cut body p.start p.len ++ bytes_of body l

unfoldable pub kept_bytes : List ℕ → List Kept → ℕ → List ℕ
unfolding kept_for bytes_of
kept_bytes body kept i = bytes_of body (kept_for i kept)

-- "`<__flat>`, the siblings, `</__flat>`"
unfoldable pub flat : List ℕ → List Kept → ℕ → List ℕ
unfolding kept_bytes
flat body kept i = ascii "<__flat>" ++ (kept_bytes body kept i ++ ascii "</__flat>")

unfoldable pub flat_len : List Kept → ℕ → ℕ
unfolding kept_len
flat_len kept i = kept_len kept i + 17

-- each piece lies in the body
pub record InBody (body : List ℕ) (k : Kept) : Type 0 where
  pub within : k.piece.start + k.piece.len ≤ length body

pub record Inside (body : List ℕ) (kept : List Kept) : Type 0 where
  pub each : Every (InBody body) kept
