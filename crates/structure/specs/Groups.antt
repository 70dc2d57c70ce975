-- The groups of a root, from what was kept of its children (output/specs/Kept.antt), by rising member index.
use Rattle.std.specs.Prelude.{ℕ, zero, suc, List, [], ◌∷◌}
use Rattle.lists.specs.Tests.{pick}
use Rattle.readings.specs.Plan.{Plan}
use Rattle.output.specs.declared.kept.Kept.{Kept}
use Rattle.output.specs.Plans.{put_group}
use Rattle.output.specs.Kept.{is_kept, flat}

-- one group
unfoldable pub flat_plan : List ℕ → List Kept → ℕ → Plan
flat_plan body kept i = put_group i (flat body kept i)

-- the members that have one, of so many from i on
unfoldable pub kept_from : List Kept → ℕ → ℕ → List ℕ
kept_from kept i zero = []
kept_from kept i (suc m) = let more = kept_from kept (suc i) m in pick (is_kept kept i) (i ∷ more) more
