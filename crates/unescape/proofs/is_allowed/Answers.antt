-- By strictness: what XML allows, or every scalar value.
use Rattle.reference.specs.Entity.{allowed}
use Rattle.unescape.proofs.is_allowed.Goals as goal

pub returns-then-strict : goal.returns-then-strict
unfolding allowed
returns-then-strict c = cc

pub returns-else-strict : goal.returns-else-strict
unfolding allowed
returns-else-strict c = cc
