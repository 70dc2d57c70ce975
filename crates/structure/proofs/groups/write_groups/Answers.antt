-- What is kept of a root are the definition's groups.
use Rattle.output.proofs.Then.{does_as}
use Rattle.structure.proofs.Gathering.{plans_are}
use Rattle.structure.proofs.groups.write_groups.Goals as goal

pub returns : goal.returns
returns c = does_as (plans_are c.requires c.len.ensures.size) c.write_kept.ensures
