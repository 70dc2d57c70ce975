-- A child is wanted where its row is.
use Rattle.opening.proofs.Wanted.{child_wanted}
use Rattle.opening.proofs.is_wanted.Goals as goal

pub returns : goal.returns
returns c = child_wanted c.args.child.now c.args.name c.is_row_wanted.ensures
