use Rattle.slices.proofs.Library.{next_none}
use Rattle.slices.proofs.find.Goals as goal

pub returns-in-None : goal.returns-in-None
returns-in-None c = next_none c.args.s.now c.args.x c.args.from c.requires c.in-None.ensures
