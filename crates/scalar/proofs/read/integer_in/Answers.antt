use Rattle.scalar.proofs.Reading.{value_plain}
use Rattle.scalar.proofs.read.integer_in.Goals as goal

pub returns-else-contains : goal.returns-else-contains
returns-else-contains c = value_plain c.args.text c.if-contains.ensures.cases c.integer_of.ensures
