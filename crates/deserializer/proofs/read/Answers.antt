-- Nothing was written when the reading began, and the buffers that were lent are those that it left.
use Rattle.std.proofs.Common.{rules}
use Rattle.deserializer.proofs.Called.{read_called, read_placed, read_demanded}
use Rattle.deserializer.proofs.read.Goals as goal

pub returns-clause-reading : goal.returns-clause-reading
returns-clause-reading c =
    read_called c.args.shape _ _ c.new-out.ensures c.read_entered-outcome.ensures (search rules) (search rules)

pub returns-clause-place : goal.returns-clause-place
returns-clause-place c = read_placed c.args.shape _ _ c.new-out.ensures c.read_entered-outcome.ensures

pub returns-clause-demand : goal.returns-clause-demand
returns-clause-demand c = read_demanded c.args.shape _ _ c.new-out.ensures c.read_entered-outcome.ensures (search rules)
