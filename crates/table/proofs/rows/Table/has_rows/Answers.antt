use Rattle.table.proofs.Pass.{walk_stop, walk_turn}
use Rattle.table.proofs.rows.Table.has_rows.Goals as goal

pub returns-in-None : goal.returns-in-None
returns-in-None c = walk_stop c.loop-k.invariant c.loop-k-test.true c.at.ensures c.in-None.ensures

pub loop-k-preserved : goal.loop-k-preserved
loop-k-preserved c = walk_turn c.loop-k.invariant c.loop-k-test.true c.at.ensures c.in-Some.ensures
