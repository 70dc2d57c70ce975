use Rattle.decode.proofs.Views.{position_in, position_out}
use Rattle.decode.proofs.view.position_at.Goals as goal

pub returns-then-k-len : goal.returns-then-k-len
returns-then-k-len c = position_in c.args.table.obeys c.args.k (rw c.len.ensures at c.if-k-len.true) c.position.ensures

pub returns-else-k-len : goal.returns-else-k-len
returns-else-k-len c = position_out c.args.table.obeys c.args.k (rw c.len.ensures at c.if-k-len.false)
