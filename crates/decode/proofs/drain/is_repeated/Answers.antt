use Rattle.std.proofs.Common.{arith}
use Rattle.decode.proofs.Faults.{named_on, named_yes, named_none}
use Rattle.decode.proofs.drain.is_repeated.Goals as goal

pub returns-then-same_name : goal.returns-then-same_name
returns-then-same_name c =
    named_yes c.args.table.body.now c.args.table.rows.now c.args.tag c.args.k c.loop-j.j (omega arith) c.loop-j-test.true
    c.same_name.ensures c.if-same_name.true

pub loop-j-preserved : goal.loop-j-preserved
loop-j-preserved c = named_on _ _ _ _ c.loop-j.invariant c.same_name.ensures c.if-same_name.false

pub returns : goal.returns
returns c = named_none _ _ _ _ c.loop-j.invariant c.loop-j-test.false
