use Rattle.scalar.proofs.Searching.{local_is, in_whole, in_child}
use Rattle.scalar.proofs.find.find_in.Goals as goal

pub returns-then-eq : goal.returns-then-eq
returns-then-eq c =
    in_whole c.args.root.now c.args.name.now (local_is c.local.result.now c.args.name.now c.local.ensures c.eq.ensures) c.if-eq.true

pub returns-else-eq : goal.returns-else-eq
returns-else-eq c =
    in_child c.args.root.now c.args.name.now (local_is c.local.result.now c.args.name.now c.local.ensures c.eq.ensures) c.if-eq.false
    c.child_in.ensures
