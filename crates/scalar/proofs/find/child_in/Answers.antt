use Rattle.scalar.proofs.Searching.{local_is, find_start, find_gone, find_here, find_on}
use Rattle.scalar.proofs.find.child_in.Goals as goal

pub loop-child-init : goal.loop-child-init
loop-child-init c = find_start c.args.root.now c.args.name.now

pub returns-then-eq : goal.returns-then-eq
returns-then-eq c =
    find_here c.args.root.now c.args.name.now c.loop-child.invariant c.in-Ok.ensures c.drain-past.ensures
    (local_is c.local.result.now c.args.name.now c.local.ensures c.eq.ensures) c.if-eq.true c.piece.ensures

pub loop-child-preserved : goal.loop-child-preserved
loop-child-preserved c =
    find_on c.args.root.now c.args.name.now c.loop-child.invariant c.in-Ok.ensures c.drain-past.ensures
    (local_is c.local.result.now c.args.name.now c.local.ensures c.eq.ensures) c.if-eq.false c.from_place-scope.ensures

pub returns : goal.returns
returns c = find_gone c.args.root.now c.args.name.now c.loop-child.invariant c.in_default.ensures
