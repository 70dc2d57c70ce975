use Rattle.std.proofs.Common.{rules}
use Rattle.std.proofs.lemmas.Result.{err_from_is_err_and}
use Rattle.list.proofs.Each.{children_done, children_on, children_stands, children_stop}
use Rattle.list.proofs.children.read_each.Goals as goal

pub returns-in_err-at : goal.returns-in_err-at
returns-in_err-at g c =
    let p = err_from_is_err_and c.from_residual.result c.from_residual.ensures.1 in
    rw (p.1, p.2)
    (children_stop (g.S.ReadChild.plan c.args.step.now) (g.S.ReadChild.after c.args.step.now) c.args.root.now
    (g.met.S.ReadChild.shortens c.args.step.now) c.loop-child.invariant c.in-Ok.ensures c.in_err-at.ensures)

-- the place that the reading of a child answered is outside of start tags
pub from_place-scope-requires : goal.from_place-scope-requires
from_place-scope-requires g c =
    let x =
    children_stands (g.S.ReadChild.plan c.args.step.now) (g.S.ReadChild.after c.args.step.now) c.args.root.now
    (g.met.S.ReadChild.shortens c.args.step.now) c.loop-child.invariant c.in-Ok.ensures c.in_ok-at.ensures in
    search rules

pub loop-child-preserved : goal.loop-child-preserved
loop-child-preserved g c =
    children_on (g.S.ReadChild.plan c.args.step.now) (g.S.ReadChild.after c.args.step.now) c.args.root.now
    (g.met.S.ReadChild.shortens c.args.step.now) c.loop-child.invariant c.in-Ok.ensures c.in_ok-at.ensures c.from_place-scope.ensures

pub returns : goal.returns
returns g c =
    children_done (g.S.ReadChild.plan c.args.step.now) (g.S.ReadChild.after c.args.step.now) c.args.root.now
    (g.met.S.ReadChild.shortens c.args.step.now) c.loop-child.invariant c.in_default.ensures
