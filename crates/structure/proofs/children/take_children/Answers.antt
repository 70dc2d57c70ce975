use Rattle.std.proofs.lemmas.Result.{err_from_is_err_and}
use Rattle.codec.specs.Structure.{structure_said}
use Rattle.structure.proofs.Taking.{children_start, children_done, children_stop, children_goes}
use Rattle.structure.proofs.children.take_children.Goals as goal

pub loop-child-init : goal.loop-child-init
loop-child-init c = children_start c.args.root.now (structure_said c.args.sheet.now) c.args.kept.now c.args.out.now c.requires

pub loop-child-preserved : goal.loop-child-preserved
loop-child-preserved c =
    children_goes c.args.root.now (structure_said c.args.sheet.now) c.loop-child.invariant c.in-Ok.ensures c.drain-past.ensures
    c.from_place-scope.ensures c.in_ok-count.ensures c.take_child.auto.kept

pub returns-in_err-count : goal.returns-in_err-count
returns-in_err-count c =
    let p = err_from_is_err_and c.from_residual.result c.from_residual.ensures.1 in
    rw (p.1, p.2) (children_stop c.args.root.now (structure_said c.args.sheet.now) c.loop-child.invariant c.in-Ok.ensures
    c.drain-past.ensures c.in_err-count.ensures)

pub returns : goal.returns
returns c = children_done c.args.root.now (structure_said c.args.sheet.now) c.loop-child.invariant c.in_default.ensures
