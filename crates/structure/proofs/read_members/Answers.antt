-- Attributes, then children, then 9, then groups; each goes on from what is written.
use Rattle.std.proofs.lemmas.Result.{err_from_is_err_and}
use Rattle.codec.specs.Structure.{structure_said}
use Rattle.structure.proofs.Whole.{attributes_refused, children_refused, all_ill, all_groups}
use Rattle.structure.proofs.read_members.Goals as goal

pub returns-in_err-write_attributes : goal.returns-in_err-write_attributes
returns-in_err-write_attributes c =
    let p = err_from_is_err_and c.from_residual.result c.from_residual.ensures.1 in
    rw (p.1, p.2) (attributes_refused c.args.root.now (structure_said c.args.sheet.now) c.in_err-write_attributes.ensures)

pub returns-in_err-count : goal.returns-in_err-count
returns-in_err-count c =
    let p = err_from_is_err_and c.from_residual-in_err-count.result c.from_residual-in_err-count.ensures.1 in
    rw (p.1, p.2)
    (children_refused c.args.root.now (structure_said c.args.sheet.now) c.in_ok-write_attributes.ensures c.in_err-count.ensures)

pub returns-then-root : goal.returns-then-root
returns-then-root c =
    all_ill c.args.root.now (structure_said c.args.sheet.now) c.in_ok-write_attributes.ensures c.in_ok-count.ensures c.if-root.true

pub returns : goal.returns
returns c =
    all_groups c.args.root.now (structure_said c.args.sheet.now) c.in_ok-write_attributes.ensures c.in_ok-count.ensures c.if-root.false
    c.write_groups.ensures
