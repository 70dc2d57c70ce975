use Rattle.std.proofs.Common.{◌∙◌, sym}
use Rattle.std.proofs.lemmas.Result.{err_from_is_err_and}
use Rattle.structure.proofs.Gathering.{groups_start, groups_end, groups_without, groups_on, groups_stop}
use Rattle.structure.proofs.groups.write_kept.Goals as goal
use Rattle.structure.proofs.groups.write_kept.Goals.{then-has_group+in_ok-write_group, else-has_group}

pub loop-i-init : goal.loop-i-init
loop-i-init c = groups_start c.args.body.now c.args.kept.now c.args.n c.args.out.now

pub returns-in_err-write_group : goal.returns-in_err-write_group
returns-in_err-write_group c =
    let p = err_from_is_err_and c.from_residual.result c.from_residual.ensures.1 in
    rw (p.1, p.2) (groups_stop c.loop-i.invariant c.loop-i-test.true (sym c.has_group.ensures ∙ c.if-has_group.true)
    c.in_err-write_group.ensures)

pub loop-i-preserved : goal.loop-i-preserved
loop-i-preserved c =
    elim c.if-has_group.branch [
      | then-has_group+in_ok-write_group w ↦
          rw w.out-is (groups_on c.loop-i.invariant c.loop-i-test.true (sym c.has_group.ensures ∙ w.if-has_group.true)
          w.in_ok-write_group.ensures)
      | else-has_group w ↦
          rw w.out-is (groups_without c.loop-i.invariant c.loop-i-test.true (sym c.has_group.ensures ∙ w.if-has_group.false))
    ]

pub returns : goal.returns
returns c = groups_end c.loop-i.invariant c.loop-i-test.false
