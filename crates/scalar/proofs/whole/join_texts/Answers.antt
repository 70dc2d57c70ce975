use Rattle.std.proofs.lemmas.Result.{err_from_is_err_and}
use Rattle.scalar.specs.Whole.{texts_of}
use Rattle.scalar.proofs.Joining.{copy_refused, copy_room, copy_put, copy_none}
use Rattle.scalar.proofs.whole.join_texts.Goals as goal

pub returns-in_err-size : goal.returns-in_err-size
returns-in_err-size c =
    let p = err_from_is_err_and c.from_residual.result c.from_residual.ensures.1 in
    rw (p.1, p.2) (copy_refused (texts_of c.args.element.now) c.args.out.now (rw c.in_err-size.was at c.measure_texts.ensures))

pub fill_texts-requires : goal.fill_texts-requires
fill_texts-requires c =
    copy_room (texts_of c.args.element.now) c.args.out.now (rw c.in_ok-size.was at c.measure_texts.ensures) c.if-size-out.true

pub returns-then-size-out : goal.returns-then-size-out
returns-then-size-out c =
    copy_put (texts_of c.args.element.now) c.args.out.now (rw c.in_ok-size.was at c.measure_texts.ensures) c.if-size-out.true
    c.fill_texts.ensures

pub returns-else-size-out : goal.returns-else-size-out
returns-else-size-out c =
    copy_none (texts_of c.args.element.now) c.args.out.now (rw c.in_ok-size.was at c.measure_texts.ensures) c.if-size-out.false
