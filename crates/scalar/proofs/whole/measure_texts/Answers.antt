use Rattle.std.proofs.lemmas.Result.{err_from_is_err_and}
use Rattle.scalar.proofs.Joining.{measure_start, measure_done, measure_stop, measure_bad, measure_on, measure_fits}
use Rattle.scalar.proofs.whole.measure_texts.Goals as goal

pub loop-text-init : goal.loop-text-init
loop-text-init c = measure_start c.args.element.now

pub returns-in_err-text : goal.returns-in_err-text
returns-in_err-text c =
    let p = err_from_is_err_and c.from_residual.result c.from_residual.ensures.1 in
    rw (p.1, p.2) (measure_stop c.loop-text.invariant (rw c.in_err-text.was at c.next_text.ensures))

pub returns-in_err-size : goal.returns-in_err-size
returns-in_err-size c =
    let p = err_from_is_err_and c.from_residual-in_err-size.result c.from_residual-in_err-size.ensures.1 in
    rw (p.1, p.2)
    (measure_bad c.loop-text.invariant (rw c.in-Some.is at c.in_ok-text.ensures) (rw c.in_err-size.was at c.measure.ensures))

pub overflow_add-size : goal.overflow_add-size
overflow_add-size c =
    measure_fits c.loop-text.invariant (rw c.in-Some.is at c.in_ok-text.ensures) c.in_ok-size.field-0
    (rw c.in_ok-size.was at c.measure.ensures)

pub loop-text-preserved : goal.loop-text-preserved
loop-text-preserved c =
    measure_on c.loop-text.invariant (rw c.in-Some.is at c.in_ok-text.ensures) c.in_ok-size.field-0
    (rw c.in_ok-size.was at c.measure.ensures)

pub returns : goal.returns
returns c = measure_done c.loop-text.invariant (rw c.in_default.is at c.in_ok-text.ensures)
