use Rattle.std.proofs.lemmas.Result.{err_from_is_err_and}
use Rattle.readings.specs.Scalar.{boolean_of}
use Rattle.scalar.proofs.Reading.{value_bad, value_got, boolean_long}
use Rattle.scalar.proofs.read.boolean_in.Goals as goal

pub returns-in_err-measured : goal.returns-in_err-measured
returns-in_err-measured c =
    let p = err_from_is_err_and c.from_residual.result c.from_residual.ensures.1 in
    rw (p.1, p.2) (value_bad boolean_of c.args.text (rw c.in_err-measured.was at c.measure.ensures))

pub returns-then-measured-gt8 : goal.returns-then-measured-gt8
returns-then-measured-gt8 c =
    boolean_long c.args.text c.in_ok-measured.measured (rw c.in_ok-measured.was at c.measure.ensures) c.if-measured-gt8.true

pub returns : goal.returns
returns c =
    value_got boolean_of c.args.text c.in_ok-measured.measured (rw c.in_ok-measured.was at c.measure.ensures) _ c.fill.ensures
    c.boolean_of.ensures
