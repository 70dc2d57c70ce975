-- What measuring found decides.
use Rattle.std.proofs.Common.{ap, ◌∙◌, sym}
use Rattle.document.specs.Part.{measured_as}
use Rattle.output.proofs.Writing.{given_measured, scalar_written, scalar_failed}
use Rattle.output.proofs.Output.write_scalar.Goals as goal

pub returns-in-Ok : goal.returns-in-Ok
returns-in-Ok c =
    let m = given_measured c.args.text c.and_then.result c.and_then.ensures in
    scalar_written c.args.member c.args.text c.in-Ok.measured (sym (ap measured_as c.in-Ok.is) ∙ m) c.write_measured.ensures

pub returns-in-Err : goal.returns-in-Err
returns-in-Err c =
    let m = given_measured c.args.text c.and_then.result c.and_then.ensures in
    scalar_failed c.args.member c.args.text c.in-Err.why (sym (ap measured_as c.in-Err.is) ∙ m) c.write_failed.ensures.does
