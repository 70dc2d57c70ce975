-- What measuring found decides: 7 before room is tested.
use Rattle.output.proofs.Writing.{text_refused, text_written}
use Rattle.output.proofs.Output.write_text.Goals as goal

pub returns-in_err-measured : goal.returns-in_err-measured
returns-in_err-measured c = text_refused c.args.member c.args.text c.in_err-measured.ensures c.from_residual.ensures.1

pub returns : goal.returns
returns c = text_written c.args.member c.args.text c.in_ok-measured.measured c.in_ok-measured.ensures c.write_measured.ensures
