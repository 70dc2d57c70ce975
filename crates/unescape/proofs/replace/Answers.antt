-- What was measured is the length of the whole, so whether it fits is known before a byte is written.
use Rattle.std.proofs.lemmas.Result.{err_from_is_err_and}
use Rattle.unescape.proofs.Filling.{measured_room, measured_length, measured_none, measured_bad}
use Rattle.unescape.proofs.replace.Goals as goal

pub returns-in_err-n : goal.returns-in_err-n
returns-in_err-n c =
    let p = err_from_is_err_and c.from_residual.result c.from_residual.ensures.1 in
    rw (p.1, p.2) (measured_bad c.args.text.now c.measure.ensures c.in_err-n.was)

pub returns-then-n-out : goal.returns-then-n-out
returns-then-n-out c = measured_none c.args.text.now c.measure.ensures c.in_ok-n.was c.if-n-out.true

pub fill-requires : goal.fill-requires
fill-requires c = measured_room c.args.text.now c.measure.ensures c.in_ok-n.was c.if-n-out.false

pub returns : goal.returns
returns c = measured_length c.args.text.now c.measure.ensures c.in_ok-n.was c.if-n-out.false c.fill.ensures
