use Rattle.std.proofs.lemmas.Result.{err_from_is_err_and}
use Rattle.readings.specs.Scalar.{integer_of}
use Rattle.scalar.proofs.Reading.{value_bad, value_got, value_short, room_kept}
use mathlib.Core.Path.{sym}
use Rattle.std.proofs.lemmas.List.{length-take-le}
use Rattle.scalar.proofs.read.integer_replaced.Goals as goal

pub returns-in_err-measured : goal.returns-in_err-measured
returns-in_err-measured c =
    let p = err_from_is_err_and c.from_residual.result c.from_residual.ensures.1 in
    rw (p.1, p.2) (value_bad integer_of c.args.text (rw c.in_err-measured.was at c.measure.ensures))

pub returns : goal.returns
returns c =
    value_got integer_of c.args.text c.in_ok-measured.measured (rw c.in_ok-measured.was at c.measure.ensures) _ c.fill.ensures
    c.integer_of.ensures

pub fill-requires : goal.fill-requires
fill-requires c = value_short c.args.text c.in_ok-measured.measured (rw c.in_ok-measured.was at c.measure.ensures)

pub slice_bounds-room-end : goal.slice_bounds-room-end
slice_bounds-room-end c = room_kept c.in_ok-measured.measured _ c.fill.ensures

pub slice_bounds-integer_of-end : goal.slice_bounds-integer_of-end
slice_bounds-integer_of-end c =
    let m = c.in_ok-measured.measured in
    sym (length-take-le m.len c.fill.new.out (room_kept m _ c.fill.ensures))
