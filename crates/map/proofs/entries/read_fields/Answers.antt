use Rattle.std.proofs.lemmas.Result.{err_from_is_err_and}
use Rattle.codec.specs.Collection.{map_said}
use Rattle.map.proofs.Reading.{fields_refused, fields_on, fields_done}
use Rattle.map.proofs.entries.read_fields.Goals as goal

pub returns-in_err-read : goal.returns-in_err-read
returns-in_err-read c =
    let p = err_from_is_err_and c.from_residual.result c.from_residual.ensures.1 in
    rw (p.1, p.2)
    (fields_refused (map_said c.args.sheet.now) c.args.entry.now c.loop-child.invariant c.in-Ok.ensures c.drain-past.ensures c.read.new.self
    c.in_err-read.ensures)

pub loop-child-preserved : goal.loop-child-preserved
loop-child-preserved c =
    fields_on (map_said c.args.sheet.now) c.args.entry.now c.loop-child.invariant c.in-Ok.ensures c.drain-past.ensures c.in_ok-read.ensures
    c.from_place-scope.ensures

pub returns : goal.returns
returns c = fields_done (map_said c.args.sheet.now) c.args.entry.now c.loop-child.invariant c.in-Err.ensures c.leave-at.ensures
