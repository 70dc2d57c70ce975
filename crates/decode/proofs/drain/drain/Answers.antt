use Rattle.decode.proofs.Walking.{drain_walked, drain_table}
use Rattle.decode.proofs.drain.drain.Goals as goal

pub returns-in-Some : goal.returns-in-Some
returns-in-Some c =
    let e = c.in-Some.ensures in
    drain_walked c.args.table.body.now c.args.table.rows.now c.args.table.end (rw (e.0, e.1, e.2) at c.in-Some.valid.obeys)
    (rw (c.ruled.ensures.body, c.ruled.ensures.rows, e.0, e.1) at c.walk.ensures)

pub returns-in-None : goal.returns-in-None
returns-in-None c = drain_table c.args.table.body.now c.args.table.rows.now c.args.table.end c.in-None.ensures
