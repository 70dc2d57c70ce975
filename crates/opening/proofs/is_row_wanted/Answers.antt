-- Where a name is asked for the row must have it; where none is, every row is wanted.
use Rattle.table.specs.Rows.{name_at}
use Rattle.opening.proofs.Wanted.{wanted_named, wanted_any}
use Rattle.opening.proofs.is_row_wanted.Goals as goal

pub returns-in-Some : goal.returns-in-Some
returns-in-Some c = wanted_named (name_at c.args.rows.body.now c.args.rows.rows.now c.args.k) c.in-Some.is c.matches.ensures

pub returns-in-None : goal.returns-in-None
returns-in-None c = wanted_any (name_at c.args.rows.body.now c.args.rows.rows.now c.args.k) c.in-None.is
