use Rattle.decode.proofs.Views.{view_passes, view_table}
use Rattle.decode.proofs.view.View.strict.Goals as goal

pub returns-in-Err-Table : goal.returns-in-Err-Table
returns-in-Err-Table c =
    view_table c.args.table
    (rw (c.in-Err-Table.field-0-is, c.ruled.ensures.body, c.ruled.ensures.rows) at c.in-Err-Table.ensures) c.whole.ensures

pub returns-in-Ok : goal.returns-in-Ok
returns-in-Ok c = view_passes c.args.table (rw (c.ruled.ensures.body, c.ruled.ensures.rows) at c.in-Ok.ensures) c.whole-in-Ok.ensures
