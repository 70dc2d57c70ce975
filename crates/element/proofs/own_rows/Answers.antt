use Rattle.element.proofs.Rows.{own_in}
use Rattle.element.proofs.own_rows.Goals as goal

pub put_rows-requires-clause-n_in_bounds : goal.put_rows-requires-clause-n_in_bounds
put_rows-requires-clause-n_in_bounds c = own_in c.start_row-k.ensures c.row_count-n.ensures
