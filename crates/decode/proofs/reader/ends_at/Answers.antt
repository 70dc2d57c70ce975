use Rattle.decode.proofs.Ending.{end_close, end_other, end_none}
use Rattle.decode.proofs.reader.ends_at.Goals as goal

pub returns-in_default : goal.returns-in_default
returns-in_default c = end_none c.args.rows.body.now c.args.rows.rows.now c.args.scope c.args.d c.args.k c.in_default.ensures

pub returns-in-Close : goal.returns-in-Close
returns-in-Close c =
    end_close c.args.rows.body.now c.args.rows.rows.now c.args.scope c.args.d c.args.k (rw c.in-Close.is at c.in-Some.ensures)
    c.is_end.ensures

pub returns-in_default-kind : goal.returns-in_default-kind
returns-in_default-kind c =
    end_other c.args.rows.body.now c.args.rows.rows.now c.args.scope c.args.d c.args.k c.in-Some.ensures c.in_default-kind.not-Close
