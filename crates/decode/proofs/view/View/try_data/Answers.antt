use Rattle.decode.specs.Element.{row_text}
use Rattle.decode.proofs.Texts.{given_empty}
use Rattle.decode.proofs.view.View.try_data.Goals as goal

pub returns-in-None-clause-same : goal.returns-in-None-clause-same
returns-in-None-clause-same c =
    given_empty c.args.self.now c.args.start c.args.at
    (rw (c.rows.ensures.table, c.rows.ensures.count, c.in-None.is) at c.in_ok-k.ensures) c.empty.result c.empty.ensures

pub returns-in-Some-clause-row : goal.returns-in-Some-clause-row
returns-in-Some-clause-row c =
    row_text c.in-Some.k (rw (c.rows.ensures.table, c.rows.ensures.count, c.in-Some.is) at c.in_ok-k.ensures).row c.text.ensures
