use Rattle.decode.proofs.Attributes.{attribute_none, attribute_some}
use Rattle.decode.proofs.view.View.attr.Goals as goal

pub returns-in-Some : goal.returns-in-Some
returns-in-Some c =
    attribute_some c.args.self.now c.args.start c.args.pattern.whole.now
    (rw c.rows.ensures.table at c.in-Some.ensures) c.text.ensures

pub returns-in-None : goal.returns-in-None
returns-in-None c =
    attribute_none c.args.self.now c.args.start c.args.pattern.whole.now
    (rw c.rows.ensures.table at c.in-None.ensures)
