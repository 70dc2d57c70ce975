use Rattle.decode.proofs.StartTag.{good_ok}
use Rattle.decode.proofs.reader.SeenRows.is_good.Goals as goal

pub returns-in-Attribute : goal.returns-in-Attribute
returns-in-Attribute c =
    good_ok c.args.self.now.table.body.now c.args.self.now.table.rows.now c.args.k c.in-Attribute.ensures c.value.ensures c.measure.ensures
    c.is_ok.ensures.value
