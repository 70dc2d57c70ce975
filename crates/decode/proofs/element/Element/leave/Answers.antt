use Rattle.decode.proofs.element.Element.leave.Goals as goal

pub returns : goal.returns
returns c =
    let x = rw (c.rows.ensures.table, c.rows.ensures.count) at c.leave.ensures in
    record { is = x.is c.args.self.now.at; stands = x.stands; later = x.later }
