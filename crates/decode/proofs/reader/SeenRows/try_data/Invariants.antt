use Rattle.decode.proofs.Texts.{TextFrom}
use Rattle.decode.proofs.reader.SeenRows.try_data.Given as goal

abbrev pub invariant-loop-k : goal.invariant-loop-k
invariant-loop-k l =
    TextFrom l.self.table.body.now l.self.table.rows.now l.self.count l.failure l.fn.start l.fn.at l.d l.k
