use Rattle.decode.proofs.Skipping.{SkipAt}
use Rattle.decode.proofs.reader.SeenRows.skip.Given as goal

abbrev pub invariant-loop-k : goal.invariant-loop-k
invariant-loop-k l = SkipAt l.self.table.body.now l.self.table.rows.now l.self.count l.scope l.fn.at l.d l.k
