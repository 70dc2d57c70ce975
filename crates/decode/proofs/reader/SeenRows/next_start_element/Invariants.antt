use Rattle.decode.proofs.Seeking.{SeekAt}
use Rattle.decode.proofs.reader.SeenRows.next_start_element.Given as goal

abbrev pub invariant-loop-k : goal.invariant-loop-k
invariant-loop-k l = SeekAt l.self.table.body.now l.self.table.rows.now l.self.count l.scope l.fn.at l.d l.k
