use Rattle.std.proofs.Common.{◌+◌}
use Rattle.decode.specs.Reader.{NoMatch}
use Rattle.decode.proofs.reader.SeenRows.attr.Given as goal

abbrev pub invariant-loop-k : goal.invariant-loop-k
invariant-loop-k l = NoMatch l.self.table.body.now l.self.table.rows.now l.pattern.whole.now (l.fn.start.row + 1) l.k
