use Rattle.std.proofs.Common.{◌≡◌, ℕ, ◌<◌, true}
use Rattle.decode.specs.Reader.{good_attribute}
use Rattle.decode.proofs.reader.SeenRows.tag_end.Given as goal

abbrev pub invariant-loop-k : goal.invariant-loop-k
invariant-loop-k l = (j : ℕ) → l.i < j → j < l.k → good_attribute l.self.table.body.now l.self.table.rows.now j ≡ true
