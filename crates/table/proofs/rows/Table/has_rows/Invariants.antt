-- The rows before k obey the rules, so all do exactly where those from k on do, from the place come to so far.
use Rattle.table.specs.Held.{place_is}
use Rattle.table.proofs.Pass.{Walking}
use Rattle.table.proofs.rows.Table.has_rows.Given as goal

abbrev pub invariant-loop-k : goal.invariant-loop-k
invariant-loop-k l = Walking l.self.body.now l.self.end l.self.rows.now l.n l.k (place_is l.place)
