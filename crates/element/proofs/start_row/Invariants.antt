-- None of the rows before k starts an element after the place.
use Rattle.element.proofs.Rows.{Seeking}
use Rattle.element.proofs.start_row.Given as goal

abbrev pub invariant-loop-k : goal.invariant-loop-k
invariant-loop-k l = Seeking l.rows l.place l.k
