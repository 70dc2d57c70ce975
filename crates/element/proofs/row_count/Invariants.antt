-- The rows before j are counted, and so many elements are open after them.
use Rattle.element.proofs.Rows.{Counting}
use Rattle.element.proofs.row_count.Given as goal

abbrev pub invariant-loop-j : goal.invariant-loop-j
invariant-loop-j l = Counting l.rows l.k l.open l.j
