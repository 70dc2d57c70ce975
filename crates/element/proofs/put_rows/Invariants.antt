-- The rows before row i are stored.
use Rattle.element.proofs.Numbers.{Copying}
use Rattle.element.proofs.put_rows.Given as goal

abbrev pub invariant-loop-i : goal.invariant-loop-i
invariant-loop-i l = Copying l.rows l.k l.n l.place l.initial.out l.out l.i
