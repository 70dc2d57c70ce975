-- From i on no `<` stands, so the first one met on the way back is the last.
use Rattle.table.proofs.Scan.{BackAt}
use Rattle.table.proofs.rules.last_lt.Given as goal

abbrev pub invariant-loop-i : goal.invariant-loop-i
invariant-loop-i l = BackAt l.body l.at l.i
