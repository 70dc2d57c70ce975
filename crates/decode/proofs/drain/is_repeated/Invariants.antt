use Rattle.decode.proofs.Faults.{NoneNamed}
use Rattle.decode.proofs.drain.is_repeated.Given as goal

abbrev pub invariant-loop-j : goal.invariant-loop-j
invariant-loop-j l = NoneNamed l.table.body.now l.table.rows.now l.tag l.k l.j
