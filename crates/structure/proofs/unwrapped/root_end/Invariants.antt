-- So many are open before row k, and no row before it closed the root.
use Rattle.structure.proofs.Ending.{EndAt}
use Rattle.structure.proofs.unwrapped.root_end.Given as goal

abbrev pub invariant-loop-k : goal.invariant-loop-k
invariant-loop-k l = EndAt l.root l.deep l.k
