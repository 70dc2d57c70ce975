-- The first k bytes are stored from the place on, and all else is as it was.
use Rattle.slices.proofs.Copy.{CopyAt}
use Rattle.slices.proofs.put.Given as goal

abbrev pub invariant-loop-k : goal.invariant-loop-k
invariant-loop-k l = CopyAt l.s l.initial.out l.out l.at l.k
