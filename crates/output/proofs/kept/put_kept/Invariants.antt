-- What is copied, and what is left, come to the whole.
use Rattle.output.proofs.Groups.{CopiedAt}
use Rattle.output.proofs.kept.put_kept.Given as goal

abbrev pub invariant-loop-k : goal.invariant-loop-k
invariant-loop-k l = CopiedAt l.body l.kept l.member l.initial.texts l.texts l.from l.at l.k-index
