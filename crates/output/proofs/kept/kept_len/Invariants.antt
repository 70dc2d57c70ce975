-- What is counted, and what is left, come to the whole.
use Rattle.output.proofs.Groups.{LenAt}
use Rattle.output.proofs.kept.kept_len.Given as goal

abbrev pub invariant-loop-k : goal.invariant-loop-k
invariant-loop-k l = LenAt l.member l.kept l.n l.k-index
