-- What is left from row k on, at depth d, is the whole from the place on.
use Rattle.scalar.proofs.Joining.{TextsAt}
use Rattle.scalar.proofs.whole.next_text.Given as goal

abbrev pub invariant-loop-k : goal.invariant-loop-k
invariant-loop-k l = TextsAt l.element l.fn.at l.d l.k
