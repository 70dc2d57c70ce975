-- The digits before i spell `n`; a number only grows, so above 2^31 the rest cannot bring it back.
use Rattle.scalar.proofs.Texts.{DigitsAt}
use Rattle.scalar.proofs.text.digits_from.Given as goal

abbrev pub invariant-loop-i : goal.invariant-loop-i
invariant-loop-i l = DigitsAt l.text l.from l.n l.i
