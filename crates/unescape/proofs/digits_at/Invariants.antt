-- The digits before i come to `acc`; once past 32 bits a number stays there, and no digit is a `;` or an `&`.
use Rattle.unescape.proofs.Parse.{DigitsAt}
use Rattle.unescape.proofs.digits_at.Given as goal

abbrev pub invariant-loop-i : goal.invariant-loop-i
invariant-loop-i l = DigitsAt l.base l.text l.from l.start l.acc l.i
