-- The three ranges of the definition from the innermost outwards: each is the other value of the next.
use Rattle.reference.specs.Number.{digit}
use Rattle.unescape.proofs.digit_of.Goals as goal

pub returns : goal.returns
unfolding digit
returns c = cc
