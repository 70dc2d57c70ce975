-- The five names of the definition from the last to the first: each is the other value of the next.
use Rattle.unescape.specs.Parse.{name_value}
use Rattle.unescape.proofs.name_value.Goals as goal

pub returns : goal.returns
unfolding name_value
returns c = cc
