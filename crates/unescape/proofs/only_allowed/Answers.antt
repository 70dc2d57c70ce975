use Rattle.unescape.proofs.Parse.{only_laws}
use Rattle.unescape.proofs.only_allowed.Goals as goal

pub returns-in-Some : goal.returns-in-Some
returns-in-Some c = search only_laws

pub returns-in_default : goal.returns-in_default
returns-in_default c = search only_laws

pub returns-in_default-2 : goal.returns-in_default-2
returns-in_default-2 c = search only_laws
