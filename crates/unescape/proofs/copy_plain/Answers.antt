use Rattle.unescape.proofs.Filling.{plain_laws}
use Rattle.unescape.proofs.copy_plain.Goals as goal

pub returns-then-text-out : goal.returns-then-text-out
returns-then-text-out c = search plain_laws

pub returns : goal.returns
returns c = search plain_laws
