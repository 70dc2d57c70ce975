-- Codes are below 256, so the number gives back code and length, and only a bad reference is 0.
use Rattle.unescape.proofs.Parse.{packed_laws}
use Rattle.unescape.proofs.named_at.Goals as goal

pub returns-then-r-eq0 : goal.returns-then-r-eq0
returns-then-r-eq0 c = search packed_laws

pub returns : goal.returns
returns c = search packed_laws
