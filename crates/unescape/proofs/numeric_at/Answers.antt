-- Neither `#` nor `x` nor `+` ends a reference, so the digits after them end where the whole does.
use Rattle.unescape.proofs.Parse.{numeric_laws}
use Rattle.unescape.proofs.numeric_at.Goals as goal

pub returns-then-from-text : goal.returns-then-from-text
returns-then-from-text c = search numeric_laws

pub returns-then-text-from-eq120 : goal.returns-then-text-from-eq120
returns-then-text-from-eq120 c = search numeric_laws

pub returns : goal.returns
returns c = search numeric_laws
