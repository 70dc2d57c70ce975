-- At the end there is none; behind `#` stands no name, and without it no number.
use Rattle.unescape.proofs.Parse.{reference_laws}
use Rattle.unescape.proofs.reference_from.Goals as goal

pub returns-then-from-text : goal.returns-then-from-text
returns-then-from-text c = search reference_laws

pub returns-then-text-from-eq35 : goal.returns-then-text-from-eq35
returns-then-text-from-eq35 c = search reference_laws

pub returns : goal.returns
returns c = search reference_laws
