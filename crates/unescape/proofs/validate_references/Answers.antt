use Rattle.unescape.proofs.Loops.{valid_bad, valid_laws}
use Rattle.unescape.proofs.validate_references.Goals as goal

pub loop-i-init : goal.loop-i-init
loop-i-init c = search valid_laws

pub returns-in_default : goal.returns-in_default
returns-in_default c =
    valid_bad c.loop-i.invariant.0 c.loop-i-test.true c.if-text-i-eq38.true c.reference_from.ensures c.in_default.is

pub overflow_add-i : goal.overflow_add-i
overflow_add-i c = search valid_laws

pub loop-i-preserved-then-text-i-eq38 : goal.loop-i-preserved-then-text-i-eq38
loop-i-preserved-then-text-i-eq38 c = search valid_laws

pub loop-i-preserved : goal.loop-i-preserved
loop-i-preserved c = search valid_laws

pub returns : goal.returns
returns c = search valid_laws
