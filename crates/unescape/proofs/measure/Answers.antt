use Rattle.unescape.proofs.Loops.{measure_laws}
use Rattle.unescape.proofs.measure.Goals as goal

pub loop-i-init : goal.loop-i-init
loop-i-init c = search measure_laws

pub returns-in_default : goal.returns-in_default
returns-in_default c = search measure_laws

pub overflow_add-i : goal.overflow_add-i
overflow_add-i c = search measure_laws

pub loop-i-preserved-then-text-i-eq38 : goal.loop-i-preserved-then-text-i-eq38
loop-i-preserved-then-text-i-eq38 c = search measure_laws

pub loop-i-preserved : goal.loop-i-preserved
loop-i-preserved c = search measure_laws

pub returns : goal.returns
returns c = search measure_laws
