use Rattle.unescape.proofs.Filling.{fill_laws}
use Rattle.unescape.proofs.fill.Goals as goal

pub loop-i-init : goal.loop-i-init
loop-i-init c = search fill_laws

pub unwrap-r-requires : goal.unwrap-r-requires
unwrap-r-requires c = search fill_laws

pub put_char-n-requires : goal.put_char-n-requires
put_char-n-requires c = search fill_laws

pub overflow_add-i : goal.overflow_add-i
overflow_add-i c = search fill_laws

pub loop-i-preserved-then-text-i-eq38 : goal.loop-i-preserved-then-text-i-eq38
loop-i-preserved-then-text-i-eq38 c = search fill_laws

pub put-n-requires : goal.put-n-requires
put-n-requires c = search fill_laws

pub loop-i-preserved : goal.loop-i-preserved
loop-i-preserved c = search fill_laws

pub returns : goal.returns
returns c = search fill_laws
