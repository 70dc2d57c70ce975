use Rattle.element.proofs.Numbers.{copying_start}
use Rattle.element.proofs.put_rows.Goals as goal

pub loop-i-init : goal.loop-i-init
loop-i-init c = copying_start _ _ _ _ _
