use Rattle.decode.proofs.Attributes.{named_start}
use Rattle.decode.proofs.reader.SeenRows.attr.Goals as goal

pub loop-k-init : goal.loop-k-init
loop-k-init c = named_start _ _ _ _
