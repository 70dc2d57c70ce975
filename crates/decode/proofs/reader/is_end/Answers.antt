use Rattle.decode.proofs.Ending.{end_name}
use Rattle.decode.proofs.reader.is_end.Goals as goal

pub returns-then-d-own : goal.returns-then-d-own
returns-then-d-own c = rw c.in-Element.is (end_name _ c.args.d c.if-d-own.true c.same_name.ensures)
