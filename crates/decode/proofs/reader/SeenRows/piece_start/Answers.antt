use Rattle.decode.proofs.Pieces.{start_begins}
use Rattle.decode.proofs.reader.SeenRows.piece_start.Goals as goal

pub returns : goal.returns
returns c = start_begins c.requires c.begin.ensures
