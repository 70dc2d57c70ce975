-- It begins at the root's tag; its places are those of a body, so they are 32-bit numbers.
use Rattle.structure.proofs.Ending.{piece_from, piece_is}
use Rattle.structure.proofs.unwrapped.root_piece.Goals as goal

pub overflow_cast-result : goal.overflow_cast-result
overflow_cast-result c = record { fits = piece_from c.args.root.now c.begin-start.ensures c.root_end.ensures }

pub returns : goal.returns
returns c = rw c.saturating_sub-len.ensures (piece_is c.args.root.now c.begin-start.ensures c.root_end.ensures)
