use Rattle.decode.proofs.Pieces.{piece_from, piece_is}
use Rattle.decode.proofs.view.View.piece_of.Goals as goal

pub overflow_cast-result : goal.overflow_cast-result
overflow_cast-result c =
    let x = rw (c.rows.ensures.table, c.rows.ensures.count) at c.piece_start-from.ensures in
    record { fits = piece_from c.requires.start_in c.requires.drop_is x c.piece_end-end.ensures }

pub returns : goal.returns
returns c =
    let x = rw (c.rows.ensures.table, c.rows.ensures.count) at c.piece_start-from.ensures in
    rw c.saturating_sub.ensures (piece_is c.requires.start_in c.requires.drop_is x c.piece_end-end.ensures)
