-- The key stands where a place for it was found; where there is none, nothing is written.
use Rattle.std.proofs.Common.{arith}
use Rattle.document.specs.Part.{bytes_of}
use Rattle.readings.specs.Output.{key_piece_entry}
use Rattle.output.specs.Entry.{entry_of}
use Rattle.output.specs.Plans.{put_key_piece}
use Rattle.output.proofs.Writing.{no_room, written, filled_one, place_fits}
use Rattle.output.proofs.Output.write_key_piece.Goals as goal

pub returns-in_err-start : goal.returns-in_err-start
unfolding put_key_piece
returns-in_err-start c =
    let l = bytes_of c.args.key in
    no_room (key_piece_entry l c.args.piece) l c.in_err-start.ensures c.args.key.size c.from_residual.ensures.1

pub returns : goal.returns
unfolding put_key_piece entry_of
returns c =
    let l = bytes_of c.args.key in
    let fits = place_fits c.in_ok-start.ensures in
    written (key_piece_entry l c.args.piece) l c.in_ok-start.ensures c.args.key.size
    (filled_one l (omega (arith, fits.bytes, c.args.key.size)) c.fill.ensures) c.push.ensures (rw c.args.key.size)
