-- Key and value stand where a place for both was found; where there is none, nothing is written.
use Rattle.std.proofs.Common.{arith, ◌++◌, length-append}
use Rattle.document.specs.Part.{bytes_of}
use Rattle.readings.specs.Output.{key_text_entry}
use Rattle.output.specs.Entry.{entry_of}
use Rattle.output.specs.Plans.{put_key_text}
use Rattle.output.proofs.Writing.{no_room, written, filled_two, place_fits, place_at}
use Rattle.output.proofs.Output.write_key_text.Goals as goal

pub returns-in_err-start : goal.returns-in_err-start
unfolding put_key_text
returns-in_err-start c =
    let k = bytes_of c.args.key in
    let v = bytes_of c.args.value in
    no_room (key_text_entry k v) (k ++ v) c.in_err-start.ensures
    (omega (arith, c.args.key.size, c.args.value.size, length-append k v)) c.from_residual.ensures.1

pub returns : goal.returns
unfolding put_key_text entry_of
returns c =
    let k = bytes_of c.args.key in
    let v = bytes_of c.args.value in
    let fits = place_fits c.in_ok-start.ensures in
    written (key_text_entry k v) (k ++ v) c.in_ok-start.ensures
    (omega (arith, c.args.key.size, c.args.value.size, length-append k v))
    (filled_two k v (omega (arith, c.args.key.size)) (omega (arith, fits.bytes, c.args.key.size, c.args.value.size)) c.fill.ensures
    c.fill-2.ensures)
    c.push.ensures (rw (c.args.key.size, c.args.value.size, place_at c.in_ok-start.ensures))
