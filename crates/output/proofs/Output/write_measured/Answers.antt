-- The text stands where a place for it was found; where there is none, nothing is written.
use Rattle.std.proofs.Common.{◌∙◌, ap, arith}
use Rattle.document.specs.Part.{bytes_of}
use Rattle.readings.specs.Output.{text_kind, keyless, text_entry}
use Rattle.output.specs.Plans.{put_measured}
use Rattle.output.proofs.Writing.{no_room, written, filled_one, place_fits}
use Rattle.output.proofs.Output.write_measured.Goals as goal

pub returns-in_err-start : goal.returns-in_err-start
unfolding put_measured
returns-in_err-start c =
    let l = bytes_of c.args.text in
    no_room (text_entry c.args.member l) l c.in_err-start.ensures c.args.text.size c.from_residual.ensures.1

pub returns : goal.returns
unfolding put_measured
returns c =
    let l = bytes_of c.args.text in
    let fits = place_fits c.in_ok-start.ensures in
    written (text_entry c.args.member l) l c.in_ok-start.ensures c.args.text.size
    (filled_one l (omega (arith, fits.bytes, c.args.text.size)) c.fill.ensures) c.push.ensures
    (c.keyless.ensures ∙ ap (keyless text_kind c.args.member c.in_ok-start.start) c.args.text.size)
