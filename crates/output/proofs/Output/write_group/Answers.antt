-- The group stands where a place for it was found; where there is none, nothing is written.
use Rattle.std.proofs.Common.{arith, ap, ◌∙◌}
use Rattle.readings.specs.Output.{group_kind, keyless, group_entry}
use Rattle.output.specs.Kept.{flat}
use Rattle.output.specs.Plans.{put_group}
use Rattle.output.proofs.Groups.{flat_long}
use Rattle.output.proofs.Writing.{no_room, written, place_fits, filled_put}
use Rattle.output.proofs.Output.write_group.Goals as goal

pub put_flat-requires : goal.put_flat-requires
put_flat-requires c =
    let size = flat_long c.args.body.now c.args.kept.now c.args.member c.requires.inside c.flat_len-len.ensures in
    let fits = place_fits c.in_ok-start.ensures in
    record { inside = c.requires.inside; room = omega (arith, fits.bytes, size) }

pub returns-in_err-start : goal.returns-in_err-start
unfolding put_group
returns-in_err-start c =
    let l = flat c.args.body.now c.args.kept.now c.args.member in
    no_room (group_entry c.args.member l) l c.in_err-start.ensures
    (flat_long c.args.body.now c.args.kept.now c.args.member c.requires.inside c.flat_len-len.ensures) c.from_residual.ensures.1

pub returns : goal.returns
unfolding put_group
returns c =
    let l = flat c.args.body.now c.args.kept.now c.args.member in
    let size = flat_long c.args.body.now c.args.kept.now c.args.member c.requires.inside c.flat_len-len.ensures in
    written (group_entry c.args.member l) l c.in_ok-start.ensures size (filled_put l c.put_flat.ensures) c.push.ensures
    (c.keyless.ensures ∙ ap (keyless group_kind c.args.member c.in_ok-start.start) size)
