-- The tags, and what is between them, stand end to end.
use Rattle.std.proofs.Common.{arith}
use Rattle.output.proofs.Groups.{flat_size, flat_kept, flat_close, flat_done}
use Rattle.output.proofs.kept.put_flat.Goals as goal

pub put-first-requires : goal.put-first-requires
put-first-requires c = omega (arith, flat_size c.args.body.now c.args.kept.now c.args.member, c.requires.room)

pub put_kept-last-requires : goal.put_kept-last-requires
put_kept-last-requires c =
    record {
      inside = c.requires.inside;
      room = flat_kept c.args.body.now c.args.kept.now c.args.member c.put-first.ensures c.requires.room;
    }

pub put-requires : goal.put-requires
put-requires c =
    flat_close c.args.body.now c.args.kept.now c.args.member c.put-first.ensures c.put_kept-last.ensures c.requires.room

pub returns : goal.returns
returns c =
    flat_done c.args.body.now c.args.kept.now c.args.member c.put-first.ensures c.put_kept-last.ensures c.put.ensures
