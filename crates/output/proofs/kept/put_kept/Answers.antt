-- What is copied, and what is left, come to the whole.
use Rattle.std.proofs.Common.{arith}
use Rattle.output.proofs.Groups.{copied_start, copied_end, copied_room, copied_mine, copied_other, inside_at}
use Rattle.output.proofs.kept.put_kept.Goals as goal
use Rattle.output.proofs.kept.put_kept.Goals.{then-k-member, else-k-member}

pub loop-k-init : goal.loop-k-init
loop-k-init c = copied_start c.args.body.now c.args.kept.now c.args.member c.args.texts.now c.args.from

pub slice_bounds-put-end : goal.slice_bounds-put-end
slice_bounds-put-end c = let h = inside_at c.requires.inside.each c.loop-k.k-index c.loop-k-test.true in omega (arith, h.within)

pub put-at-requires : goal.put-at-requires
put-at-requires c = copied_room c.loop-k.invariant c.loop-k-test.true c.if-k-member.true c.requires.room

pub loop-k-preserved : goal.loop-k-preserved
loop-k-preserved c =
    elim c.if-k-member.branch [
      | then-k-member w ↦
          rw (w.texts-is, w.at-is) (copied_mine c.loop-k.invariant c.loop-k-test.true w.if-k-member.true w.put-at.ensures)
      | else-k-member w ↦
          rw (w.texts-is, w.at-is) (copied_other c.loop-k.invariant c.loop-k-test.true w.if-k-member.false)
    ]

pub returns : goal.returns
returns c = copied_end c.loop-k.invariant c.loop-k-test.false
