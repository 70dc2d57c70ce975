use Rattle.decode.proofs.Skipping.{skip_start, skip_on, skip_ended, skip_done}
use Rattle.decode.proofs.reader.SeenRows.skip.Goals as goal

pub loop-k-init : goal.loop-k-init
loop-k-init c = skip_start c.args.scope c.requires.tagged

pub returns-then-ends_at : goal.returns-then-ends_at
returns-then-ends_at c =
    rw c.over.ensures
    (skip_ended c.requires.tagged c.loop-k.invariant c.loop-k-test.true c.kind.ensures c.open_after-d.ensures c.ends_at.ensures
    c.if-ends_at.true)

pub loop-k-preserved : goal.loop-k-preserved
loop-k-preserved c =
    skip_on c.requires.tagged c.loop-k.invariant c.loop-k-test.true c.kind.ensures c.open_after-d.ensures c.ends_at.ensures
    c.if-ends_at.false

pub returns : goal.returns
returns c = rw c.over-2.ensures (skip_done c.requires.tagged c.loop-k.invariant c.loop-k-test.false)
