use Rattle.table.specs.declared.kinds.Kind.{Kind}
use Rattle.decode.proofs.Known.{kind_same}
use Rattle.decode.proofs.Seeking.{seek_start, seek_ended, seek_done, seek_on}
use Rattle.decode.proofs.reader.SeenRows.next_start_element.Goals as goal

pub loop-k-init : goal.loop-k-init
loop-k-init c = seek_start c.args.scope c.requires.outside

pub returns-then-ends_at : goal.returns-then-ends_at
returns-then-ends_at c =
    rw c.over.ensures
    (seek_ended c.loop-k.invariant c.loop-k-test.true c.kind-kind.ensures
    (λ z. c.in_default.not-Start (kind_same c.kind-kind.result Kind.Start z)) c.depth_after-d.ensures c.ends_at.ensures c.if-ends_at.true)

pub loop-k-preserved : goal.loop-k-preserved
loop-k-preserved c =
    seek_on c.loop-k.invariant c.loop-k-test.true c.kind-kind.ensures
    (λ z. c.in_default.not-Start (kind_same c.kind-kind.result Kind.Start z))
    c.depth_after-d.ensures c.ends_at.ensures c.if-ends_at.false

pub returns : goal.returns
returns c = rw c.over-2.ensures (seek_done c.loop-k.invariant c.loop-k-test.false)
