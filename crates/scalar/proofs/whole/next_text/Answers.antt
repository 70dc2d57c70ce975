-- By kind: a text, a start, the element's end, or on at the depth after it.
use Rattle.std.proofs.Common.{ap}
use Rattle.table.specs.Kinds.{kind_number}
use Rattle.table.specs.declared.kinds.Kind.{Kind}
use Rattle.decode.proofs.Known.{kind_same}
use Rattle.scalar.proofs.Joining.{next_closed, next_start, next_none, next_element, next_found, next_on, next_ended}
use Rattle.scalar.proofs.whole.next_text.Goals as goal

pub returns-then-element : goal.returns-then-element
returns-then-element c = next_closed c.args.element.now c.args.at.now c.args.at.now c.if-element.true

pub loop-k-init : goal.loop-k-init
loop-k-init c = next_start c.args.element.now c.args.at.now c.requires c.if-element.false

pub returns-in-Text : goal.returns-in-Text
returns-in-Text c = next_found c.loop-k.invariant c.loop-k-test.true c.kind-kind.ensures (ap kind_number c.in-Text.is) c.text.ensures

pub returns-in-Start : goal.returns-in-Start
returns-in-Start c = next_element c.loop-k.invariant c.loop-k-test.true c.kind-kind.ensures (ap kind_number c.in-Start.is)

pub open_after-d-requires : goal.open_after-d-requires
open_after-d-requires c = λ z. absurd (c.in_default.not-Start (kind_same c.kind-kind.result Kind.Start z))

pub returns-then-ends_at : goal.returns-then-ends_at
returns-then-ends_at c =
    next_ended c.loop-k.invariant c.loop-k-test.true c.kind-kind.ensures
    (λ z. c.in_default.not-Text (kind_same c.kind-kind.result Kind.Text z))
    (λ z. c.in_default.not-Start (kind_same c.kind-kind.result Kind.Start z)) c.open_after-d.ensures c.ends_at.ensures c.if-ends_at.true

pub loop-k-preserved : goal.loop-k-preserved
loop-k-preserved c =
    next_on c.loop-k.invariant c.loop-k-test.true c.kind-kind.ensures
    (λ z. c.in_default.not-Text (kind_same c.kind-kind.result Kind.Text z))
    (λ z. c.in_default.not-Start (kind_same c.kind-kind.result Kind.Start z)) c.open_after-d.ensures c.ends_at.ensures c.if-ends_at.false

pub returns : goal.returns
returns c = next_none c.loop-k.invariant c.loop-k-test.false
