use Rattle.std.proofs.Common.{ap}
use Rattle.table.specs.Kinds.{kind_number}
use Rattle.table.specs.declared.kinds.Kind.{Kind}
use Rattle.decode.proofs.Known.{row_seen, kind_same}
use Rattle.decode.proofs.Texts.{text_closed, text_start, text_row, text_element, text_on, text_ended, text_failed, text_empty}
use Rattle.decode.proofs.reader.SeenRows.try_data.Goals as goal

pub returns-then-start : goal.returns-then-start
returns-then-start c =
    text_closed c.args.self.now.table.body.now c.args.self.now.table.rows.now c.args.self.now.count c.args.failure c.args.start c.args.at
    c.if-start.true

pub loop-k-init : goal.loop-k-init
loop-k-init c =
    text_start c.args.self.now.table.body.now c.args.self.now.table.rows.now c.args.self.now.count c.args.failure c.args.start c.args.at
    c.if-start.false

pub returns-in-Text : goal.returns-in-Text
returns-in-Text c =
    text_row c.loop-k.invariant c.loop-k-test.true c.kind-kind.ensures (ap kind_number c.in-Text.is)
    (row_seen c.args.self.now.seen c.loop-k-test.true)

pub returns-in-Start : goal.returns-in-Start
returns-in-Start c = text_element c.loop-k.invariant c.loop-k-test.true c.kind-kind.ensures (ap kind_number c.in-Start.is)

pub returns-then-ends_at : goal.returns-then-ends_at
returns-then-ends_at c =
    text_ended c.loop-k.invariant c.loop-k-test.true c.kind-kind.ensures
    (λ z. c.in_default.not-Text (kind_same c.kind-kind.result Kind.Text z))
    (λ z. c.in_default.not-Start (kind_same c.kind-kind.result Kind.Start z)) c.depth_after-d.ensures c.ends_at.ensures c.if-ends_at.true

pub loop-k-preserved : goal.loop-k-preserved
loop-k-preserved c =
    text_on c.loop-k.invariant c.loop-k-test.true c.kind-kind.ensures
    (λ z. c.in_default.not-Text (kind_same c.kind-kind.result Kind.Text z))
    (λ z. c.in_default.not-Start (kind_same c.kind-kind.result Kind.Start z)) c.depth_after-d.ensures c.ends_at.ensures c.if-ends_at.false

pub returns-in-Some : goal.returns-in-Some
returns-in-Some c = text_failed c.loop-k.invariant c.loop-k-test.false c.in-Some.is

pub returns-in-None : goal.returns-in-None
returns-in-None c = text_empty c.loop-k.invariant c.loop-k-test.false c.in-None.is
