use Rattle.std.proofs.Common.{refl}
use Rattle.table.specs.declared.kinds.Kind.{Kind}
use Rattle.decode.proofs.Known.{kind_same}
use Rattle.decode.proofs.StartTag.{tag_done, tag_gt, tag_slash, tag_over}
use Rattle.decode.proofs.reader.SeenRows.start_tag.Goals as goal

pub returns-then-self-end : goal.returns-then-self-end
returns-then-self-end c =
    rw c.over.ensures (tag_done c.args.self.now.sees c.requires c.tag_end-end.ensures c.if-self-end.true)

pub returns-in-Gt : goal.returns-in-Gt
returns-in-Gt c = tag_gt c.args.self.now.sees c.requires c.tag_end-end.ensures c.if-self-end.false c.in-Gt.ensures refl

pub returns-in-Slash : goal.returns-in-Slash
returns-in-Slash c = tag_slash c.args.self.now.sees c.requires c.tag_end-end.ensures c.if-self-end.false c.in-Slash.ensures refl

pub returns-in_default : goal.returns-in_default
returns-in_default c =
    rw c.over-in_default.ensures
    (tag_over c.args.self.now.sees c.requires c.tag_end-end.ensures c.if-self-end.false c.kind.ensures
    (λ z. c.in_default.not-Gt (kind_same c.kind.result Kind.Gt z))
    (λ z. c.in_default.not-Slash (kind_same c.kind.result Kind.Slash z)))
