-- What `unescape` wrote decides.
use Rattle.std.proofs.Common.{Err, ◌∙◌, ap}
use Rattle.document.proofs.Measuring.{text_laws, copy_small, copy_bad, copy_no_room}
use Rattle.document.proofs.part.Text.copy.Goals as goal

pub bad_at-requires : goal.bad_at-requires
bad_at-requires c =
    let h = c.in-Err-BadReference in
    copy_small c.args.self.bytes.now c.args.self.from c.unescape.ensures (h.is ∙ ap Err h.field-0-is) c.args.self.small

pub returns-in-Ok : goal.returns-in-Ok
returns-in-Ok c = search text_laws

pub returns-in-Err-BadReference : goal.returns-in-Err-BadReference
returns-in-Err-BadReference c =
    let h = c.in-Err-BadReference in
    copy_bad c.args.self.bytes.now c.args.self.from c.unescape.ensures (h.is ∙ ap Err h.field-0-is) c.bad_at.ensures

pub returns-in-Err-NoRoom : goal.returns-in-Err-NoRoom
returns-in-Err-NoRoom c =
    let h = c.in-Err-NoRoom in
    copy_no_room c.args.self.bytes.now c.args.self.from c.unescape.ensures (h.is ∙ ap Err h.field-0-is)
