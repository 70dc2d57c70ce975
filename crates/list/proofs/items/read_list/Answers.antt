use Rattle.std.proofs.Common.{sym, ◌∙◌}
use Rattle.codec.specs.Collection.{list_said}
use Rattle.opening.specs.Opening.{asked_of, body_of}
use Rattle.list.proofs.ItemLaws.{list_is, list_enters}
use Rattle.list.proofs.items.read_list.Goals as goal

pub returns : goal.returns
returns c =
    let s = list_said c.args.sheet.now in
    let root = c.args.root.now in
    let d =
    list_is c.pattern_of-name.result c.args.settings s (c.pattern_of-name.ensures ∙ sym c.item_name.ensures) root c.read_children.ensures in
    record { does = d; enters = list_enters (body_of root) c.args.settings (asked_of s root) d }
