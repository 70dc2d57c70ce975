use Rattle.std.proofs.Common.{sym, ◌∙◌}
use Rattle.codec.specs.Collection.{list_said}
use Rattle.list.proofs.ItemLaws.{strings_are, strings_whole}
use Rattle.list.proofs.items.read_string_list.Goals as goal

pub returns : goal.returns
returns c =
    let s = list_said c.args.sheet.now in
    let root = c.args.root.now in
    let d =
    strings_are c.pattern_of-name.result c.args.settings s (c.pattern_of-name.ensures ∙ sym c.item_name.ensures) root
    c.read_children.ensures in
    record { does = d; whole = strings_whole c.args.settings s root d }
