use Rattle.std.proofs.Common.{sym, ◌∙◌}
use Rattle.codec.specs.Collection.{map_said}
use Rattle.map.proofs.EntryLaws.{map_is, map_whole}
use Rattle.map.proofs.read_map.Goals as goal

pub returns : goal.returns
returns c =
    let m = map_said c.args.sheet.now in
    let root = c.args.root.now in
    let d =
    map_is c.pattern_of-name.result c.args.settings m (c.pattern_of-name.ensures ∙ sym c.entry_name.ensures) root
    c.read_children.ensures in
    record { does = d; whole = map_whole c.args.settings m root d }
