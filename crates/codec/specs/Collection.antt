-- List and map sheets (01, "Sheets and entries"): what a struct that was read says.
use Rattle.std.specs.Prelude.{Option, Some, None}
use Rattle.std.proofs.Math.Option as math
use Rattle.std.proofs.Math.Option.{none, some}
use Rattle.sheet.specs.Sheet as defined
use Rattle.codec.specs.Told.{told_name}
use Rattle.codec.specs.declared.collection.Item.{Item}
use Rattle.codec.specs.declared.collection.Value.{Value}
use Rattle.codec.specs.declared.collection.ListSheet.{ListSheet}
use Rattle.codec.specs.declared.collection.MapSheet.{MapSheet}

abbrev pub item_said : Option Item → math.Option defined.Item
item_said None = none
item_said (Some i) = some (record { xml_name = told_name i.xml_name; member_name = told_name i.member_name })

abbrev pub list_said : ListSheet → defined.ListSheet
list_said a = record { item = item_said a.item; flattened = a.flattened }

abbrev pub value_said : Option Value → math.Option defined.Value
value_said None = none
value_said (Some v) = some (record { xml_name = told_name v.xml_name; aggregate = v.aggregate })

abbrev pub map_said : MapSheet → defined.MapSheet
map_said a =
    record { flattened = a.flattened; key_xml_name = told_name a.key_xml_name; value = value_said a.value }
