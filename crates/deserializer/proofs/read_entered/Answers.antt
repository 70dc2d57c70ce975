-- By the shape: what is asked first refuses as the definition does, with nothing written; past it, what is read of the root.
use Rattle.codec.specs.Collection.{list_said, map_said}
use Rattle.codec.specs.Structure.{structure_said}
use Rattle.deserializer.proofs.Asking.{struct_refused, struct_read, list_refused, list_read, map_refused, map_read, strings_refused}
use Rattle.deserializer.proofs.Asking.{strings_read, as_shape}
use Rattle.deserializer.proofs.read_entered.Goals as goal

pub returns-in_err-sheet-in-Struct : goal.returns-in_err-sheet-in-Struct
returns-in_err-sheet-in-Struct c =
    as_shape _ _ c.in-Struct.is (struct_refused c.args.table c.args.bytes.now c.args.settings c.args.depth c.args.entered
    c.is_strict-strict.result c.requires
    c.is_strict-strict.ensures structure_said c.parse.result c.parse.ensures c.in_err-sheet-in-Struct.ensures.is c.from_residual.ensures.1)

pub returns-in_err-sheet-in-List : goal.returns-in_err-sheet-in-List
returns-in_err-sheet-in-List c =
    as_shape _ _ c.in-List.is (list_refused c.args.table c.args.bytes.now c.args.settings c.args.depth c.args.entered
    c.is_strict-strict.result c.requires
    c.is_strict-strict.ensures list_said c.parse-in-List.result c.parse-in-List.ensures c.in_err-sheet-in-List.ensures.is
    c.from_residual-in_err-sheet-in-List.ensures.1)

pub returns-in_err-sheet-in-Map : goal.returns-in_err-sheet-in-Map
returns-in_err-sheet-in-Map c =
    as_shape _ _ c.in-Map.is (map_refused c.args.table c.args.bytes.now c.args.settings c.args.depth c.args.entered
    c.is_strict-strict.result c.requires
    c.is_strict-strict.ensures map_said c.parse-in-Map.result c.parse-in-Map.ensures c.in_err-sheet-in-Map.ensures.is
    c.from_residual-in_err-sheet-in-Map.ensures.1)

pub returns-in_err-sheet-in-StringList : goal.returns-in_err-sheet-in-StringList
returns-in_err-sheet-in-StringList c =
    as_shape _ _ c.in-StringList.is (strings_refused c.args.table c.args.bytes.now c.args.settings c.args.depth c.args.entered
    c.is_strict-strict.result
    c.requires c.is_strict-strict.ensures
    list_said c.parse-in-StringList.result c.parse-in-StringList.ensures c.in_err-sheet-in-StringList.ensures.is
    c.from_residual-in_err-sheet-in-StringList.ensures.1)

pub returns-in_ok-sheet-in-Struct : goal.returns-in_ok-sheet-in-Struct
returns-in_ok-sheet-in-Struct c =
    as_shape _ _ c.in-Struct.is (struct_read c.args.table c.args.bytes.now c.args.settings c.args.depth c.args.entered
    c.is_strict-strict.result c.requires
    c.is_strict-strict.ensures structure_said c.parse.result c.parse.ensures c.in_ok-sheet-in-Struct.ensures.is c.read_struct.ensures.does)

pub returns-in_ok-sheet-in-List : goal.returns-in_ok-sheet-in-List
returns-in_ok-sheet-in-List c =
    as_shape _ _ c.in-List.is (list_read c.args.table c.args.bytes.now c.args.settings c.args.depth c.args.entered
    c.is_strict-strict.result c.requires
    c.is_strict-strict.ensures
    list_said c.parse-in-List.result c.parse-in-List.ensures c.in_ok-sheet-in-List.ensures.is c.read_list.ensures.does)

pub returns-in_ok-sheet-in-Map : goal.returns-in_ok-sheet-in-Map
returns-in_ok-sheet-in-Map c =
    as_shape _ _ c.in-Map.is (map_read c.args.table c.args.bytes.now c.args.settings c.args.depth c.args.entered c.is_strict-strict.result
    c.requires
    c.is_strict-strict.ensures map_said c.parse-in-Map.result c.parse-in-Map.ensures c.in_ok-sheet-in-Map.ensures.is
    c.read_map.ensures.does)

pub returns-in_ok-sheet-in-StringList : goal.returns-in_ok-sheet-in-StringList
returns-in_ok-sheet-in-StringList c =
    as_shape _ _ c.in-StringList.is (strings_read c.args.table c.args.bytes.now c.args.settings c.args.depth c.args.entered
    c.is_strict-strict.result
    c.requires c.is_strict-strict.ensures
    list_said c.parse-in-StringList.result c.parse-in-StringList.ensures c.in_ok-sheet-in-StringList.ensures.is
    c.read_string_list.ensures.does)
