-- "a later structure, list or map reading" (demand 3): the readings with a sheet, as one. String lists are lists.
use Rattle.std.specs.Prelude.{ℕ, List}
use Rattle.std.proofs.Math.Option.{Option}
use Rattle.sheet.specs.Sheet.{Structure, structure_of, ListSheet, list_of, MapSheet, map_of}
use Rattle.readings.specs.Call.{Upload, Call}
use Rattle.readings.specs.Output.{Room, Reading}
use Rattle.readings.specs.Plan.{Plan}
use Rattle.readings.specs.Structure.{structure_plan, structure_reading}
use Rattle.readings.specs.Collection.{list_plan, list_reading, string_list_plan, string_list_reading, map_plan, map_reading}

pub data Shape : Type 0 where
  structure : Shape
  list : Shape
  map : Shape
  strings : Shape

-- what the bytes of its sheet say
abbrev pub SheetOf : Shape → Type 0
SheetOf structure = Structure
SheetOf list = ListSheet
SheetOf map = MapSheet
SheetOf strings = ListSheet

abbrev pub sheet_of : (shape : Shape) → List ℕ → Option (SheetOf shape)
sheet_of structure = structure_of
sheet_of list = list_of
sheet_of map = map_of
sheet_of strings = list_of

-- its plan
abbrev pub plan_of : Shape → Upload → Call → Plan
plan_of structure u call = structure_plan u call
plan_of list u call = list_plan u call
plan_of map u call = map_plan u call
plan_of strings u call = string_list_plan u call

abbrev pub read : Shape → Upload → Call → Room → Reading
read structure u call = structure_reading u call
read list u call = list_reading u call
read map u call = map_reading u call
read strings u call = string_list_reading u call
