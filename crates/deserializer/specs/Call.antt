-- The promise of a reading by a sheet: number, count, every entry, every text byte, and all else of both buffers as it was, on every input;
-- and the place beside the number.
use Rattle.std.specs.Prelude.{ℕ, ◌/◌, ◌%◌, ◌≡◌, List, eqb}
use Rattle.lists.specs.Tests.{pick}
use Rattle.sheet.specs.declared.ShapeDepth.{ShapeDepth}
use Rattle.sheet.specs.declared.Settings.{Settings}
use Rattle.readings.specs.Call.{Upload, Call}
use Rattle.readings.specs.Structure.{structure_reading}
use Rattle.readings.specs.Collection.{list_reading, map_reading, string_list_reading}
use Rattle.output.specs.Call.{ReadingCall, ReadingPlace}
use Rattle.deserializer.specs.declared.Shape.{Shape}

-- What is asked of a reading, and what came of it: an upload and a call; both buffers as they were and as they are; how many entries and
-- text bytes are written; and the number.

-- any of the four: the answer is the definition's
abbrev pub ShapeCall : Shape → Upload → Call → List ℕ → List ℕ → List ℕ → List ℕ → ℕ → ℕ → ℕ → Type 0
ShapeCall Shape.Struct u call = ReadingCall (structure_reading u call)
ShapeCall Shape.List u call = ReadingCall (list_reading u call)
ShapeCall Shape.Map u call = ReadingCall (map_reading u call)
ShapeCall Shape.StringList u call = ReadingCall (string_list_reading u call)

-- THE PROMISE of a call
pub record SheetCall (shape : Shape) (u : Upload) (call : Call) (e t e' t' : List ℕ) (n m r : ℕ) : Type 0 where
  pub is : ShapeCall shape u call e t e' t' n m r

-- the place beside the number (change request 1: "Every reading above that answers 7 passes it on as a body offset"), 0 where the number
-- is not 7. A structure and a list never answer 7.
abbrev pub ShapePlace : Shape → Upload → Call → List ℕ → List ℕ → ℕ → Type 0
ShapePlace Shape.Struct u call e t at = at ≡ 0
ShapePlace Shape.List u call e t at = at ≡ 0
ShapePlace Shape.Map u call e t at = ReadingPlace (map_reading u call) e t at
ShapePlace Shape.StringList u call e t at = ReadingPlace (string_list_reading u call) e t at

-- THE PROMISE of the place of a call
pub record SheetPlace (shape : Shape) (u : Upload) (call : Call) (e t : List ℕ) (at : ℕ) : Type 0 where
  pub is : ShapePlace shape u call e t at

-- ---- by numbers, for C
-- flags: 1 validate_document, 2 validate_root_name, 4 strict_collection_element_names; other bits say nothing
abbrev pub settings_by : ℕ → ℕ → Settings
settings_by flags max =
    record {
      max_depth = max;
      validate_document = eqb (flags % 2) 1;
      validate_root_name = eqb (flags / 2 % 2) 1;
      strict_collection_element_names = eqb (flags / 4 % 2) 1;
    }

abbrev pub shape_depth : ℕ → ShapeDepth
shape_depth d = record { 0 = d }

-- a shape by its number: 1 structure, 2 list, 3 map, and any other a string list
abbrev pub shape_of : ℕ → Shape
shape_of kind = pick (eqb kind 1) Shape.Struct (pick (eqb kind 2) Shape.List (pick (eqb kind 3) Shape.Map Shape.StringList))
