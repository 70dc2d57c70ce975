-- Sheets of each kind from bytes, and broken ones: one statement over one list for each kind.
use Prim.Native.Nat.{ℕ}
use mathlib.Core.Path.{◌≡◌, refl}
use mathlib.Core.Bool.{true, false}
use mathlib.Core.List.{List, [], ◌∷◌, ◌++◌, map}
use mathlib.Core.Option.{none, some}
use lib.ListN.{replicate}
use Rattle.lists.specs.Bytes.{ascii}
use Rattle.sheet.specs.Front.{times}
use Rattle.sheet.specs.Sheet.{Member, Structure, structure_of, list_of, map_of}

-- ---- structure
-- a sheet of which no bit stands, and a member of which none does
abbrev plain : List ℕ → List Member → Structure
plain shape members = record {
  xml_name = none;
  original_name = none;
  member_name = none;
  unwrapped = false;
  shape_name = shape;
  members = members;
}

abbrev nameless : Member
nameless = record { xml_name = none; member_name = none; attribute = false; flattened = false; aggregate = false }

-- every bit; some bits; the longest name, and as many members as may be; then broken ones: an empty sheet, a higher bit, a name of length
-- 0, a name that is cut, no count, a member that is missing, a member with a higher bit, bytes left over, and one member more than may be
pub structure_examples :
    map structure_of (
    (15 ∷ 1 ∷ 88 ∷ 1 ∷ 79 ∷ 1 ∷ 77 ∷ 2 ∷ 83 ∷ 104 ∷ 2 ∷ 31 ∷ 1 ∷ 97 ∷ 1 ∷ 98 ∷ 6 ∷ 1 ∷ 99 ∷ [])
    ∷ (5 ∷ 1 ∷ 88 ∷ 1 ∷ 77 ∷ 1 ∷ 83 ∷ 0 ∷ [])
    ∷ (0 ∷ 255 ∷ (replicate 255 83 ++ (64 ∷ replicate 64 0)))
    ∷ []
    ∷ (16 ∷ 1 ∷ 83 ∷ 0 ∷ [])
    ∷ (0 ∷ 0 ∷ 0 ∷ [])
    ∷ (0 ∷ 2 ∷ 83 ∷ [])
    ∷ (0 ∷ 1 ∷ 83 ∷ [])
    ∷ (0 ∷ 1 ∷ 83 ∷ 1 ∷ [])
    ∷ (0 ∷ 1 ∷ 83 ∷ 1 ∷ 32 ∷ [])
    ∷ (0 ∷ 1 ∷ 83 ∷ 0 ∷ 0 ∷ [])
    ∷ (0 ∷ 1 ∷ 83 ∷ 65 ∷ replicate 65 0)
    ∷ [])
    ≡ some (record {
      xml_name = some (ascii "X");
      original_name = some (ascii "O");
      member_name = some (ascii "M");
      unwrapped = true;
      shape_name = ascii "Sh";
      members =
          record { xml_name = some (ascii "a"); member_name = some (ascii "b"); attribute = true; flattened = true; aggregate = true }
          ∷ record { xml_name = none; member_name = some (ascii "c"); attribute = true; flattened = false; aggregate = false }
          ∷ [];
    })
    ∷ some (record {
      xml_name = some (ascii "X");
      original_name = none;
      member_name = some (ascii "M");
      unwrapped = false;
      shape_name = ascii "S";
      members = [];
    })
    ∷ some (plain (replicate 255 83) (replicate 64 nameless))
    ∷ none ∷ none ∷ none ∷ none ∷ none ∷ none ∷ none ∷ none ∷ none ∷ []
unfolding times structure_of
structure_examples = refl

-- ---- list
-- every bit; a member with no name; no member, flattened; then broken ones: an empty sheet, a higher bit, a name of length 0, a name that
-- is cut, bytes left over, and bits 2 and 3 without 0
pub list_examples :
    map list_of (
    (15 ∷ 1 ∷ 120 ∷ 2 ∷ 109 ∷ 110 ∷ [])
    ∷ (1 ∷ [])
    ∷ (2 ∷ [])
    ∷ []
    ∷ (16 ∷ [])
    ∷ (5 ∷ 0 ∷ [])
    ∷ (5 ∷ 2 ∷ 120 ∷ [])
    ∷ (5 ∷ 1 ∷ 120 ∷ 0 ∷ [])
    ∷ (4 ∷ 1 ∷ 120 ∷ [])
    ∷ (8 ∷ 1 ∷ 120 ∷ [])
    ∷ [])
    ≡ some (record { item = some (record { xml_name = some (ascii "x"); member_name = some (ascii "mn") }); flattened = true })
    ∷ some (record { item = some (record { xml_name = none; member_name = none }); flattened = false })
    ∷ some (record { item = none; flattened = true })
    ∷ none ∷ none ∷ none ∷ none ∷ none ∷ none ∷ none ∷ []
unfolding list_of
list_examples = refl

-- ---- map
-- every bit; a value with no name, and no key name; no value, with a key name; then broken ones: an empty sheet, a higher bit, a name of
-- length 0, a name that is cut, bytes left over, and bits 3 and 4 without 2
pub map_examples :
    map map_of (
    (31 ∷ 1 ∷ 107 ∷ 2 ∷ 118 ∷ 119 ∷ [])
    ∷ (4 ∷ [])
    ∷ (2 ∷ 1 ∷ 107 ∷ [])
    ∷ []
    ∷ (32 ∷ [])
    ∷ (2 ∷ 0 ∷ [])
    ∷ (2 ∷ 2 ∷ 107 ∷ [])
    ∷ (2 ∷ 1 ∷ 107 ∷ 0 ∷ [])
    ∷ (8 ∷ 1 ∷ 118 ∷ [])
    ∷ (16 ∷ [])
    ∷ [])
    ≡ some (record {
      flattened = true;
      key_xml_name = some (ascii "k");
      value = some (record { xml_name = some (ascii "vw"); aggregate = true });
    })
    ∷ some (record { flattened = false; key_xml_name = none; value = some (record { xml_name = none; aggregate = false }) })
    ∷ some (record { flattened = false; key_xml_name = some (ascii "k"); value = none })
    ∷ none ∷ none ∷ none ∷ none ∷ none ∷ none ∷ none ∷ []
unfolding map_of
map_examples = refl
