-- The bytes of a sheet, written from the words of 01, "Sheets and entries", alone: "A sheet is a bit map byte, then only the fields whose
-- bit stands, in bit order; higher bits are 0."
use Prim.Native.Nat.{ℕ, ◌+◌}
use mathlib.Core.Bool.{Bool, true, false}
use mathlib.Core.List.{List, [], ◌∷◌, ◌++◌}
use mathlib.Core.Option.{Option, none, some}
use lib.ListN.{length}
use Rattle.sheet.specs.Sheet.{Member, Structure, Item, ListSheet, Value, MapSheet}

-- ---- bit maps
-- what a bit of value v gives to the byte: its value where it stands
abbrev pub standing : ℕ → Bool → ℕ
standing v true = v
standing v false = 0

-- the byte in which bits 0 to 3 stand as they are given, and that of bits 0 to 4
abbrev pub four_bits : Bool → Bool → Bool → Bool → ℕ
four_bits x y z u = standing 1 x + standing 2 y + standing 4 z + standing 8 u

abbrev pub five_bits : Bool → Bool → Bool → Bool → Bool → ℕ
five_bits x y z u w = four_bits x y z u + standing 16 w

-- the bit of what may be there
abbrev pub is_there : {A : Type 0} → Option A → Bool
is_there none = false
is_there (some a) = true

-- ---- fields
-- "A name is a length byte 1..255, then bytes."
abbrev pub name_written : List ℕ → List ℕ
name_written n = length n ∷ n

-- "only the fields whose bit stands"
abbrev pub name_if_written : Option (List ℕ) → List ℕ
name_if_written none = []
name_if_written (some n) = name_written n

-- one after another
unfoldable pub each_written : {A : Type 0} → (A → List ℕ) → List A → List ℕ
each_written write [] = []
each_written write (a ∷ l) = write a ++ each_written write l

-- ---- structure
-- "members: bits 0 XML name, 1 member name, 2 attribute, 3 flattened, 4 aggregate"
abbrev pub member_written : Member → List ℕ
member_written m =
    five_bits (is_there m.xml_name) (is_there m.member_name) m.attribute m.flattened m.aggregate
    ∷ name_if_written m.xml_name ++ name_if_written m.member_name

-- "a count 0..64, and members"
abbrev pub member_list_written : List Member → List ℕ
unfolding each_written
member_list_written l = length l ∷ each_written member_written l

-- "Structure: bits 0 XML name, 1 original name, 2 member name, 3 unwrapped. Then the shape name, always, a count 0..64, and members"
unfoldable pub structure_written : Structure → List ℕ
unfolding each_written
structure_written s =
    four_bits (is_there s.xml_name) (is_there s.original_name) (is_there s.member_name) s.unwrapped
    ∷ (name_if_written s.xml_name ++
    (name_if_written s.original_name ++
    (name_if_written s.member_name ++ (name_written s.shape_name ++ member_list_written s.members))))

-- ---- list
-- "List: bits 0 has member, 1 flattened, 2 its XML name, 3 its member name (2 and 3 only with 0)."
abbrev pub list_with : Option Item → Bool → List ℕ
list_with none flattened = four_bits false flattened false false ∷ []
list_with (some i) flattened =
    four_bits true flattened (is_there i.xml_name) (is_there i.member_name) ∷ name_if_written i.xml_name ++ name_if_written i.member_name

unfoldable pub list_written : ListSheet → List ℕ
list_written l = list_with l.item l.flattened

-- ---- map
-- "Map: bits 0 flattened, 1 key XML name, 2 has value, 3 value XML name, 4 value aggregate (3 and 4 only with 2)."
abbrev pub map_with : Bool → Option (List ℕ) → Option Value → List ℕ
map_with flattened key none = five_bits flattened (is_there key) false false false ∷ name_if_written key
map_with flattened key (some v) =
    five_bits flattened (is_there key) true (is_there v.xml_name) v.aggregate ∷ name_if_written key ++ name_if_written v.xml_name

unfoldable pub map_written : MapSheet → List ℕ
map_written m = map_with m.flattened m.key_xml_name m.value
