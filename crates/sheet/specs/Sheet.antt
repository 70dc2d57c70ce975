-- The three kinds of sheet (01, "Sheets and entries"), from bytes: what the sheet says, or none where it is broken (2).
use Rattle.std.specs.Prelude.{ℕ, Bool, true, false, List, leb}
use Rattle.std.proofs.Math.Option.{Option, none, some}
use Rattle.lists.specs.Tests.{pick}
use Rattle.sheet.specs.Front.{Front, front, then, where_holds, byte, bit_map, bit, name, name_if, times, all}

-- ---- "a count 0..64"
abbrev pub most_members : ℕ
most_members = 64

-- ---- structure
-- "members: bits 0 XML name, 1 member name, 2 attribute, 3 flattened, 4 aggregate"
pub record Member : Type 0 where
  pub xml_name : Option (List ℕ)
  pub member_name : Option (List ℕ)
  pub attribute : Bool
  pub flattened : Bool
  pub aggregate : Bool

-- "Structure: bits 0 XML name, 1 original name, 2 member name, 3 unwrapped. Then the shape name, always, a count 0..64, and members"
pub record Structure : Type 0 where
  pub xml_name : Option (List ℕ)
  pub original_name : Option (List ℕ)
  pub member_name : Option (List ℕ)
  pub unwrapped : Bool
  pub shape_name : List ℕ
  pub members : List Member

abbrev pub member : List ℕ → Front Member
member s =
    then (bit_map 32 s) (λ b s1. then (name_if (bit 1 b) s1) (λ x s2. then (name_if (bit 2 b) s2) (λ m s3.
    front (record { xml_name = x; member_name = m; attribute = bit 4 b; flattened = bit 8 b; aggregate = bit 16 b }) s3)))

abbrev pub member_list : List ℕ → Front (List Member)
member_list s = then (byte s) (λ n rest. where_holds (leb n most_members) (times member n rest))

unfoldable pub structure_of : List ℕ → Option Structure
unfolding times
structure_of sheet =
    all (then (bit_map 16 sheet) (λ b s1. then (name_if (bit 1 b) s1) (λ x s2. then (name_if (bit 2 b) s2) (λ o s3.
    then (name_if (bit 4 b) s3) (λ m s4. then (name s4) (λ shape s5. then (member_list s5) (λ l s6.
    front (record { xml_name = x; original_name = o; member_name = m; unwrapped = bit 8 b; shape_name = shape; members = l }) s6)))))))

-- ---- list
-- the names of a list's member
pub record Item : Type 0 where
  pub xml_name : Option (List ℕ)
  pub member_name : Option (List ℕ)

pub record ListSheet : Type 0 where
  pub item : Option Item
  pub flattened : Bool

abbrev pub item_if : Bool → Option (List ℕ) → Option (List ℕ) → Option Item
item_if true x m = some (record { xml_name = x; member_name = m })
item_if false x m = none

-- a bit that stands only with another
abbrev pub only_with : Bool → Bool → Bool
only_with true other = true
only_with false true = false
only_with false false = true

-- "List: bits 0 has member, 1 flattened, 2 its XML name, 3 its member name (2 and 3 only with 0)."
unfoldable pub list_of : List ℕ → Option ListSheet
list_of sheet =
    all (then (bit_map 16 sheet) (λ b s1. where_holds (pick (only_with (bit 1 b) (bit 4 b)) (only_with (bit 1 b) (bit 8 b)) false)
    (then (name_if (bit 4 b) s1) (λ x s2. then (name_if (bit 8 b) s2) (λ m s3.
    front (record { item = item_if (bit 1 b) x m; flattened = bit 2 b }) s3)))))

-- ---- map
pub record Value : Type 0 where
  pub xml_name : Option (List ℕ)
  pub aggregate : Bool

pub record MapSheet : Type 0 where
  pub flattened : Bool
  pub key_xml_name : Option (List ℕ)
  pub value : Option Value

abbrev pub value_if : Bool → Option (List ℕ) → Bool → Option Value
value_if true x a = some (record { xml_name = x; aggregate = a })
value_if false x a = none

-- "Map: bits 0 flattened, 1 key XML name, 2 has value, 3 value XML name, 4 value aggregate (3 and 4 only with 2)."
unfoldable pub map_of : List ℕ → Option MapSheet
map_of sheet =
    all (then (bit_map 32 sheet) (λ b s1. where_holds (pick (only_with (bit 4 b) (bit 8 b)) (only_with (bit 4 b) (bit 16 b)) false)
    (then (name_if (bit 2 b) s1) (λ k s2. then (name_if (bit 8 b) s2) (λ x s3.
    front (record { flattened = bit 1 b; key_xml_name = k; value = value_if (bit 4 b) x (bit 16 b) }) s3)))))
