-- The names that a reading asks for, by its sheet and its settings.
use Rattle.std.specs.Prelude.{ℕ, zero, suc, Bool, false, List, [], ◌∷◌}
use Rattle.std.proofs.Math.Option.{Option, none, some, get_or}
use Rattle.lists.specs.Tests.{pick}
use Rattle.lists.specs.Bytes.{ascii, sameb}
use Rattle.sheet.specs.declared.Settings.{Settings}
use Rattle.sheet.specs.Sheet.{Member, Structure, Item, ListSheet, Value, MapSheet}

-- the first of two names that is there
abbrev pub or_else : Option (List ℕ) → Option (List ℕ) → Option (List ℕ)
or_else (some n) other = some n
or_else none other = other

-- ---- structures
-- the root's name, as `read_struct` expects it: XML name, original name, member name, shape name
abbrev pub root_name : Structure → List ℕ
root_name s = get_or (or_else s.xml_name (or_else s.original_name s.member_name)) s.shape_name

-- "The XML name goes before the member name"
abbrev pub child_name : Member → Option (List ℕ)
child_name m = or_else m.xml_name m.member_name

-- "an attribute member with neither asks for the empty name"
abbrev pub attribute_name : Member → List ℕ
attribute_name m = get_or (child_name m) []

-- a child's local name is the member's, byte for byte; a member with neither name has no child
abbrev pub is_named : Option (List ℕ) → List ℕ → Bool
is_named none local = false
is_named (some n) local = sameb n local

-- a member with its index: "A member's index is its place from 0."
pub record Indexed : Type 0 where
  pub index : ℕ
  pub member : Member

unfoldable pub indexed : ℕ → List Member → List Indexed
indexed i [] = []
indexed i (m ∷ rest) = record { index = i; member = m } ∷ indexed (suc i) rest

unfoldable pub first_named : List Indexed → List ℕ → Option Indexed
first_named [] local = none
first_named (m ∷ rest) local = pick (is_named (child_name m.member) local) (some m) (first_named rest local)

-- the members of a structure, in sheet order
abbrev pub members_of : Structure → List Indexed
members_of s = indexed zero s.members

-- `resolve_member`: the first member with that name, attribute members among them
abbrev pub resolve : Structure → List ℕ → Option Indexed
resolve s local = first_named (members_of s) local

-- ---- lists
-- the name of an item: XML name, member name, `member`
abbrev pub item_name_of : Item → List ℕ
item_name_of i = get_or (or_else i.xml_name i.member_name) (ascii "member")

abbrev pub named_item : Option Item → Option (List ℕ)
named_item none = none
named_item (some i) = some (item_name_of i)

-- `list_item_name`: the name that items must match; none where every child is an item, as in a flattened list and in one without a member
abbrev pub item_name : Settings → ListSheet → Option (List ℕ)
item_name settings l = pick settings.strict_collection_element_names (pick l.flattened none (named_item l.item)) none

-- ---- maps
-- `is_map_entry`: the name that map entries must match; none where every child is one
abbrev pub entry_name : Settings → MapSheet → Option (List ℕ)
entry_name settings m = pick settings.strict_collection_element_names (pick m.flattened none (some (ascii "entry"))) none

abbrev pub key_name : MapSheet → List ℕ
key_name m = get_or m.key_xml_name (ascii "key")

abbrev pub value_name_of : Option Value → List ℕ
value_name_of none = ascii "value"
value_name_of (some v) = get_or v.xml_name (ascii "value")

abbrev pub value_name : MapSheet → List ℕ
value_name m = value_name_of m.value

abbrev pub aggregate_of : Option Value → Bool
aggregate_of none = false
aggregate_of (some v) = v.aggregate

abbrev pub value_aggregate : MapSheet → Bool
value_aggregate m = aggregate_of m.value
