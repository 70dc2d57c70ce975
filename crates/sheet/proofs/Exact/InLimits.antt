-- Sheets in the limits (01, "Sheets and entries"): "A name is a length byte 1..255, then bytes" and "a count 0..64".
use Prim.Native.Nat.{ℕ, ◌≤◌}
use mathlib.Core.List.{List}
use mathlib.Core.Option.{Option, none, some}
use lib.ListN.{length}
use Rattle.lists.specs.Every.{Every}
use Rattle.sheet.specs.Sheet.{most_members, Member, Structure, Item, ListSheet, Value, MapSheet}

-- a name: "a length byte 1..255"
pub record NameInLimits (n : List ℕ) : Type 0 where
  pub filled : 1 ≤ length n
  pub short : length n ≤ 255

-- a name that is there, or none
abbrev pub NameIfThere : Option (List ℕ) → Type 0
NameIfThere none = Unit
NameIfThere (some n) = NameInLimits n

-- ---- structure
pub record MemberInLimits (m : Member) : Type 0 where
  pub xml_name : NameIfThere m.xml_name
  pub member_name : NameIfThere m.member_name

pub record StructureInLimits (s : Structure) : Type 0 where
  pub xml_name : NameIfThere s.xml_name
  pub original_name : NameIfThere s.original_name
  pub member_name : NameIfThere s.member_name
  pub shape_name : NameInLimits s.shape_name
  -- "a count 0..64"
  pub few_members : length s.members ≤ most_members
  pub members : Every MemberInLimits s.members

-- ---- list
pub record ItemInLimits (i : Item) : Type 0 where
  pub xml_name : NameIfThere i.xml_name
  pub member_name : NameIfThere i.member_name

abbrev pub ItemIfThere : Option Item → Type 0
ItemIfThere none = Unit
ItemIfThere (some i) = ItemInLimits i

pub record ListInLimits (l : ListSheet) : Type 0 where
  pub item : ItemIfThere l.item

-- ---- map
abbrev pub ValueIfThere : Option Value → Type 0
ValueIfThere none = Unit
ValueIfThere (some v) = NameIfThere v.xml_name

pub record MapInLimits (m : MapSheet) : Type 0 where
  pub key_xml_name : NameIfThere m.key_xml_name
  pub value : ValueIfThere m.value
