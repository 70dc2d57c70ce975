-- The members of a structure sheet (01, "Sheets and entries"), by their places in its bytes.
use Rattle.std.specs.Prelude.{ℕ, ◌≤◌, ◌<◌, ◌≡◌, Bool, true, false, List, Option, Some, None, get_or, length, map, take, drop}
use Rattle.std.proofs.Math.Option as defined
use Rattle.std.proofs.Math.Option.{none, some}
use Rattle.sheet.specs.Front.{Front, front, broken}
use Rattle.sheet.specs.Sheet.{most_members, Member, member}
use Rattle.sheet.specs.Names.{Indexed}

-- the member of an index past the last
abbrev pub nameless : Member
nameless = record { xml_name = none; member_name = none; attribute = false; flattened = false; aggregate = false }

-- ---- "A member's index is its place from 0."
-- the member that was found
abbrev pub found_in : List Member → Option ℕ → defined.Option Indexed
found_in l (Some i) = some (record { index = i; member = get_or l i nameless })
found_in l None = none

-- ---- members in a sheet's bytes
-- what stands at the front; where it is broken nothing does, and this is any
abbrev pub member_of : Front Member → Member
member_of (front m rest) = m
member_of broken = nameless

-- the member at a place
abbrev pub member_at : List ℕ → ℕ → Member
member_at bytes place = member_of (member (drop place bytes))

-- whether one is at the front
abbrev pub is_front : Front Member → Bool
is_front (front m rest) = true
is_front broken = false

-- one stands there: an equation of flags, so that there is one proof of it at most
pub record Stands (bytes : List ℕ) (place : ℕ) : Type 0 where
  pub is : is_front (member (drop place bytes)) ≡ true
  pub inside : place ≤ length bytes

-- those at so many places
abbrev pub members_at : List ℕ → List ℕ → ℕ → List Member
members_at bytes places count = map (member_at bytes) (take count places)

-- each stands at its place
pub record AreMembers (bytes places : List ℕ) (count : ℕ) : Type 0 where
  pub few : count ≤ most_members
  pub wide : length places ≡ most_members
  pub each : (i : ℕ) → i < count → Stands bytes (get_or places i 0)
