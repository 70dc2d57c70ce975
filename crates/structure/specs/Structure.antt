-- What the code's values stand for in the definitions of `readings`: a root that was found, by a sheet.
use Rattle.std.specs.Prelude.{ℕ, List}
use Rattle.std.proofs.Math.Option.{Option, some}
use Rattle.lists.specs.Tests.{pick}
use Rattle.sheet.specs.Sheet.{Member, Structure}
use Rattle.sheet.specs.Names.{Indexed}
use Rattle.readings.specs.Plan.{Plan}
use Rattle.readings.specs.Opening.{Opened}
use Rattle.readings.specs.Structure.{members_plan, unwrapped_plan}

-- a member with its index
abbrev pub indexed_as : ℕ → Member → Indexed
indexed_as i m = record { index = i; member = m }

-- as the one that a name resolves to
abbrev pub some_member : ℕ → Member → Option Indexed
some_member i m = some (indexed_as i m)

-- the root alone where the sheet says unwrapped, else its members
unfoldable pub root_or_members : List ℕ → Structure → Opened → Plan
root_or_members body s o =
    let unwrapped = unwrapped_plan body s o in
    let wrapped = members_plan body s o in
    pick s.unwrapped unwrapped wrapped
