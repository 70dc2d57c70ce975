-- 01, "Numbers": the number of each refusal, and what it says.
use Rattle.std.specs.Prelude.{ℕ, ◌+◌, ◌^◌, ◌≤◌}
use Rattle.refusal.specs.declared.Refusal.{Refusal}

abbrev pub number : Refusal → ℕ
-- "1 table": it does not obey the rules
number Refusal.Table = 1
-- "2 sheet": it is broken
number Refusal.Sheet = 2
-- "3 depth at or above the maximum": the shape depth
number Refusal.Depth = 3
-- "4 no root (`root_element` fails)"
number Refusal.NoRoot = 4
-- "5 root name"
number Refusal.RootName = 5
-- "6 element where text is wanted"
number Refusal.ElementInText = 6
-- "7 reference"
number (Refusal.BadReference at) = 7
-- "8 token error where text is wanted"
number Refusal.TokenError = 8
-- "9 ill-formed"
number Refusal.IllFormed = 9
-- "10 no room"
number Refusal.NoRoom = 10
-- "11 not a boolean"
number Refusal.NotBoolean = 11
-- "12 not an integer"
number Refusal.NotInteger = 12
-- "13 no such element"
number Refusal.NoSuchElement = 13

-- the place beside the number (change request 1): that of the failing `&` in the body that was lent, and 0 where the number is not 7
abbrev pub place : Refusal → ℕ
place Refusal.Table = 0
place Refusal.Sheet = 0
place Refusal.Depth = 0
place Refusal.NoRoot = 0
place Refusal.RootName = 0
place Refusal.ElementInText = 0
place (Refusal.BadReference at) = at
place Refusal.TokenError = 0
place Refusal.IllFormed = 0
place Refusal.NoRoom = 0
place Refusal.NotBoolean = 0
place Refusal.NotInteger = 0
place Refusal.NoSuchElement = 0

-- each place in a text of n bytes that begins at `from` in the body is a 16-bit number
pub record SmallPlace (from n : ℕ) : Type 0 where
  pub small : from + n ≤ 2 ^ 16
