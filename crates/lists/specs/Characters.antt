-- Characters by their bytes: those to which XML 1.0 gives a meaning, and the signs `+` and `-` that 01 takes before digits.
use Rattle.std.specs.Prelude.{ℕ}

abbrev pub quote : ℕ
quote = 0x22

abbrev pub hash : ℕ
hash = 0x23

abbrev pub ampersand : ℕ
ampersand = 0x26

abbrev pub apostrophe : ℕ
apostrophe = 0x27

abbrev pub plus : ℕ
plus = 0x2B

-- `/`
abbrev pub hyphen : ℕ
hyphen = 0x2D

abbrev pub solidus : ℕ
solidus = 0x2F

abbrev pub colon : ℕ
colon = 0x3A

abbrev pub semicolon : ℕ
semicolon = 0x3B

-- `<`
abbrev pub less_than : ℕ
less_than = 0x3C

-- `>`
abbrev pub greater_than : ℕ
greater_than = 0x3E

-- the `x` of a reference by a hexadecimal number
abbrev pub small_x : ℕ
small_x = 0x78
