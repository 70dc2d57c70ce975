-- Numbers in character references (01, src/unescape.rs): the digits of a base, and the number that a run of them spells.
use Rattle.std.specs.Prelude.{ℕ, ◌+◌, ◌-◌, ◌*◌, ◌^◌, List, [], ◌∷◌, ltb, leb, eqb, length, get_or, drop, Option, None, Some}
use Rattle.lists.specs.Characters.{plus}
use Rattle.lists.specs.Tests.{pick, within}

-- the value of a digit 0-9, A-F, a-f; 16 for any other byte
unfoldable pub digit : ℕ → ℕ
digit x = pick (within 48 57 x) (x - 48) (pick (within 65 70 x) (x - 55) (pick (within 97 102 x) (x - 87) 16))

-- the number that acc, then the digits of the list spell in a base of at most 16; none where a byte is no digit of the base
unfoldable pub numeral : ℕ → ℕ → List ℕ → Option ℕ
numeral base acc [] = Some acc
numeral base acc (b ∷ s) = pick (ltb (digit b) base) (numeral base (acc * base + digit b) s) None

-- "a value in 32 bits"
unfoldable pub limited : Option ℕ → Option ℕ
limited None = None
limited (Some n) = pick (ltb n (2 ^ 32)) (Some n) None

-- "one or more digits, a value in 32 bits"
unfoldable pub digits : ℕ → List ℕ → Option ℕ
digits base s = pick (leb 1 (length s)) (limited (numeral base 0 s)) None

-- "all that `u32::from_str_radix` takes, so a leading `+` too"
unfoldable pub plus_digits : ℕ → List ℕ → Option ℕ
plus_digits base s = digits base (pick (eqb (get_or s 0 0) plus) (drop 1 s) s)
