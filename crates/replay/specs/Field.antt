-- What the fields of a line stand for.
use Rattle.std.specs.Prelude.{List, ℕ, [], ◌≡◌, ◌≢◌, ◌⊎◌, Ok, codes}
use Rattle.hex.specs.Hex.{decode_of}

-- the bytes that a field spells: `-` is none, and else each two hexadecimal digits are a byte
abbrev pub Spells : List ℕ → List ℕ → Type 0
Spells field bytes = ((field ≡ codes "-") × (bytes ≡ [])) ⊎ ((field ≢ []) × (decode_of field ≡ Ok bytes))

-- the bytes that a field of a reading spells: an empty one is none too
abbrev pub SpellsOrNone : List ℕ → List ℕ → Type 0
SpellsOrNone field bytes = ((field ≡ []) × (bytes ≡ [])) ⊎ Spells field bytes
