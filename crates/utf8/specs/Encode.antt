-- Scalar values and their bytes: the Unicode Standard (version 15.0), 3.9, D76 and Table 3-6, "UTF-8 Bit Distribution".
use Rattle.std.specs.Prelude.{ℕ, ◌+◌, ◌/◌, ◌%◌, ◌≤◌, ◌≡◌, Bool, true, List, [], ◌∷◌, ltb, leb, length}
use Rattle.lists.specs.Tests.{pick, within}

-- D76: 0 to D7FF and E000 to 10FFFF
unfoldable pub scalar : ℕ → Bool
scalar n = pick (leb n 0xD7FF) true (within 0xE000 0x10FFFF n)

-- Table 3-6, by its rows; of a number that is no scalar value the rows say nothing, and this follows their pattern
unfoldable pub encode : ℕ → List ℕ
encode c =
    pick (ltb c 0x80) (c ∷ [])
    (pick (ltb c 0x800) ((0xC0 + c / 64) ∷ (0x80 + c % 64) ∷ [])
    (pick (ltb c 0x10000) ((0xE0 + c / 4096) ∷ (0x80 + c / 64 % 64) ∷ (0x80 + c % 64) ∷ [])
    ((0xF0 + c / 262144) ∷ (0x80 + c / 4096 % 64) ∷ (0x80 + c / 64 % 64) ∷ (0x80 + c % 64) ∷ [])))

-- r is the number of the bytes of c
pub record EncodedLen (c r : ℕ) : Type 0 where
  pub is : r ≡ length (encode c)
  pub low : 1 ≤ r
  pub high : r ≤ 4
