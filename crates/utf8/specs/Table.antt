-- Well-formed UTF-8: the Unicode Standard (version 15.0), 3.9, Table 3-7, "Well-Formed UTF-8 Byte Sequences".
use Rattle.std.specs.Prelude.{ℕ, ◌≡◌, Bool, true, false}
use mathlib.Core.List.{List, [], ◌∷◌, ◌++◌, Memᴰ}
use Rattle.lists.specs.Tests.{pick, within}

infixl 70 ◌to◌
-- the bytes from one to another, both included: a field of the table
pub data Range : Type 0 where
  ◌to◌ : ℕ → ℕ → Range

-- Table 3-7, row by row: the ranges of the first byte and of those that follow it
unfoldable pub table : List (List Range)
table =
    (0x00 to 0x7F ∷ []) ∷  -- U+0000..U+007F
    (0xC2 to 0xDF ∷ 0x80 to 0xBF ∷ []) ∷  -- U+0080..U+07FF
    (0xE0 to 0xE0 ∷ 0xA0 to 0xBF ∷ 0x80 to 0xBF ∷ []) ∷  -- U+0800..U+0FFF
    (0xE1 to 0xEC ∷ 0x80 to 0xBF ∷ 0x80 to 0xBF ∷ []) ∷  -- U+1000..U+CFFF
    (0xED to 0xED ∷ 0x80 to 0x9F ∷ 0x80 to 0xBF ∷ []) ∷  -- U+D000..U+D7FF
    (0xEE to 0xEF ∷ 0x80 to 0xBF ∷ 0x80 to 0xBF ∷ []) ∷  -- U+E000..U+FFFF
    (0xF0 to 0xF0 ∷ 0x90 to 0xBF ∷ 0x80 to 0xBF ∷ 0x80 to 0xBF ∷ []) ∷  -- U+10000..U+3FFFF
    (0xF1 to 0xF3 ∷ 0x80 to 0xBF ∷ 0x80 to 0xBF ∷ 0x80 to 0xBF ∷ []) ∷  -- U+40000..U+FFFFF
    (0xF4 to 0xF4 ∷ 0x80 to 0x8F ∷ 0x80 to 0xBF ∷ 0x80 to 0xBF ∷ []) ∷  -- U+100000..U+10FFFF
    []

unfoldable pub in_range : Range → ℕ → Bool
in_range (from to last) b = within from last b

-- a sequence has the bytes of a row, one for each range
unfoldable pub fits : List Range → List ℕ → Bool
fits [] [] = true
fits [] (b ∷ s) = false
fits (r ∷ rs) [] = false
fits (r ∷ rs) (b ∷ s) = pick (in_range r b) (fits rs s) false

-- the bytes of one character: those of some row of the table
pub record OneChar (c : List ℕ) : Type 0 where
  pub row : List Range
  pub listed : Memᴰ row table
  pub bytes : fits row c ≡ true

-- well-formed: one character after another
pub data WellFormed : List ℕ → Type 0 where
  none : WellFormed []
  next : {c s : List ℕ} → OneChar c → WellFormed s → WellFormed (c ++ s)

-- ---- the same, as a test that computes

-- what a first byte asks of the bytes after it: the rest of its row, or nothing allows it
pub data After : Type 0 where
  due : List Range → After
  never : After

unfoldable pub after : List (List Range) → ℕ → After
after [] b = never
after ([] ∷ rows) b = after rows b
after ((r ∷ rs) ∷ rows) b = pick (in_range r b) (due rs) (after rows b)

-- byte by byte, with the ranges that the character begun still asks for
unfoldable pub walk : List Range → List ℕ → Bool
walk [] [] = true
walk (r ∷ rs) [] = false
walk (r ∷ rs) (b ∷ s) = pick (in_range r b) (walk rs s) false
walk [] (b ∷ s) = elim (after table b) [ due rs ↦ walk rs s | never ↦ false ]

unfoldable pub is_utf8 : List ℕ → Bool
is_utf8 s = walk [] s
