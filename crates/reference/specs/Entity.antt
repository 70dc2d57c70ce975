-- What stands between `&` and `;` (01, src/unescape.rs): a name or a number, and the character that it stands for.
use Rattle.std.specs.Prelude.{ℕ, Bool, true, false, List, eqb, get_or, drop, Option, None, Some}
use Rattle.lists.specs.Characters.{quote, hash, ampersand, apostrophe, less_than, greater_than, small_x}
use Rattle.lists.specs.Tests.{pick, within}
use Rattle.lists.specs.Bytes.{ascii, sameb}
use Rattle.utf8.specs.Encode.{scalar}
use Rattle.reference.specs.Number.{digits, plus_digits}

-- "Both know lt, gt, amp, quot, apos"
unfoldable pub named : List ℕ → Option ℕ
named e =
    pick (sameb e (ascii "lt")) (Some less_than)
    (pick (sameb e (ascii "gt")) (Some greater_than)
    (pick (sameb e (ascii "amp")) (Some ampersand)
    (pick (sameb e (ascii "quot")) (Some quote)
    (pick (sameb e (ascii "apos")) (Some apostrophe)
    None))))

-- "`#` decimal, `#x` hexadecimal (small x)", the digits read by f
unfoldable pub numeric : (ℕ → List ℕ → Option ℕ) → List ℕ → Option ℕ
numeric f e =
    pick (eqb (get_or e 0 0) hash)
    (pick (eqb (get_or e 1 0) small_x) (f 16 (drop 2 e)) (f 10 (drop 1 e)))
    None

-- a number, if it passes the test
unfoldable pub only : (ℕ → Bool) → Option ℕ → Option ℕ
only f None = None
only f (Some n) = pick (f n) (Some n) None

-- the first that is a number
unfoldable pub first : Option ℕ → Option ℕ → Option ℕ
first None b = b
first (Some n) b = Some n

-- "a code in 0x9, 0xA, 0xD, 0x20..=0xD7FF, 0xE000..=0xFFFD, 0x10000..=0x10FFFF (XML 1.0, 2.2)"
unfoldable pub xml_char : ℕ → Bool
xml_char n =
    pick (eqb n 9) true
    (pick (eqb n 10) true
    (pick (eqb n 13) true
    (pick (within 0x20 0xD7FF n) true
    (pick (within 0xE000 0xFFFD n) true
    (within 0x10000 0x10FFFF n)))))

-- how digits are read and which codes are taken: strictly where a text is validated, and not where it is unescaped
unfoldable pub reader : Bool → ℕ → List ℕ → Option ℕ
reader true = digits
reader false = plus_digits

unfoldable pub allowed : Bool → ℕ → Bool
allowed true = xml_char
allowed false = scalar

-- the character that an entity stands for
unfoldable pub char_of : Bool → List ℕ → Option ℕ
char_of strict e = first (named e) (only (allowed strict) (numeric (reader strict) e))
