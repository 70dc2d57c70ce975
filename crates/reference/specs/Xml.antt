-- References by W3C XML 1.0 (fifth edition) and by nothing else: productions 2 and 66 to 68, with 4.6, over bytes.
-- `ascii` turns a text in quotes into its bytes (its own file shows it on an example).
use Rattle.std.specs.Prelude.{ℕ, ◌+◌, ◌*◌, ◌≤◌, ◌≡◌, List, [], ◌∷◌, ◌++◌}
use Rattle.lists.specs.Bytes.{ascii}

-- [2] Char ::= #x9 | #xA | #xD | [#x20-#xD7FF] | [#xE000-#xFFFD] | [#x10000-#x10FFFF]
pub data Char (c : ℕ) : Type 0 where
  tab : c ≡ 0x9 → Char c
  line_feed : c ≡ 0xA → Char c
  carriage_return : c ≡ 0xD → Char c
  below_surrogates : 0x20 ≤ c → c ≤ 0xD7FF → Char c
  above_surrogates : 0xE000 ≤ c → c ≤ 0xFFFD → Char c
  supplementary : 0x10000 ≤ c → c ≤ 0x10FFFF → Char c

-- [0-9], with the value d of the digit b
pub data Decimal (b d : ℕ) : Type 0 where
  digit : d ≤ 9 → b ≡ 0x30 + d → Decimal b d

-- [0-9a-fA-F], with the value d of the digit b
pub data Hexadecimal (b d : ℕ) : Type 0 where
  digit : Decimal b d → Hexadecimal b d
  small : (k : ℕ) → k ≤ 5 → b ≡ 0x61 + k → d ≡ 10 + k → Hexadecimal b d
  capital : (k : ℕ) → k ≤ 5 → b ≡ 0x41 + k → d ≡ 10 + k → Hexadecimal b d

-- one or more digits, and the number that they represent in their base
pub data Numeral (Digit : ℕ → ℕ → Type 0) (base : ℕ) : List ℕ → ℕ → Type 0 where
  one : {b d : ℕ} → Digit b d → Numeral Digit base (b ∷ []) d
  more : {s : List ℕ} {n b d : ℕ} → Numeral Digit base s n → Digit b d → Numeral Digit base (s ++ (b ∷ [])) (n * base + d)

-- [66] CharRef ::= '&#' [0-9]+ ';' | '&#x' [0-9a-fA-F]+ ';', which refers to the character c: "the digits .. provide a
-- representation of the character's code point", and it matches Char (WFC: Legal Character)
pub data CharRef (t : List ℕ) (c : ℕ) : Type 0 where
  decimal : (s : List ℕ) → t ≡ ascii "&#" ++ (s ++ ascii ";") → Numeral Decimal 10 s c → Char c → CharRef t c
  hexadecimal : (s : List ℕ) → t ≡ ascii "&#x" ++ (s ++ ascii ";") → Numeral Hexadecimal 16 s c → Char c → CharRef t c

-- 4.6 Predefined Entities: the five names, and the character of each
pub data Predefined (e : List ℕ) (c : ℕ) : Type 0 where
  lt : e ≡ ascii "lt" → c ≡ 0x3C → Predefined e c
  gt : e ≡ ascii "gt" → c ≡ 0x3E → Predefined e c
  amp : e ≡ ascii "amp" → c ≡ 0x26 → Predefined e c
  apos : e ≡ ascii "apos" → c ≡ 0x27 → Predefined e c
  quot : e ≡ ascii "quot" → c ≡ 0x22 → Predefined e c

-- [68] EntityRef ::= '&' Name ';', of the predefined names
pub data EntityRef (t : List ℕ) (c : ℕ) : Type 0 where
  entity : (e : List ℕ) → t ≡ ascii "&" ++ (e ++ ascii ";") → Predefined e c → EntityRef t c

-- [67] Reference ::= EntityRef | CharRef
pub data Reference (t : List ℕ) (c : ℕ) : Type 0 where
  entity_ref : EntityRef t c → Reference t c
  char_ref : CharRef t c → Reference t c

-- a text begins with a Reference
pub record BeginsReference (s : List ℕ) : Type 0 where
  pub front : List ℕ
  pub rest : List ℕ
  pub cut : s ≡ front ++ rest
  pub char : ℕ
  pub is : Reference front char

-- each `&` of the text begins a Reference
pub record EachReference (t : List ℕ) : Type 0 where
  pub each : (a b : List ℕ) → t ≡ a ++ (0x26 ∷ b) → BeginsReference (0x26 ∷ b)
