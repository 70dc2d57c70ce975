-- Encoding and the table agree: the characters of the table are the bytes of the scalar values, each of one.
use Prim.Native.Nat.{ℕ, ◌+◌, ◌*◌, ◌-◌, ◌/◌, ◌%◌, ◌≤◌, ◌<◌}
use mathlib.Core.Path.{◌≡◌, sym, ap, ◌∙◌}
use mathlib.Core.Bool.{true}
use mathlib.Core.List.Memᴰ
use mathlib.Core.List.{List, [], ◌∷◌, ◌++◌, Memᴰ}
use mathlib.Core.Logic.{◌⊎◌, inl, inr}
use native.Mathlib.Omega.{arith}
use borrow.Author.Tests.{le-leb, lt-leb}
use lib.Dec.{lit<}
use lib.ListN.{length, get_or}
use Rattle.lists.specs.Tests.{within}
use Rattle.lists.proofs.Tests.{false_true}
use Rattle.utf8.specs.Table.{Range, ◌to◌, table, in_range, fits, OneChar, is_utf8}
use Rattle.utf8.specs.Encode.{scalar, encode}
use Rattle.utf8.proofs.Store.{encode_1, encode_2, encode_3, encode_4}
use Rattle.utf8.proofs.Agree.{below, both, in_range_lem, range_in, nth, walk_char}

-- ---- only one: a left inverse of `encode`
unfoldable pub decoded : List ℕ → ℕ
decoded [] = 0
decoded (x ∷ []) = x
decoded (x ∷ y ∷ []) = (x - 0xC0) * 64 + (y - 0x80)
decoded (x ∷ y ∷ z ∷ []) = (x - 0xE0) * 4096 + (y - 0x80) * 64 + (z - 0x80)
decoded (x ∷ y ∷ z ∷ w ∷ []) = (x - 0xF0) * 262144 + (y - 0x80) * 4096 + (z - 0x80) * 64 + (w - 0x80)
decoded (x ∷ y ∷ z ∷ w ∷ v ∷ s) = 0

-- the bytes of a number give it back
pub decoded_encode : (c : ℕ) → decoded (encode c) ≡ c
unfolding decoded
decoded_encode c = below c 0x80 (λ h. rw (encode_1 c h)) λ g.
    below c 0x800 (λ h. rw (encode_2 c g h) (omega arith)) λ g.
    below c 0x10000 (λ h. rw (encode_3 c g h) (omega arith)) λ g.
    let p : c / 4096 ≡ c / 262144 * 64 + c / 4096 % 64 = omega arith in
    let q : c / 64 ≡ c / 4096 * 64 + c / 64 % 64 = omega arith in
    rw (encode_4 c g) (omega arith)

-- no two numbers have the same bytes
pub encode_one : (c d : ℕ) → encode c ≡ encode d → c ≡ d
encode_one c d e = sym (decoded_encode c) ∙ ap decoded e ∙ decoded_encode d

-- ---- the bytes of a scalar value are a character
-- a scalar value above the surrogates, or not above D7FF
pub scalar_high : (c : ℕ) → scalar c ≡ true → 0xD800 ≤ c → (0xE000 ≤ c) × (c ≤ 0x10FFFF)
unfolding scalar in_range
scalar_high c e g = let k : within 0xE000 0x10FFFF c ≡ true = rw (lt-leb c 0xD7FF g) at e in in_range_lem 0xE000 0x10FFFF c k

cont_in : (n : ℕ) → in_range (0x80 to 0xBF) (0x80 + n % 64) ≡ true
cont_in n = range_in 0x80 0xBF (0x80 + n % 64) (omega arith) (omega arith)

-- some number of bytes, the first and the second in these ranges
module _ (c f l : ℕ) where
  one : c < 0x80 → f ≤ c → c ≤ l → fits (f to l ∷ []) (encode c) ≡ true
  unfolding fits
  one h p q = rw (encode_1 c h, range_in f l c p q)

  two : 0x80 ≤ c → c < 0x800 → f ≤ 0xC0 + c / 64 → 0xC0 + c / 64 ≤ l → fits (f to l ∷ 0x80 to 0xBF ∷ []) (encode c) ≡ true
  unfolding fits
  two g h p q = rw (encode_2 c g h, range_in f l (0xC0 + c / 64) p q, cont_in c)

  three : (f₁ l₁ : ℕ) → 0x800 ≤ c → c < 0x10000 → f ≤ 0xE0 + c / 4096 → 0xE0 + c / 4096 ≤ l → f₁ ≤ 0x80 + c / 64 % 64
      → 0x80 + c / 64 % 64 ≤ l₁ → fits (f to l ∷ f₁ to l₁ ∷ 0x80 to 0xBF ∷ []) (encode c) ≡ true
  unfolding fits
  three f₁ l₁ g h p q r s = rw (encode_3 c g h, range_in f l (0xE0 + c / 4096) p q, range_in f₁ l₁ (0x80 + c / 64 % 64) r s, cont_in c)

  four : (f₁ l₁ : ℕ) → 0x10000 ≤ c → f ≤ 0xF0 + c / 262144 → 0xF0 + c / 262144 ≤ l → f₁ ≤ 0x80 + c / 4096 % 64 → 0x80 + c / 4096 % 64 ≤ l₁
      → fits (f to l ∷ f₁ to l₁ ∷ 0x80 to 0xBF ∷ 0x80 to 0xBF ∷ []) (encode c) ≡ true
  unfolding fits
  four f₁ l₁ g p q r s = rw (
    encode_4 c g,
    range_in f l (0xF0 + c / 262144) p q,
    range_in f₁ l₁ (0x80 + c / 4096 % 64) r s,
    cont_in (c / 64),
    cont_in c,
  )

module _ (c : ℕ) where
  row : (k : ℕ) → k < length table → fits (get_or table k []) (encode c) ≡ true → OneChar (encode c)
  row k l h = record { row = get_or table k []; listed = nth table k l; bytes = h }

  -- of three bytes
  bmp : 0x800 ≤ c → c < 0x10000 → scalar c ≡ true → OneChar (encode c)
  unfolding table
  bmp g h e =
      below c 0x1000 (λ k. row 2 (lit< tt) (three c 0xE0 0xE0 0xA0 0xBF g h (omega arith) (omega arith) (omega arith) (omega arith))) λ g₁.
      below c 0xD000 (λ k. row 3 (lit< tt) (three c 0xE1 0xEC 0x80 0xBF g h (omega arith) (omega arith) (omega arith) (omega arith))) λ g₂.
      below c 0xD800 (λ k. row 4 (lit< tt) (three c 0xED 0xED 0x80 0x9F g h (omega arith) (omega arith) (omega arith) (omega arith))) λ g₃.
      let k = scalar_high c e g₃ in row 5 (lit< tt)
      (three c 0xEE 0xEF 0x80 0xBF g h (omega arith) (omega arith) (omega arith) (omega arith))

  -- of four
  high : 0x10000 ≤ c → scalar c ≡ true → OneChar (encode c)
  unfolding table
  high g e =
      let m = scalar_high c e (omega arith) in
      below c 0x40000 (λ k. row 6 (lit< tt) (four c 0xF0 0xF0 0x90 0xBF g (omega arith) (omega arith) (omega arith) (omega arith))) λ g₁.
      below c 0x100000 (λ k. row 7 (lit< tt) (four c 0xF1 0xF3 0x80 0xBF g (omega arith) (omega arith) (omega arith) (omega arith))) λ g₂.
      row 8 (lit< tt) (four c 0xF4 0xF4 0x80 0x8F g (omega arith) (omega arith) (omega arith) (omega arith))

  -- the bytes of a scalar value are a character of the table
  pub encode_char : scalar c ≡ true → OneChar (encode c)
  unfolding table
  encode_char e =
      below c 0x80 (λ h. row 0 (lit< tt) (one c 0x00 0x7F h (omega arith) (omega arith))) λ g.
      below c 0x800 (λ h. row 1 (lit< tt) (two c 0xC2 0xDF g h (omega arith) (omega arith))) λ g.
      below c 0x10000 (λ h. bmp g h e) λ g. high g e

-- so a sequence that begins with them is well-formed if the rest is
pub utf8_encode : (c : ℕ) (s : List ℕ) → scalar c ≡ true → is_utf8 (encode c ++ s) ≡ is_utf8 s
unfolding is_utf8
utf8_encode c s e = walk_char (encode c) s (encode_char c e)

-- ---- each character of the table is the bytes of a scalar value
pub record ScalarOf (s : List ℕ) : Type 0 where
  pub value : ℕ
  pub is_scalar : scalar value ≡ true
  pub bytes : encode value ≡ s

scalar_low : (v : ℕ) → v < 0xD800 → scalar v ≡ true
unfolding scalar
scalar_low v h = rw (le-leb v 0xD7FF (omega arith))

scalar_top : (v : ℕ) → 0xE000 ≤ v → v ≤ 0x10FFFF → scalar v ≡ true
unfolding scalar
scalar_top v g h = rw (lt-leb v 0xD7FF (omega arith), le-leb 0xE000 v g, le-leb v 0x10FFFF h)

-- the digits of a number in base 64, and its bytes
code_2 : (x y : ℕ) → y < 64 → 0x80 ≤ x * 64 + y → x * 64 + y < 0x800 → encode (x * 64 + y) ≡ (0xC0 + x) ∷ (0x80 + y) ∷ []
code_2 x y a g h =
    let p : (x * 64 + y) / 64 ≡ x = omega arith in
    let q : (x * 64 + y) % 64 ≡ y = omega arith in
    rw (encode_2 (x * 64 + y) g h, p, q)

code_3 : (x y z : ℕ) → y < 64 → z < 64 → 0x800 ≤ x * 4096 + y * 64 + z → x * 4096 + y * 64 + z < 0x10000
    → encode (x * 4096 + y * 64 + z) ≡ (0xE0 + x) ∷ (0x80 + y) ∷ (0x80 + z) ∷ []
code_3 x y z a b g h =
    let p : (x * 4096 + y * 64 + z) / 4096 ≡ x = omega arith in
    let q : (x * 4096 + y * 64 + z) / 64 % 64 ≡ y = omega arith in
    let r : (x * 4096 + y * 64 + z) % 64 ≡ z = omega arith in
    rw (encode_3 (x * 4096 + y * 64 + z) g h, p, q, r)

code_4 : (x y z w : ℕ) → y < 64 → z < 64 → w < 64 → 0x10000 ≤ x * 262144 + y * 4096 + z * 64 + w
    → encode (x * 262144 + y * 4096 + z * 64 + w) ≡ (0xF0 + x) ∷ (0x80 + y) ∷ (0x80 + z) ∷ (0x80 + w) ∷ []
code_4 x y z w a b c g =
    let p : (x * 262144 + y * 4096 + z * 64 + w) / 262144 ≡ x = omega arith in
    let q : (x * 262144 + y * 4096 + z * 64 + w) / 4096 % 64 ≡ y = omega arith in
    let r : (x * 262144 + y * 4096 + z * 64 + w) / 64 % 64 ≡ z = omega arith in
    let t : (x * 262144 + y * 4096 + z * 64 + w) % 64 ≡ w = omega arith in
    rw (encode_4 (x * 262144 + y * 4096 + z * 64 + w) g, p, q, r, t)

back : (k b : ℕ) → k ≤ b → k + (b - k) ≡ b
back k b h = omega arith

-- the scalar value of some bytes
abbrev v2 : ℕ → ℕ → ℕ
v2 x y = (x - 0xC0) * 64 + (y - 0x80)

abbrev v3 : ℕ → ℕ → ℕ → ℕ
v3 x y z = (x - 0xE0) * 4096 + (y - 0x80) * 64 + (z - 0x80)

abbrev v4 : ℕ → ℕ → ℕ → ℕ → ℕ
v4 x y z w = (x - 0xF0) * 262144 + (y - 0x80) * 4096 + (z - 0x80) * 64 + (w - 0x80)

module _ (x y : ℕ) (lx : 0xC2 ≤ x) (hx : x ≤ 0xDF) (ly : 0x80 ≤ y) (hy : y ≤ 0xBF) where
  of_2 : ScalarOf (x ∷ y ∷ [])
  of_2 =
      let k = code_2 (x - 0xC0) (y - 0x80) (omega arith) (omega arith) (omega arith) in
      record { value = v2 x y; is_scalar = scalar_low (v2 x y) (omega arith); bytes = rw (back 0xC0 x (omega arith), back 0x80 y ly) at k }

module _ (x y z : ℕ) (lx : 0xE0 ≤ x) (hx : x ≤ 0xEF) (ly : 0x80 ≤ y) (hy : y ≤ 0xBF) (lz : 0x80 ≤ z) (hz : z ≤ 0xBF) where
  of_3 : 0x800 ≤ v3 x y z → scalar (v3 x y z) ≡ true → ScalarOf (x ∷ y ∷ z ∷ [])
  of_3 g e =
      let k = code_3 (x - 0xE0) (y - 0x80) (z - 0x80) (omega arith) (omega arith) g (omega arith) in
      record { value = v3 x y z; is_scalar = e; bytes = rw (back 0xE0 x lx, back 0x80 y ly, back 0x80 z lz) at k }

module _ (x y z w : ℕ) (lx : 0xF0 ≤ x) (hx : x ≤ 0xF4) (ly : 0x80 ≤ y) (hy : y ≤ 0xBF) (lz : 0x80 ≤ z) (hz : z ≤ 0xBF) (lw : 0x80 ≤ w)
    (hw : w ≤ 0xBF) where
  of_4 : 0x10000 ≤ v4 x y z w → v4 x y z w ≤ 0x10FFFF → ScalarOf (x ∷ y ∷ z ∷ w ∷ [])
  of_4 g h =
      let k = code_4 (x - 0xF0) (y - 0x80) (z - 0x80) (w - 0x80) (omega arith) (omega arith) (omega arith) g in
      record {
        value = v4 x y z w;
        is_scalar = scalar_top (v4 x y z w) (omega arith) h;
        bytes = rw (back 0xF0 x lx, back 0x80 y ly, back 0x80 z lz, back 0x80 w lw) at k;
      }

-- what fits a range and more is a byte and more
more : (P : List ℕ → Type 0) (f l : ℕ) (rs : List Range) (s : List ℕ) → fits (f to l ∷ rs) s ≡ true
    → ((b : ℕ) (t : List ℕ) → f ≤ b → b ≤ l → fits rs t ≡ true → P (b ∷ t)) → P s
unfolding fits in_range
more P f l rs [] e k = false_true e
more P f l rs (b ∷ t) e k =
    let p = both (within f l b) (fits rs t) e in
    let q = in_range_lem f l b p.0 in k b t q.0 q.1 p.1

last : (P : List ℕ → Type 0) (s : List ℕ) → fits [] s ≡ true → P [] → P s
unfolding fits
last P [] e k = k
last P (b ∷ s) e k = false_true e

-- what fits rows of two, three and four ranges
module _ (f l : ℕ) (s : List ℕ) where
  row_2 : fits (f to l ∷ 0x80 to 0xBF ∷ []) s ≡ true → ((x y : ℕ) → f ≤ x → x ≤ l → 0x80 ≤ y → y ≤ 0xBF → ScalarOf (x ∷ y ∷ []))
      → ScalarOf s
  row_2 e k =
      more (λ s. ScalarOf s) f l _ s e λ x t lx hx e.
      more (λ s. ScalarOf (x ∷ s)) 0x80 0xBF _ t e λ y u ly hy e.
      last (λ s. ScalarOf (x ∷ y ∷ s)) u e (k x y lx hx ly hy)

  module _ (f₁ l₁ : ℕ) where
    row_3 : fits (f to l ∷ f₁ to l₁ ∷ 0x80 to 0xBF ∷ []) s ≡ true
        → ((x y z : ℕ) → f ≤ x → x ≤ l → f₁ ≤ y → y ≤ l₁ → 0x80 ≤ z → z ≤ 0xBF → ScalarOf (x ∷ y ∷ z ∷ [])) → ScalarOf s
    row_3 e k =
        more (λ s. ScalarOf s) f l _ s e λ x t lx hx e.
        more (λ s. ScalarOf (x ∷ s)) f₁ l₁ _ t e λ y u ly hy e.
        more (λ s. ScalarOf (x ∷ y ∷ s)) 0x80 0xBF _ u e λ z v lz hz e.
        last (λ s. ScalarOf (x ∷ y ∷ z ∷ s)) v e (k x y z lx hx ly hy lz hz)

    row_4 : fits (f to l ∷ f₁ to l₁ ∷ 0x80 to 0xBF ∷ 0x80 to 0xBF ∷ []) s ≡ true
        → ((x y z w : ℕ) → f ≤ x → x ≤ l → f₁ ≤ y → y ≤ l₁ → 0x80 ≤ z → z ≤ 0xBF → 0x80 ≤ w → w ≤ 0xBF → ScalarOf (x ∷ y ∷ z ∷ w ∷ []))
        → ScalarOf s
    row_4 e k =
        more (λ s. ScalarOf s) f l _ s e λ x t lx hx e.
        more (λ s. ScalarOf (x ∷ s)) f₁ l₁ _ t e λ y u ly hy e.
        more (λ s. ScalarOf (x ∷ y ∷ s)) 0x80 0xBF _ u e λ z v lz hz e.
        more (λ s. ScalarOf (x ∷ y ∷ z ∷ s)) 0x80 0xBF _ v e λ w r lw hw e.
        last (λ s. ScalarOf (x ∷ y ∷ z ∷ w ∷ s)) r e (k x y z w lx hx ly hy lz hz lw hw)

-- a sequence that fits a row is the bytes of a scalar value
Row : List ℕ → List Range → Type 0
Row s row = fits row s ≡ true → ScalarOf s

module _ (s : List ℕ) where
  ascii : Row s (0x00 to 0x7F ∷ [])
  unfolding Row
  ascii e =
      more (λ s. ScalarOf s) 0x00 0x7F [] s e λ x t lx hx e.
      last (λ s. ScalarOf (x ∷ s)) t e (record { value = x; is_scalar = scalar_low x (omega arith); bytes = encode_1 x (omega arith) })

  c2_df : Row s (0xC2 to 0xDF ∷ 0x80 to 0xBF ∷ [])
  unfolding Row
  c2_df e = row_2 0xC2 0xDF s e of_2

  e0 : Row s (0xE0 to 0xE0 ∷ 0xA0 to 0xBF ∷ 0x80 to 0xBF ∷ [])
  unfolding Row
  e0 e = row_3 0xE0 0xE0 s 0xA0 0xBF e λ x y z lx hx ly hy lz hz. of_3 x y z lx (omega arith) (omega arith) hy lz hz (omega arith)
      (scalar_low (v3 x y z) (omega arith))

  e1_ec : Row s (0xE1 to 0xEC ∷ 0x80 to 0xBF ∷ 0x80 to 0xBF ∷ [])
  unfolding Row
  e1_ec e = row_3 0xE1 0xEC s 0x80 0xBF e λ x y z lx hx ly hy lz hz. of_3 x y z (omega arith) (omega arith) ly hy lz hz (omega arith)
      (scalar_low (v3 x y z) (omega arith))

  ed : Row s (0xED to 0xED ∷ 0x80 to 0x9F ∷ 0x80 to 0xBF ∷ [])
  unfolding Row
  ed e = row_3 0xED 0xED s 0x80 0x9F e λ x y z lx hx ly hy lz hz. of_3 x y z (omega arith) (omega arith) ly (omega arith) lz hz
      (omega arith) (scalar_low (v3 x y z) (omega arith))

  ee_ef : Row s (0xEE to 0xEF ∷ 0x80 to 0xBF ∷ 0x80 to 0xBF ∷ [])
  unfolding Row
  ee_ef e = row_3 0xEE 0xEF s 0x80 0xBF e λ x y z lx hx ly hy lz hz. of_3 x y z (omega arith) hx ly hy lz hz (omega arith)
      (scalar_top (v3 x y z) (omega arith) (omega arith))

  f0 : Row s (0xF0 to 0xF0 ∷ 0x90 to 0xBF ∷ 0x80 to 0xBF ∷ 0x80 to 0xBF ∷ [])
  unfolding Row
  f0 e = row_4 0xF0 0xF0 s 0x90 0xBF e λ x y z w lx hx ly hy lz hz lw hw. of_4 x y z w lx (omega arith) (omega arith) hy lz hz lw hw
      (omega arith) (omega arith)

  f1_f3 : Row s (0xF1 to 0xF3 ∷ 0x80 to 0xBF ∷ 0x80 to 0xBF ∷ 0x80 to 0xBF ∷ [])
  unfolding Row
  f1_f3 e = row_4 0xF1 0xF3 s 0x80 0xBF e λ x y z w lx hx ly hy lz hz lw hw. of_4 x y z w (omega arith) (omega arith) ly hy lz hz lw hw
      (omega arith) (omega arith)

  f4 : Row s (0xF4 to 0xF4 ∷ 0x80 to 0x8F ∷ 0x80 to 0xBF ∷ 0x80 to 0xBF ∷ [])
  unfolding Row
  f4 e = row_4 0xF4 0xF4 s 0x80 0x8F e λ x y z w lx hx ly hy lz hz lw hw. of_4 x y z w (omega arith) hx ly (omega arith) lz hz lw hw
      (omega arith) (omega arith)

-- what holds of every row
abbrev Every : (List Range → Type 0) → List (List Range) → Type 0
Every P [] = Unit
Every P (r ∷ rows) = P r × Every P rows

every : (P : List Range → Type 0) {row : List Range} (rows : List (List Range)) → Every P rows → Memᴰ row rows → P row
every P [] a m = absurd (Memᴰ.not-nil m)
every P {row} (r ∷ rows) a m = go (Memᴰ.cases_cons m) (every P rows a.1)
  where
    go : (row ≡ r) ⊎ Memᴰ row rows → (Memᴰ row rows → P row) → P row
    go (inl q) k = rw q a.0
    go (inr q) k = k q

-- each character of the table is the bytes of a scalar value
pub char_scalar : {s : List ℕ} → OneChar s → ScalarOf s
unfolding table Row
char_scalar {s} o = every (Row s) table (ascii s, (c2_df s, (e0 s, (e1_ec s, (ed s, (ee_ef s, (f0 s, (f1_f3 s, (f4 s, tt)))))))))
    o.listed o.bytes
