-- What a reference that is taken is like: its length, its `;`, that it names a scalar value, and that no `&` stands in it.
use Prim.Native.Nat.{ℕ, zero, suc, ◌+◌, ◌-◌, ◌≤◌, ◌<◌}
use mathlib.Core.Path.{◌≡◌, refl, sym, ap, ◌∙◌}
use mathlib.Core.Bool.{Bool, true, false}
use mathlib.Core.List.{List, [], ◌∷◌}
use native.Mathlib.Omega.{arith}
use borrow.Author.Tests.{leb-true, leb-false, ltb-true, ltb-false, eqb-true, eqb-false, ne_eqb, lt-leb}
use lib.Dec.{ltb, leb, eqb}
use lib.ListN.{length, get_or, drop, take, length-drop, length-take}
use Rattle.lists.specs.Tests.{pick}
use Rattle.lists.proofs.Tests.{pick_same, false_true}
use Rattle.lists.specs.Bytes.{ascii, sameb}
use Rattle.lists.proofs.Bytes.{same_is}
use Rattle.lists.proofs.Parts.{get_d_in}
use Rattle.utf8.specs.Encode.{scalar}
use Rattle.reference.specs.Number.{digits, plus_digits, limited, numeral}
use Rattle.reference.specs.Entity.{named, numeric, only, first, xml_char, reader, allowed, char_of}
use Rattle.reference.specs.Text.{span, sized, reference}
use Rattle.reference.specs.declared.Reference.{Reference}
use Rattle.std.specs.Prelude.{Option, None, Some}
use Rattle.std.proofs.lemmas.Option.{same_Some}
use Rattle.std.proofs.lemmas.Option.{same_Some}

pub no_value {ℓ} : {A : Type ℓ} {n : ℕ} → None ≡ Some n → A
no_value e = let z : ◌≡◌ {A = ℕ} 0 1 = cc in absurd (omega arith)

pub no_char {ℓ} : {A : Type ℓ} {y : Reference} → None ≡ Some y → A
no_char e = let z : ◌≡◌ {A = ℕ} 0 1 = cc in absurd (omega arith)

-- a reference has one character and one length
pub code_is : {a b : Reference} → Some a ≡ Some b → a.code ≡ b.code
code_is {a} {b} e = ap (λ (x : Reference). x.code) (same_Some a b e)

pub len_is : {a b : Reference} → Some a ≡ Some b → a.len ≡ b.len
len_is {a} {b} e = ap (λ (x : Reference). x.len) (same_Some a b e)

-- what holds of the five names, and of none, holds of `named`
pub named_all : (P : Option ℕ → Type 0) (e : List ℕ)
    → (e ≡ ascii "lt" → P (Some 60)) → (e ≡ ascii "gt" → P (Some 62)) → (e ≡ ascii "amp" → P (Some 38))
    → (e ≡ ascii "quot" → P (Some 34)) → (e ≡ ascii "apos" → P (Some 39)) → P None → P (named e)
unfolding named
named_all P e lt gt amp quot apos none =
    choose (ascii "lt") _ _ lt
    (choose (ascii "gt") _ _ gt
    (choose (ascii "amp") _ _ amp
    (choose (ascii "quot") _ _ quot
    (choose (ascii "apos") _ _ apos none))))
  where
    choose : (name : List ℕ) (a b : Option ℕ) → (e ≡ name → P a) → P b → P (pick (sameb e name) a b)
    choose name a b p q = go (sameb e name) refl
      where
        go : (t : Bool) → sameb e name ≡ t → P (pick t a b)
        go true h = p (same_is e name h)
        go false h = q

-- ---- how long an entity is
digits_some : (base : ℕ) (s : List ℕ) {n : ℕ} → digits base s ≡ Some n → 1 ≤ length s
unfolding digits
digits_some base s {n} e = go (leb 1 (length s)) refl e
  where
    go : (t : Bool) → leb 1 (length s) ≡ t → pick t (limited (numeral base 0 s)) None ≡ Some n → 1 ≤ length s
    go true h q = leb-true _ _ h
    go false h q = no_value q

reader_some : (strict : Bool) (base : ℕ) (s : List ℕ) {n : ℕ} → reader strict base s ≡ Some n → 1 ≤ length s
unfolding reader plus_digits
reader_some true base s e = digits_some base s e
reader_some false base s {n} e = go (eqb (get_or s 0 0) 43) e
  where
    go : (t : Bool) → digits base (pick t (drop 1 s) s) ≡ Some n → 1 ≤ length s
    go true q = omega (arith, digits_some base (drop 1 s) q, length-drop 1 s)
    go false q = digits_some base s q

numeric_some : (strict : Bool) (e : List ℕ) {n : ℕ} → numeric (reader strict) e ≡ Some n → 2 ≤ length e
unfolding numeric
numeric_some strict e {n} = go (eqb (get_or e 0 0) 35) (eqb (get_or e 1 0) 120)
  where
    go : (t u : Bool) → pick t (pick u (reader strict 16 (drop 2 e)) (reader strict 10 (drop 1 e))) None ≡ Some n → 2 ≤ length e
    go true true q = omega (arith, reader_some strict 16 (drop 2 e) q, length-drop 2 e)
    go true false q = omega (arith, reader_some strict 10 (drop 1 e) q, length-drop 1 e)
    go false u q = no_value q

-- ---- which codes are taken
xml_gap : (n : ℕ) → 0xD7FF < n → n < 0xE000 → xml_char n ≡ false
unfolding xml_char
xml_gap n g h = simp (
  ne_eqb n 9 (omega arith),
  ne_eqb n 10 (omega arith),
  ne_eqb n 13 (omega arith),
  lt-leb n 0xD7FF g,
  lt-leb 0xE000 n h,
  lt-leb 0x10000 n (omega arith),
  pick_same,
)

xml_high : (n : ℕ) → 0x10FFFF < n → xml_char n ≡ false
unfolding xml_char
xml_high n h = simp (
  ne_eqb n 9 (omega arith),
  ne_eqb n 10 (omega arith),
  ne_eqb n 13 (omega arith),
  lt-leb n 0xD7FF (omega arith),
  lt-leb n 0xFFFD (omega arith),
  lt-leb n 0x10FFFF h,
  pick_same,
)

-- a character of XML is a scalar value
pub xml_scalar : (n : ℕ) → xml_char n ≡ true → scalar n ≡ true
unfolding scalar
xml_scalar n e = go (leb n 0xD7FF) (leb 0xE000 n) (leb n 0x10FFFF) refl refl refl
  where
    go : (t u v : Bool) → leb n 0xD7FF ≡ t → leb 0xE000 n ≡ u → leb n 0x10FFFF ≡ v → pick t true (pick u v false) ≡ true
    go true u v p q r = refl
    go false true true p q r = refl
    go false true false p q r = false_true (sym (xml_high n (leb-false _ _ r)) ∙ e)
    go false false v p q r = false_true (sym (xml_gap n (leb-false _ _ p) (leb-false _ _ q)) ∙ e)

allowed_scalar : (strict : Bool) (n : ℕ) → allowed strict n ≡ true → scalar n ≡ true
unfolding allowed
allowed_scalar true n e = xml_scalar n e
allowed_scalar false n e = e

pub only_is : (f : ℕ → Bool) (x : Option ℕ) {n : ℕ} → only f x ≡ Some n → (x ≡ Some n) × (f n ≡ true)
unfolding only
only_is f None e = no_value e
only_is f (Some m) {n} e = go (f m) refl e
  where
    go : (t : Bool) → f m ≡ t → pick t (Some m) None ≡ Some n → (Some m ≡ Some n) × (f n ≡ true)
    go true q e = let h : m ≡ n = cc in (e, rw (← h) q)
    go false q e = no_value e

-- an entity that is taken has two bytes or more, and names a scalar value
pub record Known (e : List ℕ) (c : ℕ) : Type 0 where
  pub some : 2 ≤ length e
  pub char : scalar c ≡ true

char_known : (strict : Bool) (e : List ℕ) {c : ℕ} → char_of strict e ≡ Some c → Known e c
unfolding char_of first scalar
char_known strict e {c} = named_all Told e (λ q. one 60 q refl refl) (λ q. one 62 q refl refl) (λ q. one 38 q refl refl)
    (λ q. one 34 q refl refl) (λ q. one 39 q refl refl) other
  where
    Told : Option ℕ → Type 0
    Told x = first x (only (allowed strict) (numeric (reader strict) e)) ≡ Some c → Known e c

    one : {name : List ℕ} (k : ℕ) → e ≡ name → leb 2 (length name) ≡ true → scalar k ≡ true → Some k ≡ Some c → Known e c
    one k q l s h = let g : k ≡ c = cc in record { some = rw q (leb-true _ _ l); char = rw (← g) s }

    other : only (allowed strict) (numeric (reader strict) e) ≡ Some c → Known e c
    other h =
        let k = only_is (allowed strict) (numeric (reader strict) e) h in
        record { some = numeric_some strict e k.0; char = allowed_scalar strict c k.1 }

-- a reference that is taken: n bytes after the `&`, the last of them its `;`
pub record Taken (s : List ℕ) (c n : ℕ) : Type 0 where
  pub some : 3 ≤ n
  pub within : n ≤ length s
  pub semicolon : get_or s (n - 1) 0 ≡ 59
  pub char : scalar c ≡ true

pub taken : (strict : Bool) (s : List ℕ) {y : Reference} → reference strict s ≡ Some y → Taken s y.code y.len
unfolding reference sized
taken strict s {y} e = go (eqb (get_or s (span s) 0) 59) (char_of strict (take (span s) s)) refl refl e
  where
    go : (t : Bool) (x : Option ℕ) → eqb (get_or s (span s) 0) 59 ≡ t → char_of strict (take (span s) s) ≡ x
        → pick t (sized (span s + 1) x) None ≡ Some y → Taken s y.code y.len
    go true (Some d) h q e =
        let a : d ≡ y.code = code_is e in
        let b : span s + 1 ≡ y.len = len_is e in
        let k : y.len - 1 ≡ span s = omega arith in
        let w = char_known strict (take (span s) s) q in
        record {
          some = omega (arith, w.some, length-take (span s) s);
          within = omega (arith, get_d_in s (span s) 58 (eqb-true _ _ h));
          semicolon = rw k (eqb-true _ _ h);
          char = rw (← a) w.char;
        }
    go true None h q e = no_char e
    go false x h q e = no_char e

-- ---- no `&` stands in it
-- no `&` among the first n bytes
abbrev pub NoAmp : ℕ → List ℕ → Type 0
NoAmp n s = (j : ℕ) → j < n → get_or s j 0 ≡ 38 → ⊥

span_no_amp : (s : List ℕ) → NoAmp (span s) s
unfolding span
span_no_amp [] j h e = omega arith
span_no_amp (b ∷ s) j h e = go (eqb b 59) (eqb b 38) refl j h e (span_no_amp s)
  where
    go : (t u : Bool) → eqb b 38 ≡ u → (j : ℕ) → j < pick t 0 (pick u 0 (suc (span s))) → get_or (b ∷ s) j 0 ≡ 38
        → ((j : ℕ) → j < span s → get_or s j 0 ≡ 38 → ⊥) → ⊥
    go true u q j h e ih = omega arith
    go false true q j h e ih = omega arith
    go false false q zero h e ih = eqb-false b 38 q e
    go false false q (suc j) h e ih = ih j (omega arith) e

pub reference_no_amp : (strict : Bool) (s : List ℕ) {y : Reference} → reference strict s ≡ Some y → NoAmp y.len s
unfolding reference sized
reference_no_amp strict s {y} q = go (eqb (get_or s (span s) 0) 59) (char_of strict (take (span s) s)) refl q
  where
    go : (t : Bool) (x : Option ℕ) → eqb (get_or s (span s) 0) 59 ≡ t → pick t (sized (span s + 1) x) None ≡ Some y
        → (j : ℕ) → j < y.len → get_or s j 0 ≡ 38 → ⊥
    go true (Some d) h q j l e = last (ltb j (span s)) refl
      where
        last : (t : Bool) → ltb j (span s) ≡ t → ⊥
        last true p = span_no_amp s j (ltb-true _ _ p) e
        last false p =
            let b : span s + 1 ≡ y.len = len_is q in
            let k : j ≡ span s = omega (arith, ltb-false j (span s) p) in
            omega (arith, eqb-true (get_or s (span s) 0) 59 h, rw k at e)
    go true None h q j l e = no_char q
    go false x h q j l e = no_char q
