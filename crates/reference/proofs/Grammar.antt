-- `validate` takes a text exactly when each `&` of it begins a Reference of XML 1.0 (Xml.antt), and otherwise tells the place of the first
-- that begins none (Place.antt).
use Prim.Native.Nat.{ℕ, zero, suc, ◌+◌, ◌-◌, ◌*◌, ◌^◌, ◌≤◌, ◌<◌}
use mathlib.Core.Path.{◌≡◌, refl, sym, ◌∙◌, ap}
use mathlib.Core.Bool.{Bool, true, false}
use mathlib.Core.List.{List, [], ◌∷◌, ◌++◌, append_assoc, append-nil}
use mathlib.Core.Logic.{◌↔◌, ⊎_elim}
use native.Mathlib.Nat.{zero-add, zero-mul}
use native.Mathlib.Numerals.{add-one}
use native.Mathlib.Omega.{arith}
use borrow.Author.Tests.{ltb-true, eqb-true, eqb-false, ne_eqb, le-leb, lt-leb, lt-ltb, le-ltb}
use lib.Dec.{ltb, leb, eqb}
use lib.ListN.{length, get_or, drop, take, length-append, take-append-drop}
use lib.Seq.{take-suc, drop-cons}
use Rattle.lists.specs.Tests.{pick, within}
use Rattle.lists.proofs.Tests.{pick_same, pick_cases, false_true, or_is, within_is, is_within}
use Rattle.lists.specs.Bytes.{ascii, sameb}
use Rattle.lists.proofs.Parts.{get_d_in}
use Rattle.utf8.specs.Encode.{encode}
use Rattle.reference.specs.Number.{digit, numeral, limited, digits}
use Rattle.reference.specs.Entity.{named, numeric, only, first, xml_char, reader, allowed, char_of}
use Rattle.reference.specs.Text.{span, sized, reference, Out, before, decode, verdict, references, validated}
use Rattle.reference.specs.Text.Out.{bytes, bad}
use Rattle.reference.proofs.Taken.{no_value, no_char, code_is, len_is, named_all, only_is}
use Rattle.reference.specs.Place.{FailsAt, NoReferenceAt, Correct}
use Rattle.reference.proofs.Place.{each_begins, validate_bad_is}
use Rattle.reference.specs.Xml as xml
use Rattle.reference.specs.Xml.{Char, Decimal, Hexadecimal, Numeral, CharRef, Predefined, BeginsReference, EachReference}
use Rattle.reference.specs.declared.Reference.{Reference}
use Rattle.reference.specs.declared.BadReference.{BadReference}
use Rattle.std.specs.Prelude.{Option, None, Some, Result, Ok, Err}

-- ---- Char [2]
char_sound : (c : ℕ) → xml_char c ≡ true → Char c
unfolding xml_char
char_sound c e =
    ⊎_elim (λ h. xml.tab (eqb-true _ _ h))
    (λ e. ⊎_elim (λ h. xml.line_feed (eqb-true _ _ h))
    (λ e. ⊎_elim (λ h. xml.carriage_return (eqb-true _ _ h))
    (λ e. ⊎_elim (λ h. let w = within_is 0x20 0xD7FF c h in xml.below_surrogates w.0 w.1)
    (λ e. ⊎_elim (λ h. let w = within_is 0xE000 0xFFFD c h in xml.above_surrogates w.0 w.1)
    (λ h. let w = within_is 0x10000 0x10FFFF c h in xml.supplementary w.0 w.1)
    (or_is _ _ e)) (or_is _ _ e)) (or_is _ _ e)) (or_is _ _ e)) (or_is _ _ e)

char_complete : (c : ℕ) → Char c → xml_char c ≡ true
unfolding xml_char
char_complete c (xml.tab e) = rw e
char_complete c (xml.line_feed e) = rw e
char_complete c (xml.carriage_return e) = rw e
char_complete c (xml.below_surrogates g h) = simp (le-leb 0x20 c g, le-leb c 0xD7FF h, pick_same)
char_complete c (xml.above_surrogates g h) = simp (le-leb 0xE000 c g, le-leb c 0xFFFD h, pick_same)
char_complete c (xml.supplementary g h) = simp (le-leb 0x10000 c g, le-leb c 0x10FFFF h, pick_same)

-- 01's limit of 32 bits says nothing that Char does not
pub char_limit : (c : ℕ) → Char c → c < 2 ^ 32
char_limit c (xml.tab e) = omega arith
char_limit c (xml.line_feed e) = omega arith
char_limit c (xml.carriage_return e) = omega arith
char_limit c (xml.below_surrogates g h) = omega arith
char_limit c (xml.above_surrogates g h) = omega arith
char_limit c (xml.supplementary g h) = omega arith

-- ---- digits
digit_cases : (P : ℕ → Type 0) (b : ℕ) → (48 ≤ b → b ≤ 57 → P (b - 48)) → (65 ≤ b → b ≤ 70 → P (b - 55)) → (97 ≤ b → b ≤ 102 → P (b - 87))
    → P 16 → P (digit b)
unfolding digit
digit_cases P b dec cap low none =
    pick_cases P (within 48 57 b) _ _ (λ e. let w = within_is 48 57 b e in dec w.0 w.1)
    (λ _. pick_cases P (within 65 70 b) _ _ (λ e. let w = within_is 65 70 b e in cap w.0 w.1)
    (λ _. pick_cases P (within 97 102 b) _ _ (λ e. let w = within_is 97 102 b e in low w.0 w.1) (λ _. none)))

decimal_sound : (b : ℕ) → digit b < 10 → Decimal b (digit b)
decimal_sound b =
    digit_cases (λ (d : ℕ). d < 10 → Decimal b d) b
    (λ g h l. xml.Decimal.digit (omega arith) (omega arith)) (λ g h l. absurd (omega arith)) (λ g h l. absurd (omega arith))
    (λ l. absurd (omega arith))

hexadecimal_sound : (b : ℕ) → digit b < 16 → Hexadecimal b (digit b)
hexadecimal_sound b =
    digit_cases (λ (d : ℕ). d < 16 → Hexadecimal b d) b
    (λ g h l. xml.Hexadecimal.digit (xml.Decimal.digit (omega arith) (omega arith)))
    (λ g h l. xml.capital (b - 65) (omega arith) (omega arith) (omega arith))
    (λ g h l. xml.small (b - 97) (omega arith) (omega arith) (omega arith)) (λ l. absurd (omega arith))

-- a digit by its value: no `;`, no `&`
record IsDigit (base b d : ℕ) : Type 0 where
  value : digit b ≡ d
  less : d < base
  semicolon : b ≡ 59 → ⊥
  ampersand : b ≡ 38 → ⊥

in_first : (b : ℕ) → 48 ≤ b → b ≤ 57 → digit b ≡ b - 48
unfolding digit
in_first b g h = rw (is_within 48 57 b g h)

in_second : (b : ℕ) → 65 ≤ b → b ≤ 70 → digit b ≡ b - 55
unfolding digit
in_second b g h = rw (lt-leb b 57 (omega arith), le-leb 48 b (omega arith), is_within 65 70 b g h)

in_third : (b : ℕ) → 97 ≤ b → b ≤ 102 → digit b ≡ b - 87
unfolding digit
in_third b g h = rw (
  lt-leb b 57 (omega arith),
  le-leb 48 b (omega arith),
  lt-leb b 70 (omega arith),
  le-leb 65 b (omega arith),
  is_within 97 102 b g h,
)

decimal_complete : (b d : ℕ) → Decimal b d → IsDigit 10 b d
decimal_complete b d (xml.Decimal.digit g h) =
    record {
      value = omega (arith, in_first b (omega arith) (omega arith));
      less = omega arith;
      semicolon = λ e. omega arith;
      ampersand = λ e. omega arith;
    }

hexadecimal_complete : (b d : ℕ) → Hexadecimal b d → IsDigit 16 b d
hexadecimal_complete b d (xml.Hexadecimal.digit x) = let i = decimal_complete b d x in
    record { value = i.value; less = omega (arith, i.less); semicolon = i.semicolon; ampersand = i.ampersand }
hexadecimal_complete b d (xml.small k g h i) =
    record {
      value = omega (arith, in_third b (omega arith) (omega arith));
      less = omega arith;
      semicolon = λ e. omega arith;
      ampersand = λ e. omega arith;
    }
hexadecimal_complete b d (xml.capital k g h i) =
    record {
      value = omega (arith, in_second b (omega arith) (omega arith));
      less = omega arith;
      semicolon = λ e. omega arith;
      ampersand = λ e. omega arith;
    }

-- bytes that end no entity
pub data Clean : List ℕ → Type 0 where
  clean_none : Clean []
  clean_byte : {b : ℕ} {s : List ℕ} → (b ≡ 59 → ⊥) → (b ≡ 38 → ⊥) → Clean s → Clean (b ∷ s)

clean_cons : {base b d : ℕ} {s : List ℕ} → IsDigit base b d → Clean s → Clean (b ∷ s)
clean_cons i c = clean_byte i.semicolon i.ampersand c

clean_snoc : {base b d : ℕ} {s : List ℕ} → Clean s → IsDigit base b d → Clean (s ++ (b ∷ []))
clean_snoc clean_none i = clean_cons i clean_none
clean_snoc (clean_byte g h c) i = clean_byte g h (clean_snoc c i)

-- an entity of clean bytes ends at its `;`
span_clean : {s : List ℕ} → Clean s → (r : List ℕ) → span (s ++ (59 ∷ r)) ≡ length s
unfolding span
span_clean clean_none r = refl
span_clean (clean_byte {b} {s} g h c) r = rw (ne_eqb b 59 g, ne_eqb b 38 h) (ap suc (span_clean c r))

-- the digits of a numeral: some, clean, and its number
record IsNumeral (base : ℕ) (s : List ℕ) (n : ℕ) : Type 0 where
  some : 1 ≤ length s
  value : numeral base 0 s ≡ Some n
  clean : Clean s

limited_is : (x : Option ℕ) {n : ℕ} → limited x ≡ Some n → x ≡ Some n
unfolding limited
limited_is None e = e
limited_is (Some m) {n} e = go (ltb m (2 ^ 32)) e
  where
    go : (t : Bool) → pick t (Some m) None ≡ Some n → Some m ≡ Some n
    go true e = e
    go false e = no_value e

digits_is : (base : ℕ) (s : List ℕ) {n : ℕ} → digits base s ≡ Some n → numeral base 0 s ≡ Some n
unfolding digits
digits_is base s {n} e = go (leb 1 (length s)) e
  where
    go : (t : Bool) → pick t (limited (numeral base 0 s)) None ≡ Some n → numeral base 0 s ≡ Some n
    go true e = limited_is (numeral base 0 s) e
    go false e = no_value e

-- ---- numerals, over a kind of digit
module _ (Digit : ℕ → ℕ → Type 0) (base : ℕ) (sound : (b : ℕ) → digit b < base → Digit b (digit b)) where
  -- p is read and comes to acc
  more_digits : (p s : List ℕ) (acc n : ℕ) → Numeral Digit base p acc → numeral base acc s ≡ Some n → Numeral Digit base (p ++ s) n
  unfolding numeral
  more_digits p [] acc n x e = let q : acc ≡ n = cc in rw (append-nil, ← q) x
  more_digits p (b ∷ s) acc n x e = go (ltb (digit b) base) refl e (more_digits (p ++ (b ∷ [])) s (acc * base + digit b) n)
    where
      go : (t : Bool) → ltb (digit b) base ≡ t → pick t (numeral base (acc * base + digit b) s) None ≡ Some n
          → (Numeral Digit base (p ++ (b ∷ [])) (acc * base + digit b) → numeral base (acc * base + digit b) s ≡ Some n
          → Numeral Digit base ((p ++ (b ∷ [])) ++ s) n)
          → Numeral Digit base (p ++ (b ∷ s)) n
      go true h e ih = rw append_assoc at (ih (xml.more x (sound b (ltb-true _ _ h))) e)
      go false h e ih = no_value e

  numeral_sound : (s : List ℕ) {n : ℕ} → digits base s ≡ Some n → Numeral Digit base s n
  unfolding digits numeral
  numeral_sound [] e = no_value e
  numeral_sound (b ∷ s) {n} e = go (ltb (digit b) base) refl (digits_is base (b ∷ s) e)
    where
      go : (t : Bool) → ltb (digit b) base ≡ t → pick t (numeral base (0 * base + digit b) s) None ≡ Some n → Numeral Digit base (b ∷ s) n
      go true h e =
          let z : 0 * base + digit b ≡ digit b = rw (zero-mul, zero-add) in
          more_digits (b ∷ []) s (digit b) n (xml.one (sound b (ltb-true _ _ h))) (rw z at e)
      go false h e = no_value e

module _ (Digit : ℕ → ℕ → Type 0) (base : ℕ) (complete : (b d : ℕ) → Digit b d → IsDigit base b d) where
  -- one digit more
  number_snoc : (s : List ℕ) (acc n b d : ℕ) → numeral base acc s ≡ Some n → IsDigit base b d
      → numeral base acc (s ++ (b ∷ [])) ≡ Some (n * base + d)
  unfolding numeral
  number_snoc [] acc n b d e i = let q : acc ≡ n = cc in rw (i.value, lt-ltb d base i.less, q)
  number_snoc (x ∷ s) acc n b d e i = go (ltb (digit x) base) e (number_snoc s (acc * base + digit x) n b d)
    where
      go : (t : Bool) → pick t (numeral base (acc * base + digit x) s) None ≡ Some n
          → (numeral base (acc * base + digit x) s ≡ Some n → IsDigit base b d
          → numeral base (acc * base + digit x) (s ++ (b ∷ [])) ≡ Some (n * base + d))
          → pick t (numeral base (acc * base + digit x) (s ++ (b ∷ []))) None ≡ Some (n * base + d)
      go true e ih = ih e i
      go false e ih = no_value e

  numeral_complete : {s : List ℕ} {n : ℕ} → Numeral Digit base s n → IsNumeral base s n
  unfolding numeral
  numeral_complete (xml.one {b} {d} x) =
      let i = complete b d x in
      let z : 0 * base + digit b ≡ d = rw (zero-mul, zero-add) i.value in
      record { some = omega arith; value = rw (z, i.value, lt-ltb d base i.less); clean = clean_cons i clean_none }
  numeral_complete (xml.more {s} {n} {b} {d} r x) =
      let m = numeral_complete r in
      record {
        some = omega (arith, m.some, length-append s (b ∷ []));
        value = number_snoc s 0 n b d m.value (complete b d x);
        clean = clean_snoc m.clean (complete b d x);
      }

-- ---- what stands between `&` and `;`
-- the reference that an entity makes
entity_front : List ℕ → List ℕ
entity_front e = 0x26 ∷ (e ++ (0x3B ∷ []))

numeric_sound : (e : List ℕ) {c : ℕ} → numeric digits e ≡ Some c → Char c → CharRef (entity_front e) c
unfolding numeric entity_front
numeric_sound [] q k = no_value q
numeric_sound (x ∷ s) {c} q k = go (eqb x 35) (eqb (get_or s 0 0) 120) refl refl q
  where
    hex : (s : List ℕ) → get_or s 0 0 ≡ 120 → x ≡ 35 → digits 16 (drop 1 s) ≡ Some c → CharRef (38 ∷ (x ∷ (s ++ (59 ∷ [])))) c
    hex [] h a q = absurd (omega arith)
    hex (y ∷ s) h a q = xml.hexadecimal s (rw (a, h)) (numeral_sound Hexadecimal 16 hexadecimal_sound s q) k

    go : (t u : Bool) → eqb x 35 ≡ t → eqb (get_or s 0 0) 120 ≡ u → pick t (pick u (digits 16 (drop 1 s)) (digits 10 s)) None ≡ Some c
        → CharRef (38 ∷ (x ∷ (s ++ (59 ∷ [])))) c
    go true true a b q = hex s (eqb-true _ _ b) (eqb-true _ _ a) q
    go true false a b q = xml.decimal s (rw (eqb-true x 35 a)) (numeral_sound Decimal 10 decimal_sound s q) k
    go false u a b q = no_value q

entity_sound : (e : List ℕ) {c : ℕ} → char_of true e ≡ Some c → xml.Reference (entity_front e) c
unfolding char_of first entity_front allowed reader
entity_sound e {c} =
    named_all Told e (λ q h. one (xml.lt q) (sym (same h))) (λ q h. one (xml.gt q) (sym (same h))) (λ q h. one (xml.amp q) (sym (same h)))
    (λ q h. one (xml.quot q) (sym (same h))) (λ q h. one (xml.apos q) (sym (same h))) other
  where
    Told : Option ℕ → Type 0
    Told x = first x (only (allowed true) (numeric (reader true) e)) ≡ Some c → xml.Reference (entity_front e) c

    same : {k : ℕ} → Some k ≡ Some c → k ≡ c
    same h = cc

    one : {k : ℕ} → (c ≡ k → Predefined e c) → c ≡ k → xml.Reference (entity_front e) c
    one p h = xml.entity_ref (xml.entity e refl (p h))

    other : only (allowed true) (numeric (reader true) e) ≡ Some c → xml.Reference (entity_front e) c
    other h =
        let k = only_is (allowed true) (numeric (reader true) e) h in
        xml.char_ref (numeric_sound e k.0 (char_sound c k.1))

-- ---- the same, from the grammar
cleanb : List ℕ → Bool
cleanb [] = true
cleanb (b ∷ s) = pick (eqb b 59) false (pick (eqb b 38) false (cleanb s))

clean_test : (s : List ℕ) → cleanb s ≡ true → Clean s
unfolding cleanb
clean_test [] e = clean_none
clean_test (b ∷ s) e = go (eqb b 59) (eqb b 38) refl refl e (clean_test s)
  where
    go : (t u : Bool) → eqb b 59 ≡ t → eqb b 38 ≡ u → pick t false (pick u false (cleanb s)) ≡ true → (cleanb s ≡ true → Clean s)
        → Clean (b ∷ s)
    go true u p q e ih = false_true e
    go false true p q e ih = false_true e
    go false false p q e ih = clean_byte (eqb-false b 59 p) (eqb-false b 38 q) (ih e)

-- an entity that stands for c, and ends at its `;`
record IsEntity (e : List ℕ) (c : ℕ) : Type 0 where
  value : char_of true e ≡ Some c
  clean : Clean e

entity_named : {e : List ℕ} {c : ℕ} → Predefined e c → IsEntity e c
unfolding char_of first named sameb cleanb
entity_named (xml.lt p q) = record { value = rw (p, q); clean = rw p (clean_test (ascii "lt") refl) }
entity_named (xml.gt p q) = record { value = rw (p, q); clean = rw p (clean_test (ascii "gt") refl) }
entity_named (xml.amp p q) = record { value = rw (p, q); clean = rw p (clean_test (ascii "amp") refl) }
entity_named (xml.apos p q) = record { value = rw (p, q); clean = rw p (clean_test (ascii "apos") refl) }
entity_named (xml.quot p q) = record { value = rw (p, q); clean = rw p (clean_test (ascii "quot") refl) }

digits_value : (base : ℕ) {s : List ℕ} {c : ℕ} → IsNumeral base s c → Char c → digits base s ≡ Some c
unfolding digits limited
digits_value base {s} {c} m k = rw (le-leb 1 (length s) m.some, m.value, lt-ltb c (2 ^ 32) (char_limit c k))

-- a numeral does not begin with `x`
no_x : (base : ℕ) (s : List ℕ) {n : ℕ} → base ≤ 16 → numeral base 0 s ≡ Some n → get_or s 0 0 ≡ 120 → ⊥
unfolding numeral digit
no_x base [] h e q = omega arith
no_x base (b ∷ s) {n} h e q = no_value (rw (q, le-ltb 16 base h) at e)

only_char : {x : Option ℕ} {c : ℕ} → x ≡ Some c → Char c → only xml_char x ≡ Some c
unfolding only
only_char {x} {c} e k = rw (e, char_complete c k)

entity_decimal : (s : List ℕ) {c : ℕ} → IsNumeral 10 s c → Char c → IsEntity (35 ∷ s) c
unfolding char_of first named sameb numeric reader allowed
entity_decimal s {c} m k =
    let n : numeric digits (35 ∷ s) ≡ Some c = rw (ne_eqb (get_or s 0 0) 120 (no_x 10 s (omega arith) m.value)) (digits_value 10 m k) in
    record { value = only_char n k; clean = clean_byte (eqb-false 35 59 refl) (eqb-false 35 38 refl) m.clean }

entity_hexadecimal : (s : List ℕ) {c : ℕ} → IsNumeral 16 s c → Char c → IsEntity (35 ∷ (120 ∷ s)) c
unfolding char_of first named sameb numeric reader allowed
entity_hexadecimal s {c} m k =
    record {
      value = only_char (digits_value 16 m k) k;
      clean = clean_byte (eqb-false 35 59 refl) (eqb-false 35 38 refl)
          (clean_byte (eqb-false 120 59 refl) (eqb-false 120 38 refl) m.clean);
    }

-- a Reference has an entity between its `&` and its `;`
record HasEntity (t : List ℕ) (c : ℕ) : Type 0 where
  entity : List ℕ
  front : t ≡ entity_front entity
  is : IsEntity entity c

entity_complete : {t : List ℕ} {c : ℕ} → xml.Reference t c → HasEntity t c
unfolding entity_front
entity_complete (xml.entity_ref (xml.entity e p k)) = record { entity = e; front = p; is = entity_named k }
entity_complete (xml.char_ref (xml.decimal s p m k)) =
    record { entity = 35 ∷ s; front = p; is = entity_decimal s (numeral_complete Decimal 10 decimal_complete m) k }
entity_complete (xml.char_ref (xml.hexadecimal s p m k)) =
    record { entity = 35 ∷ (120 ∷ s); front = p; is = entity_hexadecimal s (numeral_complete Hexadecimal 16 hexadecimal_complete m) k }

-- ---- one reference: what validation reads after an `&` is what the grammar has there
take_front : (e r : List ℕ) → take (length e) (e ++ r) ≡ e
take_front [] r = refl
take_front (x ∷ e) r = ap (λ (l : List ℕ). x ∷ l) (take_front e r)

get_d_front : (e : List ℕ) (x : ℕ) (r : List ℕ) → get_or (e ++ (x ∷ r)) (length e) 0 ≡ x
get_d_front [] x r = refl
get_d_front (y ∷ e) x r = get_d_front e x r

drop_front : (e : List ℕ) (x : ℕ) (r : List ℕ) → drop (suc (length e)) (e ++ (x ∷ r)) ≡ r
drop_front [] x r = refl
drop_front (y ∷ e) x r = drop_front e x r

pub reference_complete : {t : List ℕ} {c : ℕ} → xml.Reference t c → (s r : List ℕ) → 0x26 ∷ s ≡ t ++ r
    → reference true s ≡ Some (record { code = c; len = length t - 1 })
unfolding reference sized entity_front
reference_complete {t} {c} x s r q =
    let h = entity_complete x in
    let e = h.entity in
    let j : 0x26 ∷ s ≡ 0x26 ∷ ((e ++ (59 ∷ [])) ++ r) = q ∙ ap (λ (l : List ℕ). l ++ r) h.front in
    let i : s ≡ (e ++ (59 ∷ [])) ++ r = cc in
    let k : s ≡ e ++ (59 ∷ r) = i ∙ append_assoc e (59 ∷ []) r in
    let n : length e + 1 ≡ length t - 1 = omega (arith, ap length h.front, length-append e (59 ∷ [])) in
    rw (k, span_clean h.is.clean r, get_d_front e 59 r, take_front e (59 ∷ r), h.is.value, n)

-- what stands before the first `;` or `&`, if that is a `;`
span_take : (s : List ℕ) → get_or s (span s) 0 ≡ 59 → take (span s + 1) s ≡ take (span s) s ++ (59 ∷ [])
unfolding span
span_take s e = let h = get_d_in s (span s) 58 e in rw (add-one, take-suc s (span s) 0, e)

pub reference_sound : (s : List ℕ) {y : Reference} → reference true s ≡ Some y → xml.Reference (0x26 ∷ take y.len s) y.code
unfolding reference sized entity_front
reference_sound s {y} q = go (eqb (get_or s (span s) 0) 59) (char_of true (take (span s) s)) refl refl q
  where
    go : (t : Bool) (x : Option ℕ) → eqb (get_or s (span s) 0) 59 ≡ t → char_of true (take (span s) s) ≡ x
        → pick t (sized (span s + 1) x) None ≡ Some y → xml.Reference (0x26 ∷ take y.len s) y.code
    go true (Some d) h k q =
        let a : d ≡ y.code = code_is q in
        let b : span s + 1 ≡ y.len = len_is q in
        rw (← b, span_take s (eqb-true _ _ h)) (entity_sound (take (span s) s) (rw a at k))
    go true None h k q = no_char q
    go false x h k q = no_char q

-- ---- the whole text
-- a reference that is read begins the text after its `&`
begins : (s : List ℕ) {y : Reference} → reference true s ≡ Some y → BeginsReference (0x26 ∷ s)
begins s {y} q = record {
  front = 0x26 ∷ take y.len s;
  rest = drop y.len s;
  cut = ap (λ (l : List ℕ). 0x26 ∷ l) (sym (take-append-drop y.len s));
  char = y.code;
  is = reference_sound s q;
}

-- each `&` of a text that decodes begins a Reference
each_sound : (t l : List ℕ) → decode true 0 0 t ≡ bytes l → (a b : List ℕ) → t ≡ a ++ (0x26 ∷ b) → BeginsReference (0x26 ∷ b)
each_sound t l e a b q =
    let w = each_begins true 0 0 t l (λ j h e. omega arith) e (length a) (rw q (get_d_front a 0x26 b)) in
    let d : drop (suc (length a)) t ≡ b = ap (drop (suc (length a))) q ∙ drop_front a 0x26 b in
    begins b (ap (reference true) (sym d) ∙ w.is)

each_complete : (at k : ℕ) (s : List ℕ) → ((a b : List ℕ) → s ≡ a ++ (0x26 ∷ b) → BeginsReference (0x26 ∷ b))
    → (l : List ℕ) × (decode true at k s ≡ bytes l)
unfolding decode before
each_complete at k [] h = ([], refl)
each_complete at (suc k) (x ∷ s) h = each_complete (suc at) k s (λ a b q. h (x ∷ a) b (ap (λ (l : List ℕ). x ∷ l) q))
each_complete at zero (x ∷ s) h = go (eqb x 38) refl (λ k. each_complete (suc at) k s (λ a b q. h (x ∷ a) b (ap (λ (l : List ℕ). x ∷ l) q)))
  where
    Whole : Out → Type 0
    Whole o = (l : List ℕ) × (o ≡ bytes l)

    front : (a : List ℕ) (k : ℕ) → ((k : ℕ) → Whole (decode true (suc at) k s)) → Whole (before a (decode true (suc at) k s))
    front a k ih = let w = ih k in (a ++ w.0, ap (before a) w.1)

    go : (t : Bool) → eqb x 38 ≡ t → ((k : ℕ) → Whole (decode true (suc at) k s))
        → Whole (elim t [
          | true ↦ elim (reference true s)
              [ Some y ↦ before (encode y.code) (decode true (suc at) y.len s) | None ↦ bad at ]
          | false ↦ before (x ∷ [])
              (decode true (suc at) zero s)
        ])
    go true q ih =
        let w = h [] s (ap (λ (y : ℕ). y ∷ s) (eqb-true x 38 q)) in
        rw (reference_complete w.is s w.rest w.cut) (front (encode w.char) (length w.front - 1) ih)
    go false q ih = front (x ∷ []) zero ih

-- ---- `validate` takes a text exactly when each `&` of it begins a Reference
pub validate_sound : (t : List ℕ) → validated t ≡ Ok tt → EachReference t
unfolding validated references verdict
validate_sound t e = go (decode true 0 0 t) refl e
  where
    go : (o : Out) → decode true 0 0 t ≡ o → verdict o ≡ Ok tt → EachReference t
    go (bytes l) q e = record { each = λ a b c. each_sound t l q a b c }
    go (bad at) q e = let z : ◌≡◌ {A = ℕ} 0 1 = cc in absurd (omega arith)

-- where there is nothing, nothing is wrong
pub validated_none : validated [] ≡ Ok tt
unfolding validated references verdict decode
validated_none = refl

pub validate_complete : (t : List ℕ) → EachReference t → validated t ≡ Ok tt
unfolding validated references verdict
validate_complete t h = let w = each_complete 0 0 t h.each in rw w.1

-- ---- and it refuses with a place exactly where that is the first `&` which begins no Reference
-- no Reference begins at an `&` exactly where validation reads none after it
none_sound : (s : List ℕ) → reference true s ≡ None → BeginsReference (0x26 ∷ s) → ⊥
none_sound s q b = no_char (sym q ∙ reference_complete b.is s b.rest b.cut)

none_complete : (s : List ℕ) → (BeginsReference (0x26 ∷ s) → ⊥) → reference true s ≡ None
none_complete s h = go (reference true s) refl
  where
    go : (r : Option Reference) → reference true s ≡ r → r ≡ None
    go (Some y) q = absurd (h (begins s q))
    go None q = refl

module _ (t : List ℕ) (at : ℕ) where
  at_amp : get_or t at 0 ≡ 38 → drop at t ≡ 0x26 ∷ drop (suc at) t
  at_amp e = drop-cons t at 0 (get_d_in t at 37 e) ∙ ap (λ (x : ℕ). x ∷ drop (suc at) t) e

  pub fails_sound : FailsAt true t at → NoReferenceAt t at
  unfolding validated references verdict
  fails_sound f = record {
    front = validate_sound (take at t) (ap verdict f.decodes);
    byte = f.byte;
    none = λ b. none_sound (drop (suc at) t) f.none (rw (at_amp f.byte) at b);
  }

  pub fails_complete : NoReferenceAt t at → FailsAt true t at
  fails_complete n = let w = each_complete 0 0 (take at t) n.front.each in
      record {
        front = w.0;
        decodes = w.1;
        byte = n.byte;
        none = none_complete (drop (suc at) t) (λ b. n.none (rw (at_amp n.byte) b));
      }

-- ---- THE EXACTNESS OF VALIDATION: each answer is given exactly where it is right by XML 1.0
pub validate_is : (t : List ℕ) (v : Result (Unit {0}) BadReference) → (validated t ≡ v) ↔ Correct t v
unfolding Correct
validate_is t (Ok u) = (validate_sound t, validate_complete t)
validate_is t (Err e) = let w = validate_bad_is t e.at in
    (λ q. fails_sound t e.at (w.0 q), λ n. w.1 (fails_complete t e.at n))
