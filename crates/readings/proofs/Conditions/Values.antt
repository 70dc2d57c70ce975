-- 01, "Scalar": "A text taken from an entry is read by the same rules, with 10, 11 or 12 alone." Each is given exactly where its condition
-- holds, on every text.
use Prim.Native.Nat.{ℕ, ◌^◌, ◌-◌, ◌≤◌, ◌<◌}
use mathlib.Core.Path.{◌≡◌, refl, sym, ◌∙◌, ap, subst, subst⁻¹}
use mathlib.Core.Logic.{◌↔◌}
use mathlib.Core.Bool.{Bool, true, false}
use mathlib.Core.List.{List, [], ◌∷◌}
use borrow.Author.Tests.{eqb-true, eq-eqb, leb-true, leb-false, le-leb, lt-leb}
use lib.Dec.{eqb, leb}
use lib.IntN.{ℤ, pos}
use lib.ListN.{length}
use Rattle.std.specs.Prelude.{None, Option, Some}
use Rattle.lists.specs.Tests.{pick}
use Rattle.lists.proofs.Tests.{false_true}
use Rattle.lists.specs.Bytes.{ascii, sameb}
use Rattle.lists.proofs.Bytes.{same_is, same_self}
use Rattle.refusal.specs.declared.Refusal.{Refusal}
use Rattle.refusal.specs.Answer.{Answer, gives, refuses}
use Rattle.reference.specs.Number.{digit, numeral}
use Rattle.document.specs.Text.{string_in}
use Rattle.readings.specs.Scalar.{boolean_of, digits_of, minus, positive, negative, integer_of}
use Rattle.readings.proofs.Conditions.Answers.{given_refused, refuses_same, gives_same}

-- "11 not a boolean": neither of the two words
pub data NotABoolean (text : List ℕ) : Refusal → Type 0 where
  not_boolean : (text ≡ ascii "true" → ⊥) → (text ≡ ascii "false" → ⊥) → NotABoolean text Refusal.NotBoolean

pub boolean_text_refusal : (text : List ℕ) (r : Refusal) → (boolean_of text ≡ refuses r) ↔ NotABoolean text r
unfolding boolean_of
boolean_text_refusal t r = (go (sameb t (ascii "true")) (sameb t (ascii "false")) refl refl, back)
  where
    differs : (word : List ℕ) → sameb t word ≡ false → t ≡ word → ⊥
    differs word p e = false_true {A = ⊥} (sym p ∙ (rw e (same_self word)))

    go : (a b : Bool) → sameb t (ascii "true") ≡ a → sameb t (ascii "false") ≡ b →
        pick a (gives true) (pick b (gives false) (refuses Refusal.NotBoolean)) ≡ refuses r → NotABoolean t r
    go true b p q e = given_refused e
    go false true p q e = given_refused e
    go false false p q e = subst (NotABoolean t) (refuses_same e) (not_boolean (differs (ascii "true") p) (differs (ascii "false") q))

    same : (word : List ℕ) → (t ≡ word → ⊥) → (a : Bool) → sameb t word ≡ a → a ≡ false
    same word n true p = absurd (n (same_is t word p))
    same word n false p = refl

    back : {q : Refusal} → NotABoolean t q
        → pick (sameb t (ascii "true")) (gives true) (pick (sameb t (ascii "false")) (gives false) (refuses Refusal.NotBoolean)) ≡ refuses q
    back (not_boolean m n) = rw (same (ascii "true") m _ refl, same (ascii "false") n _ refl)

-- "Integers: optional sign, one or more digits, range of 32 bits, nothing trimmed."
pub data Integer : List ℕ → ℤ → Type 0 where
  unsigned : {s : List ℕ} {n : ℕ} → digits_of s ≡ Some n → n ≤ 2 ^ 31 - 1 → Integer s (pos n)
  plus_sign : {b : ℕ} {s : List ℕ} {n : ℕ} → b ≡ 43 → digits_of s ≡ Some n → n ≤ 2 ^ 31 - 1 → Integer (b ∷ s) (pos n)
  minus_sign : {b : ℕ} {s : List ℕ} {n : ℕ} → b ≡ 45 → digits_of s ≡ Some n → n ≤ 2 ^ 31 → Integer (b ∷ s) (minus n)

abbrev is_value : Option ℕ → Bool
is_value (Some n) = true
is_value None = false

no_value : {A : Type 0} {n : ℕ} → None ≡ Some n → A
no_value e = false_true (ap is_value e)

-- a sign is no digit
sign : (b : ℕ) (s : List ℕ) {A : Type 0} {n : ℕ} → digit b ≡ 16 → digits_of (b ∷ s) ≡ Some n → A
unfolding numeral
sign b s p e = no_value (sym (rw p) ∙ e)

digit_plus : (b : ℕ) → b ≡ 43 → digit b ≡ 16
unfolding digit
digit_plus b e = rw e

digit_minus : (b : ℕ) → b ≡ 45 → digit b ≡ 16
unfolding digit
digit_minus b e = rw e

-- the range of 32 bits, without and with the sign `-`
positive_given : (x : Option ℕ) (z : ℤ) → positive x ≡ gives z → (n : ℕ) × (x ≡ Some n) × (n ≤ 2 ^ 31 - 1) × (pos n ≡ z)
positive_given None z e = given_refused (sym e)
positive_given (Some n) z e = go (leb n (2 ^ 31 - 1)) refl e
  where
    go : (t : Bool) → leb n (2 ^ 31 - 1) ≡ t → pick t (gives (pos n)) (refuses Refusal.NotInteger) ≡ gives z
        → (m : ℕ) × (Some n ≡ Some m) × (m ≤ 2 ^ 31 - 1) × (pos m ≡ z)
    go true p e = (n, refl, leb-true n (2 ^ 31 - 1) p, gives_same e)
    go false p e = given_refused (sym e)

negative_given : (x : Option ℕ) (z : ℤ) → negative x ≡ gives z → (n : ℕ) × (x ≡ Some n) × (n ≤ 2 ^ 31) × (minus n ≡ z)
negative_given None z e = given_refused (sym e)
negative_given (Some n) z e = go (leb n (2 ^ 31)) refl e
  where
    go : (t : Bool) → leb n (2 ^ 31) ≡ t → pick t (gives (minus n)) (refuses Refusal.NotInteger) ≡ gives z
        → (m : ℕ) × (Some n ≡ Some m) × (m ≤ 2 ^ 31) × (minus m ≡ z)
    go true p e = (n, refl, leb-true n (2 ^ 31) p, gives_same e)
    go false p e = given_refused (sym e)

pub integer_text_given : (text : List ℕ) (z : ℤ) → (integer_of text ≡ gives z) ↔ Integer text z
unfolding integer_of
integer_text_given t z = (there t, back)
  where
    there : (t : List ℕ) → integer_of t ≡ gives z → Integer t z
    there [] e = given_refused (sym e)
    there (b ∷ s) e = go (eqb b 43) (eqb b 45) refl refl e
      where
        go : (x y : Bool) → eqb b 43 ≡ x → eqb b 45 ≡ y
            → pick x (positive (digits_of s)) (pick y (negative (digits_of s)) (positive (digits_of (b ∷ s)))) ≡ gives z → Integer (b ∷ s) z
        go true y p q e = let w = positive_given (digits_of s) z e in
            subst (Integer (b ∷ s)) w.3 (plus_sign (eqb-true b 43 p) w.1 w.2)
        go false true p q e = let w = negative_given (digits_of s) z e in
            subst (Integer (b ∷ s)) w.3 (minus_sign (eqb-true b 45 q) w.1 w.2)
        go false false p q e = let w = positive_given (digits_of (b ∷ s)) z e in subst (Integer (b ∷ s)) w.3 (unsigned w.1 w.2)

    bare : (b : ℕ) (s : List ℕ) (n : ℕ) → digits_of (b ∷ s) ≡ Some n → n ≤ 2 ^ 31 - 1 → (x y : Bool) → eqb b 43 ≡ x → eqb b 45 ≡ y →
        pick x (positive (digits_of s)) (pick y (negative (digits_of s)) (positive (digits_of (b ∷ s)))) ≡ gives (pos n)
    bare b s n p h true y u v = sign b s (digit_plus b (eqb-true b 43 u)) p
    bare b s n p h false true u v = sign b s (digit_minus b (eqb-true b 45 v)) p
    bare b s n p h false false u v = ap positive p ∙ rw (le-leb n (2 ^ 31 - 1) h)

    back : {t : List ℕ} {z : ℤ} → Integer t z → integer_of t ≡ gives z
    back (unsigned {s = []} p h) = no_value p
    back (unsigned {s = b ∷ s} {n = n} p h) = bare b s n p h (eqb b 43) (eqb b 45) refl refl
    back (plus_sign {b = b} {s = s} {n = n} e p h) =
        ap (λ (x : Bool). pick x (positive (digits_of s)) (pick (eqb b 45) (negative (digits_of s)) (positive (digits_of (b ∷ s)))))
        (eq-eqb b 43 e) ∙ ap positive p ∙ rw (le-leb n (2 ^ 31 - 1) h)
    back (minus_sign {b = b} {s = s} {n = n} e p h) =
        ap (λ (x : ℕ). pick (eqb x 43) (positive (digits_of s)) (pick (eqb x 45) (negative (digits_of s)) (positive (digits_of (x ∷ s))))) e
        ∙ ap negative p ∙ rw (le-leb n (2 ^ 31) h)

-- "12 not an integer"
pub data NotAnInteger (text : List ℕ) : Refusal → Type 0 where
  not_integer : ((z : ℤ) → Integer text z → ⊥) → NotAnInteger text Refusal.NotInteger

pub integer_text_refusal : (text : List ℕ) (r : Refusal) → (integer_of text ≡ refuses r) ↔ NotAnInteger text r
unfolding integer_of
integer_text_refusal t r =
    (λ e. subst⁻¹ (NotAnInteger t) (twelve t e) (not_integer (λ (z : ℤ) w. given_refused (sym ((integer_text_given t z).1 w) ∙ e))), back)
  where
    bounded : (x : Bool) (z : ℤ) {q : Refusal} → pick x (gives z) (refuses Refusal.NotInteger) ≡ refuses q → q ≡ Refusal.NotInteger
    bounded true z e = given_refused e
    bounded false z e = sym (refuses_same e)

    of_positive : (x : Option ℕ) {q : Refusal} → positive x ≡ refuses q → q ≡ Refusal.NotInteger
    of_positive None e = sym (refuses_same e)
    of_positive (Some n) e = bounded (leb n (2 ^ 31 - 1)) (pos n) e

    of_negative : (x : Option ℕ) {q : Refusal} → negative x ≡ refuses q → q ≡ Refusal.NotInteger
    of_negative None e = sym (refuses_same e)
    of_negative (Some n) e = bounded (leb n (2 ^ 31)) (minus n) e

    twelve : (s : List ℕ) {q : Refusal} → integer_of s ≡ refuses q → q ≡ Refusal.NotInteger
    twelve [] e = sym (refuses_same e)
    twelve (b ∷ s) {q} e = go (eqb b 43) (eqb b 45) e
      where
        go : (x y : Bool) → pick x (positive (digits_of s)) (pick y (negative (digits_of s)) (positive (digits_of (b ∷ s)))) ≡ refuses q
            → q ≡ Refusal.NotInteger
        go true y e = of_positive (digits_of s) e
        go false true e = of_negative (digits_of s) e
        go false false e = of_positive (digits_of (b ∷ s)) e

    back : {q : Refusal} → NotAnInteger t q → integer_of t ≡ refuses q
    back (not_integer n) = go (integer_of t) refl
      where
        go : (a : Answer ℤ) → integer_of t ≡ a → integer_of t ≡ refuses Refusal.NotInteger
        go (gives z) p = absurd (n z ((integer_text_given t z).0 p))
        go (refuses q) p = subst (λ (u : Refusal). integer_of t ≡ refuses u) (twelve t p) p

-- "10 for a string"
pub data StringTooLong (room : ℕ) (text : List ℕ) : Refusal → Type 0 where
  too_long : room < length text → StringTooLong room text Refusal.NoRoom

pub string_text_refusal : (room : ℕ) (text : List ℕ) (r : Refusal) → (string_in room text ≡ refuses r) ↔ StringTooLong room text r
unfolding string_in
string_text_refusal room t r = (go (leb (length t) room) refl, back)
  where
    go : (b : Bool) → leb (length t) room ≡ b → pick b (gives t) (refuses Refusal.NoRoom) ≡ refuses r → StringTooLong room t r
    go true p e = given_refused e
    go false p e = subst (StringTooLong room t) (refuses_same e) (too_long (leb-false _ _ p))

    back : {q : Refusal} → StringTooLong room t q → pick (leb (length t) room) (gives t) (refuses Refusal.NoRoom) ≡ refuses q
    back (too_long h) = rw (lt-leb (length t) room h)
