-- Laws of booleans, integers and strings from a text.
use Prim.Native.Nat.{ℕ, zero, suc, ◌+◌, ◌-◌, ◌*◌, ◌^◌, ◌≤◌, ◌<◌}
use mathlib.Core.Path.{◌≡◌, refl, sym, ◌∙◌, ap}
use mathlib.Core.Bool.{Bool, true, false}
use mathlib.Core.List.{List, [], ◌∷◌, ◌++◌}
use native.Mathlib.Nat.{zero-add}
use native.Mathlib.Numerals.{add-one}
use native.Mathlib.Omega.{arith}
use borrow.Author.Rules.{rules}
use borrow.Author.Tests.{le-leb, lt-leb, leb-true, leb-false, lt-ltb, le-ltb, eq-eqb, ne_eqb}
use mir.Syntax.{w32}
use mir.Val.{bits, to_z, of_z, SFits}
use mir.Facts.{to_z_pos, to_z-neg, to_z-of_z}
use lib.Dec.{leb, ltb, eqb}
use lib.IntN.{ℤ, pos, negsuc, ◌-ℤ◌}
use lib.ListN.{length, get_or, drop, drop_of_length-le}
use lib.Pointwise.{pointwise}
use lib.Seq.{drop-cons, sets-eq}
use Rattle.std.specs.Prelude.{Option, Some, None, Ok, Err}
use Rattle.lists.specs.Tests.{pick, within}
use Rattle.lists.proofs.Tests.{is_within, within_is}
use Rattle.lists.specs.Bytes.{ascii, sameb}
use Rattle.lists.specs.Overwrite.{overwritten, Stored}
use Rattle.refusal.specs.declared.Refusal.{Refusal}
use Rattle.refusal.specs.Answer.{Answer, gives, refuses}
use Rattle.reference.specs.Number.{digit, numeral}
use Rattle.document.specs.Part.{CopyIs}
use Rattle.document.specs.Text.{string_in}
use Rattle.readings.specs.Scalar.{boolean_of, digits_of, positive, negative, integer_of}
use Rattle.scalar.specs.Digits.{bounded}
use Rattle.scalar.proofs.Bytes.{same_pointwise}

-- ---- a boolean
module _ (text : List ℕ) {a : List ℕ} (x : a ≡ ascii "true") {u : Bool} (e : u ≡ pointwise eqb text a) where
  is_true : u ≡ sameb text (ascii "true")
  is_true = e ∙ (same_pointwise text a ∙ ap (sameb text) x)

  pub boolean_true : u ≡ true → gives true ≡ boolean_of text
  unfolding boolean_of
  boolean_true h = rw (← is_true, h)

  module _ {b : List ℕ} (y : b ≡ ascii "false") {v : Bool} (f : v ≡ pointwise eqb text b) (h : u ≡ false) where
    is_false : v ≡ sameb text (ascii "false")
    is_false = f ∙ (same_pointwise text b ∙ ap (sameb text) y)

    pub boolean_false : v ≡ true → gives false ≡ boolean_of text
    unfolding boolean_of
    boolean_false g = rw (← is_true, h, ← is_false, g)

    pub boolean_not : v ≡ false → refuses Refusal.NotBoolean ≡ boolean_of text
    unfolding boolean_of
    boolean_not g = rw (← is_true, h, ← is_false, g)

-- ---- digits
digit_is : (b : ℕ) → 48 ≤ b → b ≤ 57 → digit b ≡ b - 48
unfolding digit
digit_is b l h = rw (is_within 48 57 b l h)

-- any other byte is none of base 10
digit_other : (b : ℕ) → within 48 57 b ≡ false → ltb (digit b) 10 ≡ false
unfolding digit
digit_other b e = rw e (go (within 65 70 b) refl)
  where
    last : (t : Bool) → within 97 102 b ≡ t → ltb (pick t (b - 87) 16) 10 ≡ false
    last true q = le-ltb (b - 87) 10 (omega (arith, (within_is 97 102 b q).0))
    last false q = refl

    go : (t : Bool) → within 65 70 b ≡ t → ltb (pick t (b - 55) (pick (within 97 102 b) (b - 87) 16)) 10 ≡ false
    go true q = le-ltb (b - 55) 10 (omega (arith, (within_is 65 70 b q).0))
    go false q = last (within 97 102 b) refl

-- a number only grows
big : (s : List ℕ) (acc : ℕ) → 2147483648 < acc → bounded (numeral 10 acc s) ≡ None
unfolding numeral
big [] acc h = rw (lt-leb acc 2147483648 h)
big (b ∷ s) acc h = go (ltb (digit b) 10) (big s (acc * 10 + digit b) (omega arith))
  where
    go : (t : Bool) → bounded (numeral 10 (acc * 10 + digit b) s) ≡ None → bounded (pick t (numeral 10 (acc * 10 + digit b) s) None) ≡ None
    go true e = e
    go false e = refl

-- the loop: the digits so far are acc, and the rest gives the whole
pub record DigitsAt (s : List ℕ) (from acc i : ℕ) : Type 0 where
  pub small : acc ≤ 2147483648
  pub rest : bounded (numeral 10 acc (drop i s)) ≡ bounded (digits_of (drop from s))

pub digits_none : (s : List ℕ) {from : ℕ} → from ≡ length s → None ≡ bounded (digits_of (drop from s))
digits_none s {from} e = rw (drop_of_length-le s {i = from} (omega arith))

pub digits_start : (s : List ℕ) {from : ℕ} → from ≤ length s → (from ≡ length s → ⊥) → DigitsAt s from 0 from
digits_start s {from} l h = go (leb (suc from) (length s)) refl
  where
    go : (b : Bool) → leb (suc from) (length s) ≡ b → DigitsAt s from 0 from
    go true q = record { small = omega arith; rest = rw (drop-cons s from 0 (leb-true (suc from) (length s) q)) }
    go false q = absurd (h (omega (arith, leb-false (suc from) (length s) q)))

module _ {s : List ℕ} {from acc i : ℕ} (w : DigitsAt s from acc i) where
  pub digits_end : length s ≤ i → Some acc ≡ bounded (digits_of (drop from s))
  unfolding numeral
  digits_end h = rw (← w.rest, drop_of_length-le s {i = i} h, le-leb acc 2147483648 w.small)

  module _ (h : i < length s) where
    step : bounded (pick (ltb (digit (get_or s i 0)) 10) (numeral 10 (acc * 10 + digit (get_or s i 0)) (drop (suc i) s)) None)
        ≡ bounded (digits_of (drop from s))
    unfolding numeral
    step = rw (drop-cons s i 0 h) at w.rest

    pub digits_low : get_or s i 0 < 48 → None ≡ bounded (digits_of (drop from s))
    digits_low l = rw (digit_other (get_or s i 0) (rw (lt-leb 48 (get_or s i 0) l))) at step

    pub digits_high : 57 < get_or s i 0 → None ≡ bounded (digits_of (drop from s))
    digits_high l = rw (digit_other (get_or s i 0) (rw (le-leb 48 (get_or s i 0) (omega arith), lt-leb (get_or s i 0) 57 l))) at step

    module _ (a : 48 ≤ get_or s i 0) (b : get_or s i 0 ≤ 57) where
      on : bounded (numeral 10 (acc * 10 + (get_or s i 0 - 48)) (drop (suc i) s)) ≡ bounded (digits_of (drop from s))
      on =
          let e = digit_is (get_or s i 0) a b in
          let d : ltb (digit (get_or s i 0)) 10 ≡ true = rw e (lt-ltb (get_or s i 0 - 48) 10 (omega arith)) in
          rw (d, e) at step

      pub digits_over : 2147483648 < acc * 10 + (get_or s i 0 - 48) → None ≡ bounded (digits_of (drop from s))
      digits_over g = sym (big (drop (suc i) s) (acc * 10 + (get_or s i 0 - 48)) g) ∙ on

      pub digits_on : acc * 10 + (get_or s i 0 - 48) ≤ 2147483648 → DigitsAt s from (acc * 10 + (get_or s i 0 - 48)) (i + 1)
      digits_on g = record { small = g; rest = rw (add-one i) on }

pub ruleset digits_laws = (rules, digits_none, digits_start, digits_end, digits_low, digits_high, digits_over, digits_on)

-- ---- the sign
module _ (x : Option ℕ) where
  pub positive_no : x ≡ None → refuses Refusal.NotInteger ≡ positive x
  positive_no e = rw e

  pub negative_no : x ≡ None → refuses Refusal.NotInteger ≡ negative x
  negative_no e = rw e

  module _ {n : ℕ} (e : x ≡ Some n) where
    pub positive_is : n ≤ 2147483647 → gives (to_z w32 n) ≡ positive x
    positive_is h = rw (e, le-leb n 2147483647 h, to_z_pos w32 {n = n} (omega arith))

    pub positive_over : 2147483647 < n → refuses Refusal.NotInteger ≡ positive x
    positive_over h = rw (e, lt-leb n 2147483647 h)

    pub negative_zero : n ≡ 0 → gives (pos 0) ≡ negative x
    negative_zero z = rw (e, z)

    pub negative_over : 2147483648 < n → refuses Refusal.NotInteger ≡ negative x
    negative_over h = rw (e, lt-leb n 2147483648 h)

-- -1 - (n - 1)
abbrev less_one : ℕ → ℤ
less_one n = to_z w32 (2 ^ bits w32 - 1) -ℤ to_z w32 (n - 1)

less_one_lem : (k : ℕ) → k < 2147483648 → less_one (suc k) ≡ negsuc k
less_one_lem k h =
    let a : to_z w32 (2 ^ bits w32 - 1) ≡ negsuc 0 = to_z-neg w32 0 (omega arith) in
    let e : suc k - 1 ≡ k = omega arith in
    let b : to_z w32 k ≡ pos k = to_z_pos w32 {n = k} h in
    rw (a, e, b) (negate k)
  where
    negate : (k : ℕ) → negsuc 0 -ℤ pos k ≡ negsuc k
    negate zero = refl
    negate (suc k) = ap (λ n. negsuc (suc n)) (zero-add k)

pub less_fits : {n : ℕ} → (n ≡ 0 → ⊥) → n ≤ 2147483648 → SFits w32 (less_one n)
less_fits {n = zero} z h = absurd (z refl)
less_fits {n = suc k} z h = rw (less_one_lem k (omega arith)) (record { sfits = omega arith })

pub negative_is : (x : Option ℕ) {n : ℕ} → x ≡ Some n → (n ≡ 0 → ⊥) → n ≤ 2147483648
    → gives (to_z w32 (of_z w32 (less_one n))) ≡ negative x
negative_is x {n = zero} e z h = absurd (z refl)
negative_is x {n = suc k} e z h =
    let a = to_z-of_z {w = w32} {z = less_one (suc k)} (less_fits z h) ∙ less_one_lem k (omega arith) in
    rw (e, le-leb (suc k) 2147483648 h, a)

pub ruleset sign_laws = (rules, positive_is, positive_over, positive_no, negative_zero, negative_over, negative_no, less_fits, negative_is)

-- ---- an integer: a number out of every range is refused with any sign
unbounded : (f : Option ℕ → Answer ℤ) → ((n : ℕ) → 2147483648 < n → f None ≡ f (Some n)) → (x : Option ℕ) → f (bounded x) ≡ f x
unbounded f over None = refl
unbounded f over (Some n) = go (leb n 2147483648) refl
  where
    go : (t : Bool) → leb n 2147483648 ≡ t → f (pick t (Some n) None) ≡ f (Some n)
    go true q = refl
    go false q = over n (leb-false n 2147483648 q)

positive_bounded : (x : Option ℕ) → positive (bounded x) ≡ positive x
positive_bounded = unbounded positive (λ n h. rw (lt-leb n 2147483647 (omega arith)))

negative_bounded : (x : Option ℕ) → negative (bounded x) ≡ negative x
negative_bounded = unbounded negative (λ n h. rw (lt-leb n 2147483648 h))

pub integer_none : (s : List ℕ) → length s ≡ 0 → refuses Refusal.NotInteger ≡ integer_of s
unfolding integer_of
integer_none [] e = refl
integer_none (b ∷ s) e = absurd (omega (arith, e))

module _ (s : List ℕ) (h : (length s ≡ 0 → ⊥)) where
  -- by its first byte
  signed : integer_of s
      ≡ pick (eqb (get_or s 0 0) 43) (positive (digits_of (drop 1 s)))
      (pick (eqb (get_or s 0 0) 45) (negative (digits_of (drop 1 s))) (positive (digits_of (drop 0 s))))
  unfolding integer_of
  signed = go s h
    where
      go : (s : List ℕ) → (length s ≡ 0 → ⊥) → integer_of s
          ≡ pick (eqb (get_or s 0 0) 43) (positive (digits_of (drop 1 s)))
          (pick (eqb (get_or s 0 0) 45) (negative (digits_of (drop 1 s))) (positive (digits_of (drop 0 s))))
      go [] h = absurd (h refl)
      go (b ∷ s) h = refl

  module _ {x : Option ℕ} {a : Answer ℤ} where
    pub integer_plus : get_or s 0 0 ≡ 43 → x ≡ bounded (digits_of (drop 1 s)) → a ≡ positive x → a ≡ integer_of s
    integer_plus e q p = rw (signed, eq-eqb (get_or s 0 0) 43 e) (p ∙ rw q (positive_bounded (digits_of (drop 1 s))))

    module _ (n : (get_or s 0 0 ≡ 43 → ⊥)) where
      pub integer_minus : get_or s 0 0 ≡ 45 → x ≡ bounded (digits_of (drop 1 s)) → a ≡ negative x → a ≡ integer_of s
      integer_minus e q p =
          rw (signed, ne_eqb (get_or s 0 0) 43 n, eq-eqb (get_or s 0 0) 45 e) (p ∙ rw q (negative_bounded (digits_of (drop 1 s))))

      pub integer_plain : (get_or s 0 0 ≡ 45 → ⊥) → x ≡ bounded (digits_of (drop 0 s)) → a ≡ positive x → a ≡ integer_of s
      integer_plain m q p =
          rw (signed, ne_eqb (get_or s 0 0) 43 n, ne_eqb (get_or s 0 0) 45 m) (p ∙ rw q (positive_bounded (digits_of (drop 0 s))))

pub ruleset integer_laws = (rules, integer_none, integer_plus, integer_minus, integer_plain)

-- ---- a string
module _ (text : List ℕ) {old : List ℕ} where
  pub string_put : {new : List ℕ} {n : ℕ} → length text ≤ length old → Stored old new 0 text n
      → CopyIs (string_in (length old) text) old new (Ok n)
  unfolding string_in overwritten
  string_put {new} {n} h s =
      let e : new ≡ text ++ drop (length text) old = s.is ∙ rw zero-add at (sets-eq text old 0 (omega arith)) in
      let m : n ≡ length text = omega (arith, s.next) in
      record { number = rw (le-leb (length text) (length old) h, m); buffer = rw (le-leb (length text) (length old) h) e }

  pub string_none : length old < length text → CopyIs (string_in (length old) text) old old (Err Refusal.NoRoom)
  unfolding string_in
  string_none h = record { number = rw (lt-leb (length text) (length old) h); buffer = rw (lt-leb (length text) (length old) h) }
