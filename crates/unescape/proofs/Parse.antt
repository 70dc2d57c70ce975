-- Laws of the functions that read one reference: one for each way through a turn of a loop and each way out, at `drop i`.
use Prim.Native.Nat.{ℕ, zero, suc, ◌+◌, ◌-◌, ◌*◌, ◌/◌, ◌%◌, ◌^◌, ◌≤◌, ◌<◌}
use mathlib.Core.Path.{◌≡◌, refl, sym, ◌∙◌, ap}
use mathlib.Core.Bool.{Bool, true, false, ◌&&◌}
use mathlib.Core.List.{List, [], ◌∷◌, ◌++◌}
use native.Mathlib.Nat.{mul-le-mul_left, zero-add, add-zero}
use native.Mathlib.Numerals.{add-one}
use native.Mathlib.Omega.{arith}
use borrow.Author.Tests.{le-leb, lt-leb, le-ltb, lt-ltb, eqb-true, eqb-false, eq-eqb, ne_eqb}
use borrow.Author.Rules.{rules}
use mir.Val.{Fits}
use mir.Syntax.{w8, w64}
use lib.Dec.{ltb, leb, eqb}
use lib.ListN.{length, get_or, drop, take, drop_of_length-le, length-take}
use lib.Seq.{drop-cons}
use Rattle.lists.specs.Tests.{pick}
use Rattle.lists.proofs.Tests.{pick_same, pick_all, false_true, flags}
use Rattle.lists.specs.Bytes.{ascii, sameb}
use Rattle.lists.proofs.Bytes.{same_is}
use Rattle.lists.proofs.Parts.{get_d_in}
use Rattle.reference.proofs.Grammar.{Clean, clean_none, clean_byte}
use Rattle.reference.specs.Number.{digit, numeral, limited, digits, plus_digits}
use Rattle.reference.specs.Entity.{named, numeric, only, first, reader, allowed, char_of}
use Rattle.reference.specs.Text.{span, sized, reference}
use Rattle.reference.specs.declared.Reference.{Reference}
use Rattle.std.specs.List.{starts_with}
use Rattle.std.proofs.Common.{nat_eq}
use Rattle.unescape.specs.Parse.{spelt, PastSign, only_ref, begins, some_char, named_ref, packed, name_value}
use Rattle.std.specs.Prelude.{Option, None, Some}

-- ---- an entity that is read by f, up to its `;`, where n bytes of the reference stand before it
pub reference_spelt : (strict : Bool) (s : List ℕ) → reference strict s ≡ spelt (char_of strict) 0 s
unfolding reference spelt
reference_spelt strict s = rw zero-add

-- by another reader that reads the same there
spelt_same : (f g : List ℕ → Option ℕ) (n : ℕ) (s : List ℕ) → f (take (span s) s) ≡ g (take (span s) s) → spelt f n s ≡ spelt g n s
unfolding spelt
spelt_same f g n s e = rw e

spelt_no : (f : List ℕ → Option ℕ) (n : ℕ) (s : List ℕ) → f (take (span s) s) ≡ None → spelt f n s ≡ None
unfolding spelt sized
spelt_no f n s e = rw (e, pick_same)

-- a byte of the entity is passed
spelt_byte : (f g : List ℕ → Option ℕ) (n b : ℕ) (u : List ℕ) → (b ≡ 59 → ⊥) → (b ≡ 38 → ⊥) → f (b ∷ take (span u) u) ≡ g (take (span u) u)
    → spelt f n (b ∷ u) ≡ spelt g (n + 1) u
unfolding spelt span
spelt_byte f g n b u h k e =
    let q : n + suc (span u) + 1 ≡ n + 1 + span u + 1 = omega arith in
    rw (ne_eqb b 59 h, ne_eqb b 38 k, e, q)

module _ (f : List ℕ → Option ℕ) (n : ℕ) (t : List ℕ) (i : ℕ) where
  spelt_at : (g : List ℕ → Option ℕ) → i < length t → (get_or t i 0 ≡ 59 → ⊥) → (get_or t i 0 ≡ 38 → ⊥)
      → f (get_or t i 0 ∷ take (span (drop (i + 1) t)) (drop (i + 1) t)) ≡ g (take (span (drop (i + 1) t)) (drop (i + 1) t))
      → spelt f n (drop i t) ≡ spelt g (n + 1) (drop (i + 1) t)
  spelt_at g h p q e =
      let k = rw (add-one i) at e in
      rw (add-one i, drop-cons t i 0) (spelt_byte f g n (get_or t i 0) (drop (suc i) t) p q k)

  spelt_semi : i < length t → get_or t i 0 ≡ 59 → spelt f n (drop i t) ≡ sized (n + 1) (f [])
  unfolding spelt span
  spelt_semi h e = rw (drop-cons t i 0, e, add-zero)

  spelt_amp : i < length t → get_or t i 0 ≡ 38 → spelt f n (drop i t) ≡ None
  unfolding spelt span
  spelt_amp h e = rw (drop-cons t i 0, e)

  spelt_end : length t ≤ i → spelt f n (drop i t) ≡ None
  unfolding spelt span
  spelt_end h = rw (drop_of_length-le t)

-- ---- a numeral
-- a number that has passed 32 bits stays so
number_big : (base acc : ℕ) (s : List ℕ) → 1 ≤ base → 2 ^ 32 ≤ acc → limited (numeral base acc s) ≡ None
unfolding numeral limited
number_big base acc [] hb h = rw (le-ltb acc (2 ^ 32) h)
number_big base acc (b ∷ s) hb h =
    either (ltb (digit b) base) (numeral base (acc * base + digit b) s)
    (number_big base (acc * base + digit b) s hb (omega (arith, mul-le-mul_left acc hb)))
  where
    either : (t : Bool) (x : Option ℕ) → limited x ≡ None → limited (pick t x None) ≡ None
    either true x e = e
    either false x e = refl

-- the rest of a numeral of which k digits have come to acc
unfoldable pub more : ℕ → ℕ → ℕ → List ℕ → Option ℕ
more base acc k s = pick (leb 1 (k + length s)) (limited (numeral base acc s)) None

more_digit : (base acc k b d : ℕ) (s : List ℕ) → d ≡ digit b → d < base → more base acc k (b ∷ s) ≡ more base (acc * base + d) (k + 1) s
unfolding more numeral
more_digit base acc k b d s e h =
    rw (← e, lt-ltb d base h, le-leb 1 (k + suc (length s)) (omega arith), le-leb 1 (k + 1 + length s) (omega arith))

more_bad : (base acc k b d : ℕ) (s : List ℕ) → d ≡ digit b → base ≤ d → more base acc k (b ∷ s) ≡ None
unfolding more numeral limited
more_bad base acc k b d s e h = rw (← e, le-ltb d base h, pick_same)

more_over : (base acc k : ℕ) (s : List ℕ) → 1 ≤ base → 2 ^ 32 ≤ acc → more base acc k s ≡ None
unfolding more
more_over base acc k s hb h = rw (number_big base acc s hb h, pick_same)

-- a digit is no `;` and no `&`
no_digit : (base b d x : ℕ) → base ≤ 16 → d ≡ digit b → d < base → digit x ≡ 16 → b ≡ x → ⊥
no_digit base b d x hb e h k q = omega (arith, k, rw q at e)

-- where the digits from start up to i have come to acc; the reference begins at from
pub record DigitsAt (base : ℕ) (t : List ℕ) (from start acc i : ℕ) : Type 0 where
  pub first : from ≤ start
  pub low : start ≤ i
  pub within : i ≤ length t
  pub small : acc < 2 ^ 32
  pub rest : spelt (digits base) (start - from) (drop start t) ≡ spelt (more base acc (i - start)) (i - from) (drop i t)

pub digits_start : (base : ℕ) (t : List ℕ) (from start : ℕ) → from ≤ start → start ≤ length t → DigitsAt base t from start 0 start
unfolding digits more
digits_start base t from start g h =
    let z : start - start ≡ 0 = omega arith in
    let e = spelt_same (digits base) (more base 0 0) (start - from) (drop start t) (rw zero-add) in
    record { first = g; low = omega arith; within = h; small = omega arith; rest = rw z e }

module _ {base : ℕ} {t : List ℕ} {from start acc i : ℕ} (at : DigitsAt base t from start acc i) where
  module _ {d : ℕ} (h : i < length t) (hb : base ≤ 16) (e : d ≡ digit (get_or t i 0)) (l : d < base) where
    digits_pass : spelt (digits base) (start - from) (drop start t) ≡ spelt (more base (acc * base + d) (i + 1 - start)) (i + 1 - from)
        (drop (i + 1) t)
    unfolding digit
    digits_pass =
        let k : i - start + 1 ≡ i + 1 - start = omega (arith, at.low) in
        let m : i - from + 1 ≡ i + 1 - from = omega (arith, at.low, at.first) in
        let s = drop (i + 1) t in
        let x =
        spelt_at (more base acc (i - start)) (i - from) t i (more base (acc * base + d) (i - start + 1)) h
        (no_digit base _ d 59 hb e l refl) (no_digit base _ d 38 hb e l refl)
        (more_digit base acc (i - start) (get_or t i 0) d (take (span s) s) e l) in
        at.rest ∙ (rw (k, m) at x)

    pub digits_turn : acc * base + d ≤ 0xFFFFFFFF → DigitsAt base t from start (acc * base + d) (i + 1)
    digits_turn s = record {
      first = at.first;
      low = omega (arith, at.low);
      within = omega arith;
      small = omega arith;
      rest = digits_pass;
    }

    pub digits_over : 1 ≤ base → 2 ^ 32 ≤ acc * base + d → None ≡ spelt (digits base) (start - from) (drop start t)
    digits_over b s = sym (digits_pass
        ∙ spelt_no (more base (acc * base + d) (i + 1 - start)) (i + 1 - from) (drop (i + 1) t) (more_over base _ _ _ b s))

  pub digits_value : i < length t → get_or t i 0 ≡ 59 → (i ≡ start → ⊥)
      → some_char acc (i - from + 1) ≡ spelt (digits base) (start - from) (drop start t)
  unfolding more numeral limited sized
  digits_value h e n =
      let k : 1 ≤ i - start + 0 = omega (arith, at.low) in
      sym (at.rest ∙ spelt_semi (more base acc (i - start)) (i - from) t i h e
      ∙ rw (le-leb 1 (i - start + 0) k, lt-ltb acc (2 ^ 32) at.small))

  pub digits_none : i < length t → get_or t i 0 ≡ 59 → i ≡ start → None ≡ spelt (digits base) (start - from) (drop start t)
  unfolding more sized
  digits_none h e n =
      sym (at.rest ∙ spelt_semi (more base acc (i - start)) (i - from) t i h e ∙ rw (lt-leb 1 (i - start + 0) (omega arith)))

  pub digits_bad : {d : ℕ} → i < length t → d ≡ digit (get_or t i 0) → base ≤ d → (get_or t i 0 ≡ 59 → ⊥)
      → None ≡ spelt (digits base) (start - from) (drop start t)
  digits_bad {d} h e l n = sym (at.rest ∙ go (eqb (get_or t i 0) 38) refl)
    where
      go : (v : Bool) → eqb (get_or t i 0) 38 ≡ v → spelt (more base acc (i - start)) (i - from) (drop i t) ≡ None
      go true q = spelt_amp (more base acc (i - start)) (i - from) t i h (eqb-true _ _ q)
      go false q =
          spelt_at (more base acc (i - start)) (i - from) t i (λ e. None) h n (eqb-false _ _ q)
          (more_bad base acc (i - start) (get_or t i 0) d _ e l)
          ∙ spelt_no (λ e. None) (i - from + 1) (drop (i + 1) t) refl

  pub digits_end : length t ≤ i → None ≡ spelt (digits base) (start - from) (drop start t)
  digits_end h = sym (at.rest ∙ spelt_end (more base acc (i - start)) (i - from) t i h)

pub scaled : (acc base : ℕ) → acc < 2 ^ 32 → base ≤ 16 → acc * base < 2 ^ 36
scaled acc base h hb = omega (arith, mul-le-mul_left acc hb)

-- the sums of a turn fit a `u64`
pub digits_mul : (acc base : ℕ) → acc < 2 ^ 32 → base ≤ 16 → Fits w64 (acc * base)
digits_mul acc base h hb = record { fits = omega (arith, scaled acc base h hb) }

pub digits_add : (acc base d : ℕ) → acc < 2 ^ 32 → base ≤ 16 → d < base → Fits w64 (acc * base + d)
digits_add acc base d h hb l = record { fits = omega (arith, scaled acc base h hb) }

pub ruleset digits_laws = (
  rules,
  digits_mul,
  digits_add,
  digits_start,
  digits_turn,
  digits_over,
  digits_value,
  digits_none,
  digits_bad,
  digits_end,
)

-- ---- past a sign
-- what a list does not begin with, its front does not
not_front : (n v : ℕ) (s : List ℕ) → (get_or s 0 0 ≡ suc v → ⊥) → get_or (take n s) 0 0 ≡ suc v → ⊥
not_front zero v s h e = omega arith
not_front (suc n) v [] h e = omega arith
not_front (suc n) v (b ∷ s) h e = h e

module _ (strict : Bool) (t : List ℕ) (start : ℕ) where
  sign_none : start ≤ length t → ((base : ℕ) (e : List ℕ) → e ≡ take (span (drop start t)) (drop start t)
      → reader strict base e ≡ digits base e) → PastSign strict t start start
  sign_none h e =
      let z : start - start ≡ 0 = omega arith in
      record {
        low = omega arith;
        high = h;
        same = λ base n. rw (z, add-zero) (spelt_same (reader strict base) (digits base) n (drop start t) (e base _ refl));
      }

  pub sign_strict : strict ≡ true → start ≤ length t → PastSign strict t start start
  unfolding reader
  sign_strict q h = sign_none h (λ base e p. rw q)

  pub sign_end : strict ≡ false → start ≡ length t → PastSign strict t start start
  unfolding reader plus_digits span
  sign_end q h =
      let l : length t ≤ start = omega arith in
      sign_none (omega arith) (λ base e p. rw (q, p, drop_of_length-le t))

  pub sign_other : strict ≡ false → start ≤ length t → (start ≡ length t → ⊥) → (get_or t start 0 ≡ 43 → ⊥) → PastSign strict t start start
  unfolding reader plus_digits
  sign_other q g f n =
      let h : start < length t = omega arith in
      let m : get_or (drop start t) 0 0 ≡ 43 → ⊥ = λ x. n (rw (drop-cons t start 0) at x) in
      sign_none (omega arith) (λ base e p. rw
      (q, ne_eqb (get_or e 0 0) 43 (λ x. not_front (span (drop start t)) 42 (drop start t) m (rw p at x))))

  pub sign_plus : strict ≡ false → start ≤ length t → (start ≡ length t → ⊥) → get_or t start 0 ≡ 43 → PastSign strict t start (start + 1)
  unfolding reader plus_digits
  sign_plus q g f e =
      let h : start < length t = omega arith in
      let z : start + 1 - start ≡ 1 = omega arith in
      record {
        low = omega arith;
        high = omega arith;
        same = λ base n. rw z (spelt_at (reader strict base) n t start (digits base) h (λ x. omega (arith, x, e)) (λ x. omega (arith, x, e))
            (rw (q, e)));
      }

pub ruleset sign_laws = (rules, sign_strict, sign_end, sign_other, sign_plus)

-- ---- the number of an entity that begins with `#`
module _ (strict : Bool) (t : List ℕ) (from : ℕ) (hash : get_or t from 0 ≡ 35) (some : from < length t) where
  -- after the `#`
  after : List ℕ → Option ℕ
  after e = pick (eqb (get_or e 0 0) 120) (reader strict 16 (drop 1 e)) (reader strict 10 e)

  past_hash : spelt (numeric (reader strict)) 0 (drop from t) ≡ spelt after 1 (drop (from + 1) t)
  unfolding numeric after
  past_hash = spelt_at (numeric (reader strict)) 0 t from after some (λ x. omega (arith, x, hash)) (λ x. omega (arith, x, hash)) (rw hash)

  pub numeric_end : from + 1 ≡ length t → None ≡ spelt (numeric (reader strict)) 0 (drop from t)
  numeric_end h = sym (past_hash ∙ spelt_end after 1 t (from + 1) (omega arith))

  pub numeric_hex : {s : ℕ} {r : Option Reference} → (from + 1 ≡ length t → ⊥) → get_or t (from + 1) 0 ≡ 120
      → PastSign strict t (from + 2) s
      → r ≡ spelt (digits 16) (s - from) (drop s t) → r ≡ spelt (numeric (reader strict)) 0 (drop from t)
  unfolding after
  numeric_hex {s} g e p q =
      let h : from + 1 < length t = omega arith in
      let k : from + 1 + 1 ≡ from + 2 = omega arith in
      let m : 2 + (s - (from + 2)) ≡ s - from = omega (arith, p.low) in
      let x = spelt_at after 1 t (from + 1) (reader strict 16) h (λ x. omega (arith, x, e)) (λ x. omega (arith, x, e)) (rw e) in
      q ∙ sym (past_hash ∙ (rw k at x) ∙ (rw m at (p.same 16 2)))

  pub numeric_decimal : {s : ℕ} {r : Option Reference} → (from + 1 ≡ length t → ⊥) → (get_or t (from + 1) 0 ≡ 120 → ⊥)
      → PastSign strict t (from + 1) s
      → r ≡ spelt (digits 10) (s - from) (drop s t) → r ≡ spelt (numeric (reader strict)) 0 (drop from t)
  unfolding after
  numeric_decimal {s} g e p q =
      let h : from + 1 < length t = omega arith in
      let u = drop (from + 1) t in
      let n : get_or u 0 0 ≡ 120 → ⊥ = λ x. e (rw (drop-cons t (from + 1) 0) at x) in
      let m : 1 + (s - (from + 1)) ≡ s - from = omega (arith, p.low) in
      let x = spelt_same after (reader strict 10) 1 u (rw (ne_eqb _ 120 (not_front (span u) 119 u n))) in
      q ∙ sym (past_hash ∙ x ∙ (rw m at (p.same 10 1)))

pub ruleset numeric_laws = (rules, numeric_end, numeric_hex, numeric_decimal)

-- ---- only the codes that are allowed
spelt_only : (f : ℕ → Bool) (g : List ℕ → Option ℕ) (n : ℕ) (s : List ℕ) → spelt (λ e. only f (g e)) n s ≡ only_ref f (spelt g n s)
unfolding spelt sized only only_ref
spelt_only f g n s = go (eqb (get_or s (span s) 0) 59) (g (take (span s) s)) (n + span s + 1)
  where
    one : (c m : ℕ) (t : Bool) → f c ≡ t → sized m (only f (Some c)) ≡ only_ref f (sized m (Some c))
    one c m true e = rw e
    one c m false e = rw e

    go : (t : Bool) (x : Option ℕ) (m : ℕ) → pick t (sized m (only f x)) None ≡ only_ref f (pick t (sized m x) None)
    go true (Some c) m = one c m (f c) refl
    go true None m = refl
    go false x m = refl

module _ (f : ℕ → Bool) {x : Option Reference} where
  pub only_yes : {y : Reference} {t : Bool} → x ≡ Some y → t ≡ f y.code → t ≡ true → Some y ≡ only_ref f x
  unfolding only_ref
  only_yes e q h = rw (e, ← q, h)

  pub only_no : {y : Reference} {t : Bool} → x ≡ Some y → t ≡ f y.code → t ≡ false → None ≡ only_ref f x
  unfolding only_ref
  only_no e q h = rw (e, ← q, h)

  pub only_bad : x ≡ None → None ≡ only_ref f x
  unfolding only_ref
  only_bad e = rw e

pub ruleset only_laws = (rules, only_yes, only_no, only_bad)

-- ---- names
-- std's word for a slice that begins with another
pub starts_begins : (s name : List ℕ) → starts_with nat_eq s name ≡ begins name s
unfolding begins
starts_begins s [] = refl
starts_begins [] (x ∷ n) = refl
starts_begins (b ∷ s) (x ∷ n) = go (eqb b x) refl (starts_begins s n)
  where
    go : (u : Bool) {v w : Bool} → eqb b x ≡ u → v ≡ w → (eqb x b && v) ≡ pick u w false
    go true e q = rw (eq-eqb x b (sym (eqb-true b x e))) q
    go false e q = rw (ne_eqb x b (λ p. eqb-false b x e (sym p)))

pub starts_yes : (name s : List ℕ) {t : Bool} → t ≡ starts_with nat_eq s name → t ≡ true → begins name s ≡ true
starts_yes name s e h = sym (starts_begins s name) ∙ sym e ∙ h

pub starts_no : (name s : List ℕ) {t : Bool} → t ≡ starts_with nat_eq s name → t ≡ false → begins name s ≡ false
starts_no name s e h = sym (starts_begins s name) ∙ sym e ∙ h

pub ruleset starts_laws = (flags, starts_yes, starts_no)

cleanb : List ℕ → Bool
cleanb [] = true
cleanb (b ∷ s) = pick (eqb b 59) false (pick (eqb b 38) false (cleanb s))

clean_test : (s : List ℕ) → cleanb s ≡ true → Clean s
unfolding cleanb
clean_test [] e = clean_none
clean_test (b ∷ s) e = go (eqb b 59) (eqb b 38) refl refl e (clean_test s)
  where
    go : (t u : Bool) → eqb b 59 ≡ t → eqb b 38 ≡ u → pick t false (pick u false (cleanb s)) ≡ true → (cleanb s ≡ true → Clean s)
        → Clean (b ∷ s)
    go true u p q e ih = false_true e
    go false true p q e ih = false_true e
    go false false p q e ih = clean_byte (eqb-false b 59 p) (eqb-false b 38 q) (ih e)

-- the entity of the list is a name
is_named_lem : List ℕ → List ℕ → Bool
is_named_lem name s = pick (eqb (get_or s (span s) 0) 59) (sameb (take (span s) s) name) false

begins_is : {name : List ℕ} → Clean name → (s : List ℕ) → begins (name ++ (59 ∷ [])) s ≡ is_named_lem name s
unfolding begins is_named_lem span sameb
begins_is clean_none [] = refl
begins_is clean_none (b ∷ s) = go (eqb b 59) (eqb b 38) refl
  where
    go : (t u : Bool) → eqb b 59 ≡ t
        → pick t true false ≡ pick (eqb (get_or (b ∷ s) (pick t 0 (pick u 0 (suc (span s)))) 0) 59)
        (sameb (take (pick t 0 (pick u 0 (suc (span s)))) (b ∷ s)) []) false
    go true u p = rw p
    go false true p = rw p
    go false false p = rw pick_same
begins_is (clean_byte {b = x} {s = n} h k c) [] = refl
begins_is (clean_byte {b = x} {s = n} h k c) (b ∷ s) = go (eqb b x) refl (begins_is c s)
  where
    other : (t u : Bool) → eqb b 59 ≡ t → eqb b x ≡ false
        → false ≡ pick (eqb (get_or (b ∷ s) (pick t 0 (pick u 0 (suc (span s)))) 0) 59)
        (sameb (take (pick t 0 (pick u 0 (suc (span s)))) (b ∷ s)) (x ∷ n)) false
    other true u p e = rw p
    other false true p e = rw p
    other false false p e = rw (e, pick_same)

    go : (t : Bool) → eqb b x ≡ t → begins (n ++ (59 ∷ [])) s ≡ is_named_lem n s
        → pick t (begins (n ++ (59 ∷ [])) s) false ≡ is_named_lem (x ∷ n) (b ∷ s)
    go true e ih =
        let q : b ≡ x = eqb-true b x e in
        rw (ne_eqb b 59 (λ z. h (sym q ∙ z)), ne_eqb b 38 (λ z. k (sym q ∙ z)), e) ih
    go false e ih = other (eqb b 59) (eqb b 38) refl e

pub named_spelt : (s : List ℕ) → named_ref s ≡ spelt named 0 s
unfolding named_ref spelt named cleanb sized is_named_lem
named_spelt s =
    let a = begins_is (clean_test (ascii "lt") refl) s in
    let b = begins_is (clean_test (ascii "gt") refl) s in
    let c = begins_is (clean_test (ascii "amp") refl) s in
    let d = begins_is (clean_test (ascii "quot") refl) s in
    let e = begins_is (clean_test (ascii "apos") refl) s in
    rw (a, b, c, d, e, zero-add) (go (eqb (get_or s (span s) 0) 59) refl)
  where
    e : List ℕ
    e = take (span s) s

    go : (t : Bool) → eqb (get_or s (span s) 0) 59 ≡ t
        → pick (pick t (sameb e (ascii "lt")) false) (some_char 60 3)
        (pick (pick t (sameb e (ascii "gt")) false) (some_char 62 3)
        (pick (pick t (sameb e (ascii "amp")) false) (some_char 38 4)
        (pick (pick t (sameb e (ascii "quot")) false) (some_char 34 5)
        (pick (pick t (sameb e (ascii "apos")) false) (some_char 39 5)
        None))))
        ≡ pick t (sized (span s + 1) (named e)) None
    go false q = refl
    go true q = one (ascii "lt") 60 _ _
        (one (ascii "gt") 62 _ _ (one (ascii "amp") 38 _ _ (one (ascii "quot") 34 _ _ (one (ascii "apos") 39 _ _ refl))))
      where
        one : (name : List ℕ) (c : ℕ) (x : Option ℕ) (r : Option Reference) → r ≡ sized (span s + 1) x
            → pick (sameb e name) (some_char c (length name + 1)) r ≡ sized (span s + 1) (pick (sameb e name) (Some c) x)
        one name c x r h = pass (sameb e name) refl
          where
            pass : (t : Bool) → sameb e name ≡ t → pick t (some_char c (length name + 1)) r ≡ sized (span s + 1) (pick t (Some c) x)
            pass true p =
                let l : span s ≡ length name =
                omega (arith, get_d_in s (span s) 58 (eqb-true _ _ q), length-take (span s) s, ap length (same_is e name p)) in
                rw l
            pass false p = h

-- ---- names by their bytes: a character c and a length n as one number, or 0
two_eqb : (b m x n : ℕ) → b < 256 → x < 256 → eqb (b + 256 * m) (x + 256 * n) ≡ pick (eqb b x) (eqb m n) false
two_eqb b m x n g h = go (eqb b x) (eqb m n) refl refl
  where
    go : (t u : Bool) → eqb b x ≡ t → eqb m n ≡ u → eqb (b + 256 * m) (x + 256 * n) ≡ pick t u false
    go true true p q = eq-eqb (b + 256 * m) (x + 256 * n) (rw (eqb-true b x p, eqb-true m n q))
    go true false p q = ne_eqb (b + 256 * m) (x + 256 * n) (λ e. eqb-false m n q (omega (arith, eqb-true b x p)))
    go false u p q = ne_eqb (b + 256 * m) (x + 256 * n) (λ e. eqb-false b x p (omega arith))

pick_test : (t : Bool) → t ≡ pick t true false
pick_test true = refl
pick_test false = refl

module _ (a b c d e : ℕ) (u : List ℕ) (ha : a < 256) (hb : b < 256) (hc : c < 256) (hd : d < 256) where
  -- the first three bytes, then what follows them
  three_eqb : (x y z : ℕ) (n : List ℕ) (t : Bool) → x < 256 → y < 256 → t ≡ begins n (d ∷ e ∷ u)
      → pick (eqb (a + 256 * (b + 256 * c)) (x + 256 * (y + 256 * z))) t false ≡ begins (x ∷ y ∷ z ∷ n) (a ∷ b ∷ c ∷ d ∷ e ∷ u)
  unfolding begins
  three_eqb x y z n t hx hy q =
      rw (two_eqb a (b + 256 * c) x (y + 256 * z) ha hx, two_eqb b c y z hb hy, ← q) (shift (eqb a x) (eqb b y) (eqb c z))
    where
      shift : (f g h : Bool) → pick (pick f (pick g h false) false) t false ≡ pick f (pick g (pick h t false) false) false
      shift true true h = refl
      shift true false h = refl
      shift false g h = refl

  next : (t v : Bool) (w c n x : ℕ) (r : Option Reference) → t ≡ v → w ≡ c + 256 * n → x ≡ packed r
      → pick t w x ≡ packed (pick v (some_char c n) r)
  unfolding packed
  next t true w c n x r p q h = rw (p, q)
  next t false w c n x r p q h = rw p h

  name_list : name_value (a + 256 * (b + 256 * c)) d (d + 256 * e) ≡ packed (named_ref (a ∷ b ∷ c ∷ d ∷ e ∷ u))
  unfolding name_value named_ref begins packed
  name_list =
      let w = a + 256 * (b + 256 * c) in
      next (eqb w 3896428) _ _ 60 3 _ _ (pick_test (eqb w 3896428) ∙ three_eqb 108 116 59 [] true (omega arith) (omega arith) refl) refl
      (next (eqb w 3896423) _ _ 62 3 _ _ (pick_test (eqb w 3896423) ∙ three_eqb 103 116 59 [] true (omega arith) (omega arith) refl) refl
      (next (pick (eqb w 7368033) (eqb d 59) false) _ _ 38 4 _ _
      (three_eqb 97 109 112 (59 ∷ []) (eqb d 59) (omega arith) (omega arith) (pick_test (eqb d 59))) refl
      (next (pick (eqb w 7304561) (eqb (d + 256 * e) 15220) false) _ _ 34 5 _ _
      (three_eqb 113 117 111 (116 ∷ 59 ∷ []) _ (omega arith) (omega arith) (last 116 (omega arith))) refl
      (next (pick (eqb w 7303265) (eqb (d + 256 * e) 15219) false) _ _ 39 5 _ _
      (three_eqb 97 112 111 (115 ∷ 59 ∷ []) _ (omega arith) (omega arith) (last 115 (omega arith))) refl refl))))
    where
      last : (x : ℕ) → x < 256 → eqb (d + 256 * e) (x + 256 * 59) ≡ begins (x ∷ 59 ∷ []) (d ∷ e ∷ u)
      last x h = two_eqb d e x 59 hd h ∙ ap (λ (t : Bool). pick (eqb d x) t false) (pick_test (eqb e 59))

-- the bytes from a place on
five : (t : List ℕ) (i : ℕ) → 5 ≤ length t - i
    → drop i t ≡ get_or t i 0 ∷ get_or t (i + 1) 0 ∷ get_or t (i + 2) 0 ∷ get_or t (i + 3) 0 ∷ get_or t (i + 4) 0 ∷ drop (i + 5) t
five t i h =
    next i (omega arith)
    ∙ ap (λ (l : List ℕ). get_or t i 0 ∷ l)
    (again 1 (omega arith)
    ∙ ap (λ (l : List ℕ). get_or t (i + 1) 0 ∷ l)
    (again 2 (omega arith)
    ∙ ap (λ (l : List ℕ). get_or t (i + 2) 0 ∷ l)
    (again 3 (omega arith)
    ∙ ap (λ (l : List ℕ). get_or t (i + 3) 0 ∷ l) (again 4 (omega arith)))))
  where
    next : (k : ℕ) → k < length t → drop k t ≡ get_or t k 0 ∷ drop (k + 1) t
    next k h = rw (add-one k) (drop-cons t k 0 h)

    again : (k : ℕ) → i + k < length t → drop (i + k) t ≡ get_or t (i + k) 0 ∷ drop (i + (k + 1)) t
    again k h = let e : i + (k + 1) ≡ i + k + 1 = omega arith in rw e (next (i + k) h)

pub name_is : (t : List ℕ) (from : ℕ) {r : ℕ} → ((k : ℕ) → Fits w8 (get_or t k 0)) → 5 ≤ length t - from
    → r ≡ name_value (get_or t from 0 + 256 * (get_or t (from + 1) 0 + 256 * get_or t (from + 2) 0)) (get_or t (from + 3) 0)
    (get_or t (from + 3) 0 + 256 * get_or t (from + 4) 0)
    → r ≡ packed (named_ref (drop from t))
name_is t from byte h q =
    q
    ∙ rw (five t from h)
    (name_list _ _ _ _ _ (drop (from + 5) t) (byte from).fits (byte (from + 1)).fits (byte (from + 2)).fits (byte (from + 3)).fits)

-- what holds of the five and of none holds of a reference by name
named_ref_all : (P : Option Reference → Type 0) (s : List ℕ)
    → P (some_char 60 3) → P (some_char 62 3) → P (some_char 38 4) → P (some_char 34 5) → P (some_char 39 5)
    → P None → P (named_ref s)
unfolding named_ref
named_ref_all P s lt gt amp quot apos none =
    pick_all P (begins (ascii "lt;") s) _ _ lt
    (pick_all P (begins (ascii "gt;") s) _ _ gt
    (pick_all P (begins (ascii "amp;") s) _ _ amp
    (pick_all P (begins (ascii "quot;") s) _ _ quot
    (pick_all P (begins (ascii "apos;") s) _ _ apos none))))

module _ (s : List ℕ) {r : ℕ} (q : r ≡ packed (named_ref s)) where
  pub packed_bad : r ≡ 0 → None ≡ named_ref s
  unfolding packed
  packed_bad e = named_ref_all (λ (x : Option Reference). r ≡ packed x → None ≡ x) s (no 60 2) (no 62 2) (no 38 3) (no 34 4) (no 39 4)
      (λ q. refl) q
    where
      no : (c n : ℕ) {x : Option Reference} → r ≡ c + 256 * suc n → None ≡ x
      no c n h = absurd (omega arith)

  pub packed_char : (r ≡ 0 → ⊥) → some_char (r % 256) (r / 256) ≡ named_ref s
  unfolding packed
  packed_char n =
      named_ref_all (λ (x : Option Reference). r ≡ packed x → some_char (r % 256) (r / 256) ≡ x) s (λ q. rw q) (λ q. rw q) (λ q. rw q)
      (λ q. rw q) (λ q. rw q)
      (λ q. absurd (n q)) q

pub ruleset packed_laws = (rules, packed_bad, packed_char)

-- ---- a reference
first_none : (x : Option ℕ) → first x None ≡ x
unfolding first
first_none (Some n) = refl
first_none None = refl

module _ (strict : Bool) (t : List ℕ) (from : ℕ) where
  pub reference_end : from ≡ length t → None ≡ reference strict (drop from t)
  reference_end h = sym (reference_spelt strict (drop from t) ∙ spelt_end (char_of strict) 0 t from (omega arith))

  pub reference_named : {r : Option Reference} → from ≤ length t → (from ≡ length t → ⊥) → (get_or t from 0 ≡ 35 → ⊥)
      → r ≡ named_ref (drop from t)
      → r ≡ reference strict (drop from t)
  unfolding char_of numeric only
  reference_named {r} g f n q =
      let h : from < length t = omega arith in
      let s = drop from t in
      let m : get_or s 0 0 ≡ 35 → ⊥ = λ x. n (rw (drop-cons t from 0) at x) in
      let k : eqb (get_or (take (span s) s) 0 0) 35 ≡ false = ne_eqb _ 35 (not_front (span s) 34 s m) in
      q ∙ named_spelt s ∙ sym (reference_spelt strict s ∙ spelt_same (char_of strict) named 0 s (rw (k, first_none)))

  pub reference_numeric : {x r : Option Reference} → from ≤ length t → (from ≡ length t → ⊥) → get_or t from 0 ≡ 35
      → x ≡ spelt (numeric (reader strict)) 0 (drop from t)
      → r ≡ only_ref (allowed strict) x → r ≡ reference strict (drop from t)
  unfolding char_of first named sameb span
  reference_numeric {x} {r} g f e q k =
      let h : from < length t = omega arith in
      let s = drop from t in
      let c : char_of strict (take (span s) s) ≡ only (allowed strict) (numeric (reader strict) (take (span s) s)) =
      rw (drop-cons t from 0, e) in
      k ∙ ap (only_ref (allowed strict)) q
      ∙ sym (reference_spelt strict s ∙ spelt_same (char_of strict) (λ e. only (allowed strict) (numeric (reader strict) e)) 0 s c
      ∙ spelt_only (allowed strict) (numeric (reader strict)) 0 s)

pub ruleset reference_laws = (rules, reference_end, reference_named, reference_numeric)
