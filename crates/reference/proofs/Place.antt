-- The place of the first failing `&`: `decode`, strict or not, says `bad at` exactly where `FailsAt` holds, and there is one such place.
use Prim.Native.Nat.{ℕ, zero, suc, ◌+◌, ◌≤◌, ◌<◌}
use mathlib.Core.Path.{◌≡◌, refl, sym, ◌∙◌, ap}
use mathlib.Core.Bool.{Bool, true, false}
use mathlib.Core.List.{List, [], ◌∷◌, ◌++◌}
use mathlib.Core.Logic.{◌↔◌}
use native.Mathlib.Nat.{add-zero}
use native.Mathlib.Omega.{arith}
use borrow.Author.Tests.{leb-true, leb-false, eqb-true}
use lib.Dec.{leb, eqb}
use lib.ListN.{length, get_or, drop, take, length-take}
use lib.Seq.{split_at, take-append-le, drop-append-le, get_or-take}
use Rattle.lists.specs.Tests.{pick}
use Rattle.lists.proofs.Parts.{get_d_in}
use Rattle.utf8.specs.Encode.{encode}
use Rattle.reference.specs.Text.{span, reference, Out, before, decode}
use Rattle.reference.specs.Text.{references, verdict, validated, unescaped, answer}
use Rattle.reference.specs.Text.Out.{bytes, bad}
use Rattle.reference.specs.Place.{FailsAt, failing_at}
use Rattle.reference.proofs.Taken.{no_char, taken, NoAmp, reference_no_amp}
use Rattle.reference.proofs.Lenient.{before_is, strict_reference}
use Rattle.reference.specs.declared.BadReference.{BadReference}
use Rattle.reference.specs.declared.Reference.{Reference}
use Rattle.reference.specs.declared.UnescapeError.{UnescapeError}
use Rattle.std.specs.Prelude.{Result, Option, None, Some, Ok, Err}

pub no_bytes {ℓ} : {A : Type ℓ} {at : ℕ} {l : List ℕ} → bad at ≡ bytes l → A
no_bytes e = let z : ◌≡◌ {A = ℕ} 0 1 = cc in absurd (omega arith)

-- where a front is put before, the rest fails at the same place
before_bad : (a : List ℕ) {p : ℕ} (o : Out) → before a o ≡ bad p → o ≡ bad p
unfolding before
before_bad a (bytes l) e = no_bytes (sym e)
before_bad a (bad at) e = e

-- ---- an `&` ends what stands before it: no reference reaches past it
span_amp : (a b : List ℕ) → span (a ++ (38 ∷ b)) ≡ span a
unfolding span
span_amp [] b = refl
span_amp (x ∷ a) b = ap (λ (n : ℕ). pick (eqb x 59) 0 (pick (eqb x 38) 0 (suc n))) (span_amp a b)

span_within : (s : List ℕ) → span s ≤ length s
unfolding span
span_within [] = omega arith
span_within (b ∷ s) = go (eqb b 59) (eqb b 38) (span_within s)
  where
    go : (t u : Bool) → span s ≤ length s → pick t 0 (pick u 0 (suc (span s))) ≤ suc (length s)
    go true u h = omega arith
    go false true h = omega arith
    go false false h = omega arith

semicolon_amp : (a b : List ℕ) (k : ℕ) → k ≤ length a → eqb (get_or (a ++ (38 ∷ b)) k 0) 59 ≡ eqb (get_or a k 0) 59
semicolon_amp [] b zero h = refl
semicolon_amp [] b (suc k) h = absurd (omega arith)
semicolon_amp (x ∷ a) b zero h = refl
semicolon_amp (x ∷ a) b (suc k) h = semicolon_amp a b k (omega arith)

pub reference_amp : (strict : Bool) (a b : List ℕ) → reference strict (a ++ (38 ∷ b)) ≡ reference strict a
unfolding reference
reference_amp strict a b =
    rw (span_amp a b, semicolon_amp a b (span a) (span_within a), take-append-le (span a) a (38 ∷ b) (span_within a))

-- a text is cut at an `&`
cut : (s : List ℕ) (k : ℕ) → get_or s k 0 ≡ 38 → s ≡ take k s ++ (38 ∷ drop (suc k) s)
cut s k e = split_at s k 0 (get_d_in s k 37 e) ∙ ap (λ (x : ℕ). take k s ++ (x ∷ drop (suc k) s)) e

-- so a reference is the same with and without what follows from an `&` on
reference_cut : (strict : Bool) (s : List ℕ) (k : ℕ) → get_or s k 0 ≡ 38 → reference strict s ≡ reference strict (take k s)
reference_cut strict s k e = ap (reference strict) (cut s k e) ∙ reference_amp strict (take k s) (drop (suc k) s)

-- ---- where `decode` fails, going on at the place `at` after k bytes are passed
record FailsFrom (strict : Bool) (at k p : ℕ) (s : List ℕ) : Type 0 where
  more : ℕ
  place : p ≡ at + more
  front : List ℕ
  decodes : decode strict at k (take more s) ≡ bytes front
  byte : get_or s more 0 ≡ 38
  none : reference strict (drop (suc more) s) ≡ None

fails_from : (strict : Bool) (at k : ℕ) (s : List ℕ) {p : ℕ} → decode strict at k s ≡ bad p → FailsFrom strict at k p s
unfolding decode before
fails_from strict at k [] e = no_bytes (sym e)
fails_from strict at (suc k) (x ∷ s) e = let f = fails_from strict (suc at) k s e in
    record {
      more = suc f.more;
      place = omega (arith, f.place);
      front = f.front;
      decodes = f.decodes;
      byte = f.byte;
      none = f.none;
    }
fails_from strict at zero (x ∷ s) {p} e = go (eqb x 38) (reference strict s) refl refl e (λ k. fails_from strict (suc at) k s)
  where
    Rest : Type 0
    Rest = (k : ℕ) → decode strict (suc at) k s ≡ bad p → FailsFrom strict (suc at) k p s

    go : (t : Bool) (r : Option Reference) → eqb x 38 ≡ t → reference strict s ≡ r
        → elim t [
          | true ↦ elim r [ Some y ↦ before (encode y.code) (decode strict (suc at) y.len s) | None ↦ bad at ]
          | false ↦
              before (x ∷ []) (decode strict (suc at) zero s)
        ] ≡ bad p
        → Rest → FailsFrom strict at zero p (x ∷ s)
    go true (Some y) q h e ih =
        let f = ih y.len (before_bad (encode y.code) (decode strict (suc at) y.len s) e) in
        let r : reference strict (take f.more s) ≡ Some y = sym (reference_cut strict s f.more f.byte) ∙ h in
        record {
          more = suc f.more;
          place = omega (arith, f.place);
          front = encode y.code ++ f.front;
          decodes = rw (decode, q, r, f.decodes);
          byte = f.byte;
          none = f.none;
        }
    go true None q h e ih =
        let z : at ≡ p = cc in
        record { more = 0; place = omega arith; front = []; decodes = refl; byte = eqb-true x 38 q; none = h }
    go false r q h e ih = let f = ih 0 (before_bad (x ∷ []) (decode strict (suc at) 0 s) e) in
        record {
          more = suc f.more;
          place = omega (arith, f.place);
          front = (x ∷ []) ++ f.front;
          decodes = rw (decode, q, f.decodes);
          byte = f.byte;
          none = f.none;
        }

-- ---- and back: a front that decodes, then an `&` that begins no reference
fails_back : (strict : Bool) (at k : ℕ) (a b l : List ℕ) → k ≤ length a → decode strict at k a ≡ bytes l
    → reference strict b ≡ None → decode strict at k (a ++ (38 ∷ b)) ≡ bad (at + length a)
unfolding decode before
fails_back strict at zero [] b l h e q = rw (decode, q, add-zero)
fails_back strict at (suc k) [] b l h e q = absurd (omega arith)
fails_back strict at (suc k) (x ∷ a) b l h e q =
    let z : suc at + length a ≡ at + suc (length a) = omega arith in
    fails_back strict (suc at) k a b l (omega arith) e q ∙ ap bad z
fails_back strict at zero (x ∷ a) b l h e q =
    go (eqb x 38) (reference strict a) refl refl e (λ k m g d. fails_back strict (suc at) k a b m g d q)
  where
    z : suc at + length a ≡ at + suc (length a)
    z = omega arith

    Rest : Type 0
    Rest = (k : ℕ) (m : List ℕ) → k ≤ length a → decode strict (suc at) k a ≡ bytes m
        → decode strict (suc at) k (a ++ (38 ∷ b)) ≡ bad (suc at + length a)

    go : (t : Bool) (r : Option Reference) → eqb x 38 ≡ t → reference strict a ≡ r
        → elim t [
          | true ↦ elim r [ Some y ↦ before (encode y.code) (decode strict (suc at) y.len a) | None ↦ bad at ]
          | false ↦
              before (x ∷ []) (decode strict (suc at) zero a)
        ] ≡ bytes l
        → Rest → decode strict at zero (x ∷ (a ++ (38 ∷ b))) ≡ bad (at + suc (length a))
    go true (Some y) g h e ih =
        let w = before_is (encode y.code) l (decode strict (suc at) y.len a) e in
        rw (decode, g, reference_amp strict a b, h, ih y.len w.0 (taken strict a h).within w.1, z)
    go true None g h e ih = no_bytes e
    go false r g h e ih =
        let w = before_is (x ∷ []) l (decode strict (suc at) 0 a) e in
        rw (decode, g, ih 0 w.0 (omega arith) w.1, z)

-- ---- each `&` of a text that decodes begins a reference
pub record Begins (strict : Bool) (s : List ℕ) : Type 0 where
  pub found : Reference
  pub is : reference strict s ≡ Some found

-- once k bytes that hold none are passed
pub each_begins : (strict : Bool) (at k : ℕ) (s l : List ℕ) → NoAmp k s → decode strict at k s ≡ bytes l
    → (j : ℕ) → get_or s j 0 ≡ 38 → Begins strict (drop (suc j) s)
unfolding decode
each_begins strict at k [] l p e j q = absurd (omega arith)
each_begins strict at (suc k) (x ∷ s) l p e zero q = absurd (p 0 (omega arith) q)
each_begins strict at (suc k) (x ∷ s) l p e (suc j) q = each_begins strict (suc at) k s l (λ i h. p (suc i) (omega arith)) e j q
each_begins strict at zero (x ∷ s) l p e zero q = go (reference strict s) refl (rw (decode, q) at e)
  where
    go : (r : Option Reference) → reference strict s ≡ r
        → elim r [ Some y ↦ before (encode y.code) (decode strict (suc at) y.len s) | None ↦ bad at ] ≡ bytes l
        → Begins strict s
    go (Some y) h e = record { found = y; is = h }
    go None h e = no_bytes e
each_begins strict at zero (x ∷ s) l p e (suc j) q =
    go (eqb x 38) (reference strict s) refl e (λ k m p e. each_begins strict (suc at) k s m p e j q)
  where
    Rest : Type 0
    Rest = (k : ℕ) (m : List ℕ) → ((i : ℕ) → i < k → get_or s i 0 ≡ 38 → ⊥) → decode strict (suc at) k s ≡ bytes m
        → Begins strict (drop (suc j) s)

    go : (t : Bool) (r : Option Reference) → reference strict s ≡ r
        → elim t [
          | true ↦ elim r [ Some y ↦ before (encode y.code) (decode strict (suc at) y.len s) | None ↦ bad at ]
          | false ↦
              before (x ∷ []) (decode strict (suc at) zero s)
        ] ≡ bytes l
        → Rest → Begins strict (drop (suc j) s)
    go true (Some y) h e ih = let w = before_is (encode y.code) l (decode strict (suc at) y.len s) e in
        ih y.len w.0 (reference_no_amp strict s h) w.1
    go true None h e ih = no_bytes e
    go false r h e ih = let w = before_is (x ∷ []) l (decode strict (suc at) zero s) e in ih 0 w.0 (λ i h e. omega arith) w.1

-- ---- THE PLACE
module _ (strict : Bool) (t : List ℕ) where
  -- `bad at` is said exactly of the place of the first failing `&`
  pub bad_is : (at : ℕ) → (decode strict 0 0 t ≡ bad at) ↔ FailsAt strict t at
  bad_is at = (there, back)
    where
      there : decode strict 0 0 t ≡ bad at → FailsAt strict t at
      there e =
          let f = fails_from strict 0 0 t e in
          let z : f.more ≡ at = omega (arith, f.place) in
          rw (← z) record { front = f.front; decodes = f.decodes; byte = f.byte; none = f.none }

      back : FailsAt strict t at → decode strict 0 0 t ≡ bad at
      back f =
          let n : 0 + length (take at t) ≡ at = omega (arith, length-take at t, get_d_in t at 37 f.byte) in
          ap (decode strict 0 0) (cut t at f.byte)
          ∙ fails_back strict 0 0 (take at t) (drop (suc at) t) f.front (omega arith) f.decodes f.none ∙ ap bad n

  -- it lies in the text
  pub fails_within : {at : ℕ} → FailsAt strict t at → at < length t
  fails_within {at} f = get_d_in t at 37 f.byte

  -- there is one such place at most
  pub fails_once : {i j : ℕ} → FailsAt strict t i → FailsAt strict t j → i ≡ j
  fails_once {i} {j} f g = let e : bad i ≡ bad j = sym ((bad_is i).1 f) ∙ (bad_is j).1 g in cc

  -- the first: each earlier `&` begins a reference
  pub fails_first : {at : ℕ} → FailsAt strict t at → (k : ℕ) → k < at → get_or t k 0 ≡ 38 → Begins strict (drop (suc k) t)
  fails_first {at} f k h e =
      let p = take at t in
      let w = each_begins strict 0 0 p f.front (λ j h e. omega arith) f.decodes k (get_or-take at t k 0 h ∙ e) in
      let i : suc k ≤ length p = omega (arith, length-take at t, fails_within f) in
      let q : drop (suc k) t ≡ drop (suc k) p ++ (38 ∷ drop (suc at) t) =
      ap (drop (suc k)) (cut t at f.byte) ∙ drop-append-le (suc k) p (38 ∷ drop (suc at) t) i in
      record { found = w.found; is = rw (q, reference_amp strict (drop (suc k) p) (drop (suc at) t)) w.is }

-- validation fails no later than unescaping
pub strict_first : (t : List ℕ) {i j : ℕ} → FailsAt true t i → FailsAt false t j → i ≤ j
strict_first t {i} {j} f g = go (leb i j) refl
  where
    go : (u : Bool) → leb i j ≡ u → i ≤ j
    go true e = leb-true i j e
    go false e = let w = fails_first true t f j (leb-false i j e) g.byte in
        no_char (sym g.none ∙ strict_reference (drop (suc j) t) w.found w.is)

-- ---- the two operations
-- `validate` refuses with a place exactly where it is that of the first failing `&`
pub validate_bad_is : (t : List ℕ) (at : ℕ) → (validated t ≡ Err (record { at = at })) ↔ FailsAt true t at
unfolding validated references verdict
validate_bad_is t at = (λ e. (bad_is true t at).0 (there (decode true 0 0 t) e), λ f. ap verdict ((bad_is true t at).1 f))
  where
    there : (o : Out) → verdict o ≡ Err (record { at = at }) → o ≡ bad at
    there (bytes l) e = let z : ◌≡◌ {A = ℕ} 0 1 = cc in absurd (omega arith)
    there (bad k) e = ap bad (ap failing_at e)

-- and so does `unescape`, whatever the room
pub unescape_bad_is : (t : List ℕ) (room at : ℕ) → (answer (unescaped t) room ≡ Err (UnescapeError.BadReference at)) ↔ FailsAt false t at
unfolding unescaped answer
unescape_bad_is t room at =
    (λ e. (bad_is false t at).0 (there (decode false 0 0 t) e), λ f. ap (λ (o : Out). answer o room) ((bad_is false t at).1 f))
  where
    there : (o : Out) → answer o room ≡ Err (UnescapeError.BadReference at) → o ≡ bad at
    there (bytes l) e = go (leb (length l) room) e
      where
        go : (u : Bool) → pick u (Ok (length l)) (Err UnescapeError.NoRoom) ≡ Err (UnescapeError.BadReference at) → bytes l ≡ bad at
        go true e = let z : ◌≡◌ {A = ℕ} 0 1 = cc in absurd (omega arith)
        go false e = let z : ◌≡◌ {A = ℕ} 0 1 = cc in absurd (omega arith)
    there (bad k) e = let z : k ≡ at = cc in ap bad z

-- ---- for callers of `validate`: the place that is told lies in the text
pub validate_within : (t : List ℕ) {r : Result (Unit {0}) BadReference} {why : BadReference} → r ≡ validated t → r ≡ Err why
    → why.at < length t
validate_within t {r} {why} q e = fails_within true t ((validate_bad_is t why.at).0 (sym q ∙ e))
