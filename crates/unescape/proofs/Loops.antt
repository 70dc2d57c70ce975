-- Laws of the loops that pass over a text: validating, and measuring what it comes to.
use Prim.Native.Nat.{ℕ, ◌+◌, ◌-◌, ◌^◌, ◌≤◌, ◌<◌}
use mathlib.Core.Path.{◌≡◌, refl, sym, ◌∙◌}
use mathlib.Core.Bool.{Bool, true, false}
use mathlib.Core.List.{List, []}
use native.Mathlib.Omega.{arith}
use borrow.Author.Rules.{rules}
use borrow.Author.Tests.{leb-true, leb-false}
use mir.Val.{Fits}
use mir.Syntax.{w64}
use lib.Dec.{leb}
use lib.ListN.{length, get_or, drop, length-drop, length-append, length-take}
use lib.Seq.{get_or-drop}
use Rattle.lists.specs.Parts.{part}
use Rattle.lists.specs.Find.{Clear, NextAt}
use Rattle.utf8.specs.Encode.{encode, EncodedLen}
use Rattle.reference.specs.Text.{reference, references, verdict, validated, unescaped}
use Rattle.reference.proofs.Taken.{taken, reference_no_amp}
use Rattle.reference.proofs.Walk.{DecodeAt, decode_start, decode_plain, decode_end, decode_bad, decode_ref}
use Rattle.reference.specs.declared.Reference.{Reference}
use Rattle.unescape.specs.Loops.{size_of}
use Rattle.std.specs.Prelude.{Option, None, Some, Ok, Err}

-- what `&t[i..r]` holds
pub part_length : {t : List ℕ} {i r : ℕ} → Clear t 38 i r → length (part t i r) ≡ r - i
part_length {t} {i} {r} c = omega (arith, c.low, c.high, length-take (r - i) (drop i t), length-drop i t)

-- a run that begins at no `&` has a byte or more
run_some : {t : List ℕ} {i r : ℕ} → i < length t → (get_or t i 0 ≡ 38 → ⊥) → NextAt t 38 i r → i < r
run_some {t} {i} {r} h n x = go (leb r i) refl
  where
    go : (b : Bool) → leb r i ≡ b → i < r
    go true e = let q : r ≡ i = omega (arith, leb-true r i e, x.clear.low) in absurd (n (rw q at (x.found (omega arith))))
    go false e = leb-false r i e

pub run_less : {t : List ℕ} {i r : ℕ} → i < length t → (get_or t i 0 ≡ 38 → ⊥) → NextAt t 38 i r → length t - r < length t - i
run_less h n x = omega (arith, run_some h n x)

-- the place after a reference fits a `usize`, and less is left there
module _ {strict : Bool} {t acc : List ℕ} {i : ℕ} (at : DecodeAt strict t acc i) {r : Option Reference} {y : Reference} (h : i < length t)
    (q : r ≡ reference strict (drop (i + 1) t)) (e : r ≡ Some y) where
  pub next_in : (3 ≤ y.len) × (i + 1 + y.len ≤ length t)
  next_in =
      let l = taken strict (drop (i + 1) t) (sym q ∙ e) in
      (l.some, omega (arith, l.within, length-drop (i + 1) t))

  pub next_fits : length t < 2 ^ 64 → Fits w64 (i + 1 + y.len)
  next_fits g = record { fits = omega (arith, next_in.1) }

  pub next_less : length t - (i + 1 + y.len) < length t - i
  next_less = omega (arith, next_in.0, next_in.1)

-- ---- where to look for the next `&` from: right after the last one, whatever stands there, so that the search waits for no reference
pub seek_start : (t : List ℕ) → Clear t 38 0 0
seek_start t = record { low = omega arith; high = omega arith; none = λ k l u e. omega arith }

pub seek_next : {t : List ℕ} {seek i r : ℕ} → Clear t 38 seek i → i < length t → (get_or t i 0 ≡ 38 → ⊥) → NextAt t 38 seek r
    → NextAt t 38 i r
seek_next {t} {seek} {i} {r} c h n x =
    record {
      clear = record { low = go (leb i r) refl; high = x.clear.high; none = λ k l u e. x.clear.none k (omega (arith, c.low)) u e };
      found = x.found;
    }
  where
    go : (b : Bool) → leb i r ≡ b → i ≤ r
    go true q = leb-true i r q
    go false q = absurd (c.none r x.clear.low (leb-false i r q) (x.found (omega (arith, leb-false i r q))))

pub seek_ref : (strict : Bool) {t : List ℕ} {i : ℕ} {r : Option Reference} {y : Reference} → i < length t
    → r ≡ reference strict (drop (i + 1) t)
    → r ≡ Some y
    → Clear t 38 (i + 1) (i + 1 + y.len)
seek_ref strict {t} {i} {r} {y} h q e =
    let l = taken strict (drop (i + 1) t) (sym q ∙ e) in
    let a = reference_no_amp strict (drop (i + 1) t) (sym q ∙ e) in
    record {
      low = omega arith;
      high = omega (arith, l.within, length-drop (i + 1) t);
      none = λ k g u x. let z : i + 1 + (k - (i + 1)) ≡ k = omega arith in
          a (k - (i + 1)) (omega arith) (rw (get_or-drop (i + 1) t (k - (i + 1)) 0, z) x);
    }

pub seek_low : {t : List ℕ} {seek i r : ℕ} → Clear t 38 seek i → i < length t → (get_or t i 0 ≡ 38 → ⊥) → NextAt t 38 seek r → i ≤ r
seek_low c h n x = (seek_next c h n x).clear.low

pub ruleset seek_laws = (rules, seek_start, seek_next, seek_low, seek_ref)

-- ---- validating: the loop keeps no bytes
pub record ValidAt (t : List ℕ) (i : ℕ) : Type 0 where
  pub acc : List ℕ
  pub at : DecodeAt true t acc i

pub valid_start : (t : List ℕ) → ValidAt t 0
valid_start t = record { acc = []; at = decode_start true t }

module _ {t : List ℕ} {i : ℕ} (v : ValidAt t i) where
  pub valid_plain : {r : ℕ} → NextAt t 38 i r → ValidAt t r
  valid_plain x = record { acc = _; at = decode_plain v.at x.clear }

  pub valid_end : length t ≤ i → Ok tt ≡ validated t
  unfolding validated verdict references
  valid_end h = rw (decode_end v.at h)

  module _ {r : Option Reference} (h : i < length t) (amp : get_or t i 0 ≡ 38) (q : r ≡ reference true (drop (i + 1) t)) where
    pub valid_bad : r ≡ None → Err (record { at = i }) ≡ validated t
    unfolding validated verdict references
    valid_bad e = rw (decode_bad v.at h amp q e)

    pub valid_ref : {y : Reference} → r ≡ Some y → ValidAt t (i + 1 + y.len)
    valid_ref e = record { acc = _; at = decode_ref v.at h amp q e }

pub ruleset valid_laws = (seek_laws, valid_start, valid_plain, valid_end, valid_bad, valid_ref, next_fits, next_less, run_less)

-- ---- measuring: n bytes so far, never more than were read
pub record MeasureAt (t : List ℕ) (n i : ℕ) : Type 0 where
  pub acc : List ℕ
  pub at : DecodeAt false t acc i
  pub size : n ≡ length acc
  pub small : n ≤ i

pub measure_start : (t : List ℕ) → MeasureAt t 0 0
measure_start t = record { acc = []; at = decode_start false t; size = refl; small = omega arith }

module _ {t : List ℕ} {n i : ℕ} (m : MeasureAt t n i) where
  pub measure_plain : {r : ℕ} → NextAt t 38 i r → MeasureAt t (n + (r - i)) r
  measure_plain {r} x =
      record {
        acc = _;
        at = decode_plain m.at x.clear;
        size = omega (arith, m.size, length-append m.acc (part t i r), part_length x.clear);
        small = omega (arith, m.small, x.clear.low);
      }

  pub measure_run_fits : {r : ℕ} → NextAt t 38 i r → length t < 2 ^ 64 → Fits w64 (n + (r - i))
  measure_run_fits {r} x g = record { fits = omega (arith, m.small, x.clear.low, x.clear.high) }

  pub measure_end : length t ≤ i → Ok n ≡ size_of (unescaped t)
  unfolding unescaped size_of
  measure_end h = rw (decode_end m.at h, ← m.size)

  module _ {r : Option Reference} (h : i < length t) (amp : get_or t i 0 ≡ 38) (q : r ≡ reference false (drop (i + 1) t)) where
    pub measure_bad : r ≡ None → Err (record { at = i }) ≡ size_of (unescaped t)
    unfolding unescaped size_of
    measure_bad e = rw (decode_bad m.at h amp q e)

    pub measure_ref : {y : Reference} {d : ℕ} → r ≡ Some y → EncodedLen y.code d → MeasureAt t (n + d) (i + 1 + y.len)
    measure_ref {y} {d} e w =
        record {
          acc = _;
          at = decode_ref m.at h amp q e;
          size = omega (arith, m.size, w.is, length-append m.acc (encode y.code));
          small = omega (arith, m.small, w.high, (next_in m.at h q e).0);
        }

    pub measure_fits : {y : Reference} {d : ℕ} → r ≡ Some y → EncodedLen y.code d → length t < 2 ^ 64 → Fits w64 (n + d)
    measure_fits e w g = record { fits = omega (arith, (measure_ref e w).small, (next_in m.at h q e).1) }

pub ruleset measure_laws = (
  seek_laws,
  measure_start,
  measure_plain,
  measure_run_fits,
  measure_end,
  measure_bad,
  measure_ref,
  measure_fits,
  next_fits,
  next_less,
  run_less,
)
