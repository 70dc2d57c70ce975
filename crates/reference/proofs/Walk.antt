-- Laws of `decode`, step by step: what is passed over, a run of plain bytes, a reference.
use Prim.Native.Nat.{ℕ, zero, suc, ◌+◌, ◌-◌, ◌≤◌, ◌<◌}
use mathlib.Core.Path.{◌≡◌, refl, sym, ◌∙◌, ap}
use mathlib.Core.Bool.{Bool}
use mathlib.Core.List.{List, [], ◌∷◌, ◌++◌, append_assoc, append-nil}
use native.Mathlib.Nat.{add-zero, add-suc, suc-add}
use native.Mathlib.Numerals.{add-one}
use native.Mathlib.Omega.{arith}
use borrow.Author.Tests.{ne_eqb}
use lib.ListN.{length, get_or, drop, take, length-drop, drop_of_length-le}
use lib.Seq.{drop-cons, drop-drop, get_or-drop}
use Rattle.lists.specs.Parts.{part}
use Rattle.lists.specs.Find.{Clear}
use Rattle.utf8.specs.Encode.{encode}
use Rattle.reference.specs.Text.{reference, Out, before, decode}
use Rattle.reference.specs.Text.Out.{bytes, bad}
use Rattle.reference.proofs.Taken.{taken}
use Rattle.reference.specs.declared.Reference.{Reference}
use Rattle.std.specs.Prelude.{Option, None, Some}

pub before_none : (o : Out) → before [] o ≡ o
unfolding before
before_none (bytes l) = refl
before_none (bad at) = refl

pub before_before : (a b : List ℕ) (o : Out) → before a (before b o) ≡ before (a ++ b) o
unfolding before
before_before a b (bytes l) = ap bytes (sym (append_assoc a b l))
before_before a b (bad at) = refl

pub decode_skip : (strict : Bool) (at k : ℕ) (s : List ℕ) → decode strict at k s ≡ decode strict (at + k) 0 (drop k s)
unfolding decode
decode_skip strict at zero s = rw add-zero
decode_skip strict at (suc k) [] = refl
decode_skip strict at (suc k) (b ∷ s) = decode_skip strict (suc at) k s
    ∙ ap (λ (n : ℕ). decode strict n 0 (drop k s)) (suc-add at k ∙ sym (add-suc at k))

-- a run of bytes that are no `&` is copied
pub decode_run : (strict : Bool) (at n : ℕ) (s : List ℕ) → n ≤ length s → ((k : ℕ) → k < n → get_or s k 0 ≡ 38 → ⊥)
    → decode strict at 0 s ≡ before (take n s) (decode strict (at + n) 0 (drop n s))
unfolding decode
decode_run strict at zero s h p = rw (add-zero, before_none)
decode_run strict at (suc n) [] h p = absurd (omega arith)
decode_run strict at (suc n) (b ∷ s) h p =
    let ih = decode_run strict (suc at) n s (omega arith) (λ k l. p (suc k) (omega arith)) in
    let e : at + suc n ≡ suc at + n = omega arith in
    let q : decode strict at 0 (b ∷ s) ≡ before (b ∷ []) (decode strict (suc at) 0 s) = rw (decode, ne_eqb b 38 (p 0 (omega arith))) in
    q ∙ ap (before (b ∷ [])) ih ∙ before_before (b ∷ []) (take n s) (decode strict (suc at + n) 0 (drop n s)) ∙ rw (← e)

-- the text from i on stands for what is left of the whole, after acc
pub record DecodeAt (strict : Bool) (t acc : List ℕ) (i : ℕ) : Type 0 where
  pub within : i ≤ length t
  pub rest : before acc (decode strict i 0 (drop i t)) ≡ decode strict 0 0 t

pub decode_start : (strict : Bool) (t : List ℕ) → DecodeAt strict t [] 0
decode_start strict t = record { within = omega arith; rest = before_none (decode strict 0 0 t) }

module _ {strict : Bool} {t acc : List ℕ} {i : ℕ} (at : DecodeAt strict t acc i) where
  -- up to the next `&`
  pub decode_plain : {r : ℕ} → Clear t 38 i r → DecodeAt strict t (acc ++ part t i r) r
  decode_plain {r} c =
      let k : i + (r - i) ≡ r = omega (arith, c.low) in
      let e = decode_run strict i (r - i) (drop i t) (omega (arith, c.low, c.high, length-drop i t))
      (λ j l q. c.none (i + j) (omega arith) (omega arith) (rw (get_or-drop i t j 0) at q)) in
      record {
        within = c.high;
        rest = sym (before_before acc (part t i r) (decode strict r 0 (drop r t)))
            ∙ ap (before acc) (sym (rw (drop-drop (r - i) i t, k) at e)) ∙ at.rest;
      }

  pub decode_end : length t ≤ i → decode strict 0 0 t ≡ bytes acc
  unfolding decode before
  decode_end h = rw (← at.rest, drop_of_length-le t, append-nil)

  module _ {r : Option Reference} (h : i < length t) (amp : get_or t i 0 ≡ 38) (q : r ≡ reference strict (drop (i + 1) t)) where
    pub decode_bad : r ≡ None → decode strict 0 0 t ≡ bad i
    unfolding decode before
    decode_bad e = let k = rw add-one at q in rw (← at.rest, drop-cons t i 0, decode, amp, ← k, e)

    pub decode_ref : {y : Reference} → r ≡ Some y → DecodeAt strict t (acc ++ encode y.code) (i + 1 + y.len)
    unfolding decode
    decode_ref {y} e =
        let l = taken strict (drop (i + 1) t) (sym q ∙ e) in
        let k = rw add-one at q in
        let x : before (encode y.code) (decode strict (i + 1 + y.len) 0 (drop (i + 1 + y.len) t)) ≡ decode strict i 0 (drop i t) =
        rw (
          add-one i,
          drop-cons t i 0,
          decode,
          amp,
          ← k,
          e,
          decode_skip strict (suc i) y.len (drop (suc i) t),
          drop-drop y.len (suc i) t,
        ) in
        record {
          within = omega (arith, l.within, length-drop (i + 1) t);
          rest = sym (before_before acc (encode y.code) (decode strict (i + 1 + y.len) 0 (drop (i + 1 + y.len) t))) ∙ ap (before acc) x
              ∙ at.rest;
        }
