-- Laws of the place of the drain's cause: where validating a row's value fails, in the body.
use Prim.Native.Nat.{ℕ, zero, suc, ◌+◌, ◌-◌, ◌*◌, ◌/◌, ◌^◌, ◌≤◌, ◌<◌}
use mathlib.Core.Path.{◌≡◌, refl, sym, ◌∙◌, ap}
use mathlib.Core.List.{List, [], ◌∷◌, cons≢nil}
use native.Mathlib.Omega.{arith}
use borrow.Author.Rules.{rules}
use lib.ListN.{length, get_or, drop, length-take}
use Rattle.std.specs.Prelude.{Result, Ok, Err}
use Rattle.reference.specs.Text.{validated}
use Rattle.reference.specs.declared.BadReference.{BadReference}
use Rattle.reference.proofs.Place.{validate_within}
use Rattle.table.specs.Row.{Row, rows_of, toks_of}
use Rattle.table.specs.Flat.{rows_from}
use Rattle.table.specs.Rows.{InTable, Readable, Walkable, Obeys, value_at}
use Rattle.table.proofs.Flat.{unroll, rolled_out, drop_from}
use Rattle.table.proofs.Valid.{all_rows, few_bytes, spans_within}
use Rattle.xml.specs.declared.Cause.{Cause}
use Rattle.xml.specs.declared.DrainError.{DrainError}
use Rattle.xml.specs.Drain.{walked, drained, reference_place, cause_place, drain_place}
use Rattle.xml.proofs.Place.{reference_at, place_within, walk_place}
use Rattle.decode.specs.Drain.{failing_in}

-- ---- where validating the value of row k fails
module _ (body t : List ℕ) (k : ℕ) {from : ℕ} (f : from ≡ get_or t (k * 8 + 5) 0) {x : List ℕ} (p : x ≡ value_at body t k) where
  pub place_valid : Ok tt ≡ validated x → from ≡ failing_in body t k
  place_valid e = rw (← p, ← e, ← f) (omega arith)

  module _ {bad : BadReference} (e : Err bad ≡ validated x) where
    pub place_bad : from + bad.at ≡ failing_in body t k
    place_bad = rw (← p, ← e, ← f)

    place_in : Readable body t → InTable t k → from + bad.at ≤ length body
    place_in o i =
        let n = validate_within x refl (sym e) in
        let m = length-take (get_or t (k * 8 + 6) 0) (drop (get_or t (k * 8 + 5) 0) body) in
        omega (arith, n, ap length p, m, (spans_within o i).value)

    pub place_fits : Readable body t → InTable t k → length body < 2 ^ 64 → from + bad.at < 2 ^ 64
    place_fits o i h = omega (arith, place_in o i)

-- ---- of a row of the table, or of none
no_reference : (body : List ℕ) (rows : List Row) (k : ℕ) → drop k rows ≡ [] → reference_place body rows k ≡ 0
unfolding reference_place
no_reference body [] k e = refl
no_reference body (r ∷ rows) zero e = absurd (cons≢nil e)
no_reference body (r ∷ rows) (suc k) e = no_reference body rows k e

module _ {body t : List ℕ} (o : Walkable body t) (k : ℕ) where
  pub row_in : k < length t / 8 → InTable t k
  row_in h = record { row = omega arith }

  left : drop k (rows_of t) ≡ rows_from t k (length t / 8 - k)
  left = let z : 0 + k ≡ k = omega arith in rw (all_rows o) (rw z at (drop_from t 0 k (length t / 8)))

  pub reference_row : {x : ℕ} → k < length t / 8 → x ≡ failing_in body t k → x ≡ reference_place body (rows_of t) k
  reference_row h e = e ∙ sym (reference_at body (rows_of t) k (left ∙ unroll t k (length t / 8) h))

  pub reference_none : length t / 8 ≤ k → 0 ≡ reference_place body (rows_of t) k
  reference_none h = sym (no_reference body (rows_of t) k (left ∙ rolled_out t k (length t / 8) h))

-- ---- 16 bits hold it, where the walk stopped there
pub cause_fits : {body t : List ℕ} {final : ℕ} (k : ℕ) (c : Cause) {x : ℕ} → Obeys body t final
    → Err (DrainError.IllFormed k c) ≡ walked (toks_of body (rows_of t)) → x ≡ cause_place body (rows_of t) k c → x < 2 ^ 16
cause_fits k Cause.TokenError o e p = omega (arith, p)
cause_fits k Cause.MismatchedEnd o e p = omega (arith, p)
cause_fits k Cause.UnclosedElement o e p = omega (arith, p)
cause_fits k Cause.RepeatedAttribute o e p = omega (arith, p)
cause_fits {body} {t} k Cause.BadReference o e p =
    omega (arith, p, place_within (walk_place body (rows_of t) (sym e)), few_bytes o)

-- ---- for callers of the drain: where it answers a row and a cause, the place is the cause's; else it is 0
module _ (body t : List ℕ) (final : ℕ) {r : Result (Unit {0}) DrainError} (e : r ≡ drained body t final) where
  pub place_passes : r ≡ Ok tt → 0 ≡ drain_place body (rows_of t) (drained body t final)
  unfolding drain_place
  place_passes q = rw (← e, q)

  pub place_table : r ≡ Err DrainError.Table → 0 ≡ drain_place body (rows_of t) (drained body t final)
  unfolding drain_place
  place_table q = rw (← e, q)

  pub place_ill : {k : ℕ} {c : Cause} → r ≡ Err (DrainError.IllFormed k c) → {x : ℕ} → x ≡ cause_place body (rows_of t) k c
      → x ≡ drain_place body (rows_of t) (drained body t final)
  unfolding drain_place
  place_ill q p = rw (← e, q) p

pub ruleset drain_place_laws = (rules, place_passes, place_table, place_ill)
