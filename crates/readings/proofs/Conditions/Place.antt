-- Change request 1: the place that a refusal 7 tells. Of a lenient text it is that of unescaping in the value of a row of the table; of a
-- strict one that of validation in the row where the drain stopped. Both are offsets in the body, and an `&` stands there. Which row it is
-- of a lenient text, that of the first text of its element, is said in Text.antt (`opened_text_refusal`), exactly.
use Prim.Native.Nat.{ℕ, ◌+◌, ◌<◌, ◌≤◌}
use mathlib.Core.Path.{◌≡◌, refl, sym, ap, ◌∙◌, subst}
use mathlib.Core.Bool.{Bool, true, false}
use mathlib.Core.List.{List, ◌∷◌}
use native.Mathlib.Omega.{arith}
use lib.ListN.{length, get_or, drop}
use Rattle.std.specs.Prelude.{Err}
use Rattle.lists.specs.Characters.{ampersand}
use Rattle.refusal.specs.declared.Refusal.{Refusal}
use Rattle.refusal.specs.Answer.{refuses}
use Rattle.refusal.specs.Numbers.{number, place}
use Rattle.reference.specs.Text.{unescaped}
use Rattle.reference.specs.Text as text
use Rattle.reference.proofs.Lenient.{valid_unescapes}
use Rattle.reference.proofs.Place.{no_bytes}
use Rattle.table.specs.Row.{Tok, text, matter, rows_of, toks_of}
use Rattle.xml.specs.declared.Cause.{Cause}
use Rattle.xml.specs.declared.DrainError.{DrainError}
use Rattle.xml.specs.Drain.{drained, cause_place, drain_place}
use Rattle.xml.proofs.Past.{at_next}
use Rattle.xml.proofs.Place.{FailsIn, place_within, place_byte, drained_place}
use Rattle.document.specs.declared.Depth.{Depth}
use Rattle.document.specs.View.{failure_of}
use Rattle.document.specs.Reader.{Scope}
use Rattle.document.specs.Scope.{Child}
use Rattle.document.specs.Text.{value_start_at, text_of}
use Rattle.document.proofs.Laws.Placed.{Placed}
use Rattle.document.proofs.Laws.Place.{text_fails, fails_in_all, strict_valid}
use Rattle.readings.specs.Call.{Upload}
use Rattle.readings.specs.Opening.{Opened}
use Rattle.readings.proofs.Conditions.Opening.{OpenedAs}
use Rattle.readings.proofs.Conditions.View.{Stopped, at_drain, at_error}
use Rattle.readings.proofs.Conditions.Text.{NoText, element_inside, bad_reference, rows_end, passed, opened_text_refusal}
use Rattle.readings.proofs.Plans.Placed.{opened_in}

-- ---- a refusal tells 7 and a place, or another number and none: the one law of places that goes through the numbers
pub data Telling : Refusal → Type 0 where
  seven : (at : ℕ) → Telling (Refusal.BadReference at)
  other : (r : Refusal) → (number r ≡ 7 → ⊥) → place r ≡ 0 → Telling r

pub telling : (r : Refusal) → Telling r
telling Refusal.Table = other Refusal.Table (λ e. omega (arith, e)) refl
telling Refusal.Sheet = other Refusal.Sheet (λ e. omega (arith, e)) refl
telling Refusal.Depth = other Refusal.Depth (λ e. omega (arith, e)) refl
telling Refusal.NoRoot = other Refusal.NoRoot (λ e. omega (arith, e)) refl
telling Refusal.RootName = other Refusal.RootName (λ e. omega (arith, e)) refl
telling Refusal.ElementInText = other Refusal.ElementInText (λ e. omega (arith, e)) refl
telling (Refusal.BadReference at) = seven at
telling Refusal.TokenError = other Refusal.TokenError (λ e. omega (arith, e)) refl
telling Refusal.IllFormed = other Refusal.IllFormed (λ e. omega (arith, e)) refl
telling Refusal.NoRoom = other Refusal.NoRoom (λ e. omega (arith, e)) refl
telling Refusal.NotBoolean = other Refusal.NotBoolean (λ e. omega (arith, e)) refl
telling Refusal.NotInteger = other Refusal.NotInteger (λ e. omega (arith, e)) refl
telling Refusal.NoSuchElement = other Refusal.NoSuchElement (λ e. omega (arith, e)) refl

module _ (u : Upload) where
  -- a place that is told with 7, by a reading that is strict or not
  pub data SevenAt : Bool → ℕ → Type 0 where
    by_unescaping : {k at : ℕ} → FailsIn false u.body (rows_of u.rows) k at → SevenAt false at
    by_validation : {k at : ℕ} → drained u.body u.rows u.end ≡ Err (DrainError.IllFormed k Cause.BadReference)
        → at ≡ drain_place u.body (rows_of u.rows) (drained u.body u.rows u.end)
        → FailsIn true u.body (rows_of u.rows) k at → SevenAt true at

  pub seven_within : {strict : Bool} {at : ℕ} → SevenAt strict at → at < length u.body
  seven_within (by_unescaping f) = place_within f
  seven_within (by_validation e q f) = place_within f

  pub seven_byte : {strict : Bool} {at : ℕ} → SevenAt strict at → get_or u.body at 0 ≡ ampersand
  seven_byte (by_unescaping f) = place_byte f
  seven_byte (by_validation e q f) = place_byte f

  -- where the number is 7, the place is such a place
  pub record TellsPlace (strict : Bool) (r : Refusal) : Type 0 where
    pub seven : (at : ℕ) → r ≡ Refusal.BadReference at → SevenAt strict at

  -- ---- where the rows run out
  of_cause : {k : ℕ} (c : Cause) {at : ℕ} → drained u.body u.rows u.end ≡ Err (DrainError.IllFormed k c)
      → failure_of (cause_place u.body (rows_of u.rows) k c) c ≡ Refusal.BadReference at → SevenAt true at
  unfolding drain_place
  of_cause Cause.TokenError e q = let z : ◌≡◌ {A = ℕ} 0 1 = cc in absurd (omega arith)
  of_cause Cause.MismatchedEnd e q = let z : ◌≡◌ {A = ℕ} 0 1 = cc in absurd (omega arith)
  of_cause Cause.UnclosedElement e q = let z : ◌≡◌ {A = ℕ} 0 1 = cc in absurd (omega arith)
  of_cause Cause.RepeatedAttribute e q = let z : ◌≡◌ {A = ℕ} 0 1 = cc in absurd (omega arith)
  of_cause {k} Cause.BadReference {at} e q =
      let is : at ≡ drain_place u.body (rows_of u.rows) (drained u.body u.rows u.end) = rw e (sym (ap place q)) in
      by_validation e is (rw is (drained_place u.body u.rows u.end e))

  stopped_tells : {strict : Bool} {r : Refusal} → Stopped u strict r → TellsPlace strict r
  stopped_tells (at_drain {cause = c} e) = record { seven = λ at q. of_cause c e q }
  stopped_tells (at_error e) = record { seven = λ at q. let z : ◌≡◌ {A = ℕ} 0 1 = cc in absurd (omega arith) }

  -- ---- in a text, which only a lenient reader meets
  in_text : (strict : Bool) {o : Opened} → OpenedAs u strict o → (k : ℕ) {v : List ℕ} {l : List Tok} {at : ℕ}
      → drop k (toks_of u.body o.seen.rows) ≡ matter (text v) ∷ l → unescaped v ≡ text.bad at
      → SevenAt strict (value_start_at o.seen.rows k + at)
  in_text true w k {v} e q =
      let valid = strict_valid u.body (rows_of u.rows) u.end k (rw w.seen at e) in
      no_bytes (sym q ∙ (valid_unescapes v valid).1)
  in_text false {o} w k e q =
      let view = (opened_in w).view in
      by_unescaping (fails_in_all view.count view.front (text_fails u.body o.seen.rows k e q))

  -- THE LAW, of an element that stands in what is read
  module _ {strict : Bool} {o : Opened} (w : OpenedAs u strict o) where
    inside_tells : {s : Scope} {d : Depth} {k : ℕ} {l : List Tok} {r : Refusal} → NoText (Stopped u strict) o.seen.rows s d k l r
        → drop k (toks_of u.body o.seen.rows) ≡ l → TellsPlace strict r
    inside_tells element_inside e = record { seven = λ at q. let z : ◌≡◌ {A = ℕ} 0 1 = cc in absurd (omega arith) }
    inside_tells (bad_reference {k = k} p) e = record { seven = λ at q. subst (SevenAt strict) (ap place q) (in_text strict w k e p) }
    inside_tells (rows_end n) e = stopped_tells n
    inside_tells (passed {k = k} p n) e = inside_tells n (at_next (toks_of u.body o.seen.rows) k e)

    pub text_tells : (c : Child) → Placed (toks_of u.body o.seen.rows) c → (r : Refusal) → text_of o.seen c ≡ refuses r
        → TellsPlace strict r
    text_tells c h r e = inside_tells ((opened_text_refusal u w c r).0 e).inside h.inner.at

  -- so the place lies in the body, whatever the number
  pub told_within : {strict : Bool} (r : Refusal) → TellsPlace strict r → place r ≤ length u.body
  told_within {strict} r t = go (telling r) t
    where
      go : {q : Refusal} → Telling q → TellsPlace strict q → place q ≤ length u.body
      go (seven at) t = omega (arith, seven_within (t.seven at refl))
      go (other q n p) t = omega (arith, p)
