-- Where a text fails: the place that a refusal 7 tells is that of the failing `&` in the value of the text's row. A strict view has no text
-- that fails; what it meets at its end is the drain's.
use Prim.Native.Nat.{ℕ, zero, suc, ◌+◌}
use mathlib.Core.Path.{◌≡◌, sym, ap, ◌∙◌}
use mathlib.Core.Bool.{Bool, true, false}
use mathlib.Core.List.{List, [], ◌∷◌, ◌++◌, cons≢nil, head-eq_of_cons-eq}
use mathlib.Core.Option.{some}
use lib.ListN.{take, drop}
use lib.Seq.{take_at, take-length}
use Rattle.std.specs.Prelude.{Err, Ok, Result}
use Rattle.refusal.specs.declared.Refusal.{Refusal}
use Rattle.reference.specs.Text.{validated, unescaped}
use Rattle.reference.specs.Text.Out.{bad}
use Rattle.reference.proofs.Place.{bad_is}
use Rattle.table.specs.Row.{Row, Tok, text, matter, value_of, toks_of}
use Rattle.xml.specs.declared.Cause.{Cause}
use Rattle.xml.specs.declared.DrainError.{DrainError}
use Rattle.xml.specs.Drain.{walked, reference_place}
use Rattle.xml.specs.Passed.{Faultless, at_row, at_the_end}
use Rattle.xml.proofs.First.{Answer, clean, faulty, answer}
use Rattle.xml.proofs.Means.{text_value}
use Rattle.xml.proofs.Closing.{toks_take}
use Rattle.xml.proofs.Place.{FailsIn, row_of, row_text}
use Rattle.document.specs.View.{strict_view, view}
use Rattle.document.specs.Text.{value_start_at}

-- ---- the value of a row
pub value_start_lem : (rows : List Row) (k : ℕ) {r : Row} {later : List Row} → drop k rows ≡ r ∷ later
    → value_start_at rows k ≡ r.value_start
unfolding value_start_at
value_start_lem [] zero e = absurd (cons≢nil (sym e))
value_start_lem [] (suc k) e = absurd (cons≢nil (sym e))
value_start_lem (x ∷ rows) zero e = ap (λ (y : Row). y.value_start) (head-eq_of_cons-eq e)
value_start_lem (x ∷ rows) (suc k) e = value_start_lem rows k e

-- a text in row k that does not unescape
pub text_fails : (body : List ℕ) (rows : List Row) (k : ℕ) {v : List ℕ} {l : List Tok} {at : ℕ}
    → drop k (toks_of body rows) ≡ matter (text v) ∷ l → unescaped v ≡ bad at → FailsIn false body rows k (value_start_at rows k + at)
unfolding unescaped
text_fails body rows k {at = at} e q =
    let w = row_of body rows k e in
    record {
      row = w.row;
      later = w.later;
      stands = w.stands;
      at = at;
      fails = (bad_is false (value_of body w.row) at).0 (rw (row_text body w.row w.is) q);
      offset = ap (λ (n : ℕ). n + at) (value_start_lem rows k w.stands);
    }

-- of a front of the rows, so of all
front_row : (n k : ℕ) (rows : List Row) {r : Row} {later : List Row} → drop k (take n rows) ≡ r ∷ later
    → (rest : List Row) × (drop k rows ≡ r ∷ rest)
front_row zero zero rows e = absurd (cons≢nil (sym e))
front_row zero (suc k) rows e = absurd (cons≢nil (sym e))
front_row (suc n) zero [] e = absurd (cons≢nil (sym e))
front_row (suc n) (suc k) [] e = absurd (cons≢nil (sym e))
front_row (suc n) zero (x ∷ rows) e = (rows, ap (λ (y : Row). y ∷ rows) (head-eq_of_cons-eq e))
front_row (suc n) (suc k) (x ∷ rows) e = front_row n k rows e

pub fails_in_all : {strict : Bool} {body : List ℕ} (n : ℕ) {front rows : List Row} {k place : ℕ} → front ≡ take n rows
    → FailsIn strict body front k place → FailsIn strict body rows k place
fails_in_all n {front} {rows} {k} e f =
    let w = front_row n k rows (ap (drop k) (sym e) ∙ f.stands) in
    record { row = f.row; later = w.0; stands = w.1; at = f.at; fails = f.fails; offset = f.offset }

-- ---- where the drain stops at a reference, a strict reader meets 7 at the end of its rows, with the place of the drain's cause
pub strict_stops : (body : List ℕ) (rows : List Row) (final : ℕ) {k : ℕ}
    → walked (toks_of body rows) ≡ Err (DrainError.IllFormed k Cause.BadReference)
    → (view true body rows final).failure ≡ some (Refusal.BadReference (reference_place body rows k))
unfolding view
strict_stops body rows final e = rw e

-- each text that it meets before is valid
parts_at : (k : ℕ) (s : List Tok) {t : Tok} {l : List Tok} → drop k s ≡ t ∷ l → (a : List Tok) × (s ≡ a ++ (t ∷ l))
parts_at zero s e = ([], e)
parts_at (suc k) [] e = absurd (cons≢nil (sym e))
parts_at (suc k) (x ∷ s) e = let w = parts_at k s e in (x ∷ w.0, ap (λ (r : List Tok). x ∷ r) w.1)

faultless_valid : {toks : List Tok} → Faultless toks → (k : ℕ) {v : List ℕ} {l : List Tok} → drop k toks ≡ matter (text v) ∷ l
    → validated v ≡ Ok tt
faultless_valid {toks} h k {v} {l} e = let w = parts_at k toks e in text_value h w.0 v l w.1

pub strict_valid : (body : List ℕ) (rows : List Row) (final k : ℕ) {v : List ℕ} {l : List Tok}
    → drop k (toks_of body (view true body rows final).rows) ≡ matter (text v) ∷ l → validated v ≡ Ok tt
unfolding view
strict_valid body rows final k {v} {l} e = go (walked (toks_of body rows)) (answer (toks_of body rows)) e
  where
    go : (x : Result (Unit {0}) DrainError) → Answer (toks_of body rows) x
        → drop k (toks_of body (strict_view body rows final x).rows) ≡ matter (text v) ∷ l
        → validated v ≡ Ok tt
    go x (clean h p) e = faultless_valid h k e
    go x (faulty {i = i} (at_row a t b q n h f)) e =
        let front : toks_of body (take i rows) ≡ a = toks_take body i rows ∙ ap (take i) q ∙ take_at a (t ∷ b) i (sym n) in
        faultless_valid h k (rw front at e)
    go x (faulty {i = i} (at_the_end n q h f)) e =
        let front : toks_of body (take i rows) ≡ toks_of body rows =
        toks_take body i rows ∙ ap (λ (m : ℕ). take m (toks_of body rows)) n ∙ take-length (toks_of body rows) in
        faultless_valid h k (rw front at e)
