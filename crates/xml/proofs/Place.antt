-- The place of the drain's cause: where the drain stops at a reference, the value of its row fails validation, and the place is that of
-- the failing `&` in the body.
use Prim.Native.Nat.{ℕ, zero, suc, ◌+◌, ◌-◌, ◌<◌}
use mathlib.Core.Path.{◌≡◌, refl, sym, ap, ◌∙◌}
use mathlib.Core.Bool.{Bool, true}
use mathlib.Core.List.{List, [], ◌∷◌, cons≢nil, head-eq_of_cons-eq}
use native.Mathlib.Omega.{arith}
use lib.ListN.{length, get_or, drop, length-take, length-drop}
use lib.Seq.{drop-append_seam}
use Rattle.lists.specs.Characters.{ampersand}
use Rattle.reference.specs.Text.{validated}
use Rattle.reference.specs.Place.{FailsAt, NoReferenceAt, failing_at}
use Rattle.reference.specs.declared.BadReference.{BadReference}
use Rattle.reference.proofs.Grammar.{fails_sound}
use Rattle.reference.proofs.Place.{fails_within, fails_once, validate_bad_is}
use Rattle.table.specs.Row.{Row, Name, Tok, start, attr, gt, close, slash, text, misc, matter, bad, name_of, value_of, tok_as, tok_of}
use Rattle.table.specs.Row.{rows_of, toks_of}
use Rattle.table.proofs.Moved.{get_cut}
use Rattle.xml.specs.declared.Cause.{Cause}
use Rattle.xml.specs.declared.DrainError.{DrainError}
use Rattle.xml.specs.Passed.{Fault, bad_attribute, bad_text, FirstFault, at_row, at_the_end}
use Rattle.xml.specs.Drain.{walked, drained, reference_place, drain_place}
use Rattle.xml.proofs.First.{walk_ill_formed_is, drained_ill_formed_is}
use Rattle.std.specs.Prelude.{Result, Ok, Err}

-- ---- a place in the body at which the value of row k fails, where it is validated (strict) or unescaped (not)
pub record FailsIn (strict : Bool) (body : List ℕ) (rows : List Row) (k place : ℕ) : Type 0 where
  pub row : Row
  pub later : List Row
  pub stands : drop k rows ≡ row ∷ later
  -- counted from the start of the value
  pub at : ℕ
  pub fails : FailsAt strict (value_of body row) at
  pub offset : place ≡ row.value_start + at

module _ {strict : Bool} {body : List ℕ} {rows : List Row} {k place : ℕ} (f : FailsIn strict body rows k place) where
  short : f.at < length (value_of body f.row)
  short = fails_within strict (value_of body f.row) f.fails

  -- it lies inside the body
  pub place_within : place < length body
  place_within =
      let r = f.row in
      omega (arith, f.offset, short, length-take r.value_len (drop r.value_start body), length-drop r.value_start body)

  -- the byte there is `&`
  pub place_byte : get_or body place 0 ≡ ampersand
  place_byte =
      let r = f.row in
      let n : place < r.value_start + r.value_len =
      omega (arith, f.offset, short, length-take r.value_len (drop r.value_start body)) in
      let e : place - r.value_start ≡ f.at = omega (arith, f.offset) in
      sym (get_cut body r.value_start r.value_len place (omega (arith, f.offset)) n) ∙ ap (λ (i : ℕ). get_or (value_of body r) i 0) e
      ∙ f.fails.byte

-- of a value that is validated, by XML 1.0: what stands before it in the value has References [67] only, and none begins there
pub place_none : {body : List ℕ} {rows : List Row} {k place : ℕ} (f : FailsIn true body rows k place)
    → NoReferenceAt (value_of body f.row) f.at
place_none {body} f = fails_sound (value_of body f.row) f.at f.fails

-- a row has one such place at most
pub place_once : {strict : Bool} {body : List ℕ} {rows : List Row} {k i j : ℕ} → FailsIn strict body rows k i → FailsIn strict body rows k j
    → i ≡ j
place_once {strict} {body} f g =
    let q : g.row ≡ f.row = head-eq_of_cons-eq (sym g.stands ∙ f.stands) in
    let e : f.at ≡ g.at = fails_once strict (value_of body f.row) f.fails (rw q at g.fails) in
    f.offset ∙ ap (λ (n : ℕ). f.row.value_start + n) e ∙ ap (λ (r : Row). r.value_start + g.at) (sym q) ∙ sym g.offset

-- ---- the row that a token stands for
pub record RowOf (body : List ℕ) (rows : List Row) (k : ℕ) (t : Tok) : Type 0 where
  pub row : Row
  pub later : List Row
  pub stands : drop k rows ≡ row ∷ later
  pub is : tok_of body row ≡ t

pub row_of : (body : List ℕ) (rows : List Row) (k : ℕ) {t : Tok} {l : List Tok} → drop k (toks_of body rows) ≡ t ∷ l → RowOf body rows k t
row_of body [] zero e = absurd (cons≢nil (sym e))
row_of body [] (suc k) e = absurd (cons≢nil (sym e))
row_of body (r ∷ rows) zero e = record { row = r; later = rows; stands = refl; is = head-eq_of_cons-eq e }
row_of body (r ∷ rows) (suc k) e =
    let w = row_of body rows k e in
    record { row = w.row; later = w.later; stands = w.stands; is = w.is }

-- the value of an attribute or a text is its row's
abbrev Reads : List ℕ → Tok → Type 0
Reads v (start n) = Unit {0}
Reads v (attr m w) = v ≡ w
Reads v gt = Unit {0}
Reads v (close m) = Unit {0}
Reads v slash = Unit {0}
Reads v (matter (text w)) = v ≡ w
Reads v (matter misc) = Unit {0}
Reads v bad = Unit {0}

reads : (k : ℕ) (n : Name) (v : List ℕ) → Reads v (tok_as k n v)
unfolding tok_as
reads zero n v = tt {0}
reads (suc zero) n v = tt {0}
reads (suc (suc zero)) n v = refl
reads (suc (suc (suc zero))) n v = tt {0}
reads (suc (suc (suc (suc zero)))) n v = tt {0}
reads (suc (suc (suc (suc (suc zero))))) n v = tt {0}
reads (suc (suc (suc (suc (suc (suc zero)))))) n v = refl
reads (suc (suc (suc (suc (suc (suc (suc zero))))))) n v = tt {0}
reads (suc (suc (suc (suc (suc (suc (suc (suc k)))))))) n v = tt {0}

row_reads : (body : List ℕ) (r : Row) {t : Tok} → tok_of body r ≡ t → Reads (value_of body r) t
row_reads body r e = rw e at (reads r.kind (name_of body r) (value_of body r))

pub row_text : (body : List ℕ) (r : Row) {v : List ℕ} → tok_of body r ≡ matter (text v) → value_of body r ≡ v
row_text body r e = row_reads body r e

-- ---- THE PLACE
-- of a row that is there
pub reference_at : (body : List ℕ) (rows : List Row) (k : ℕ) {r : Row} {later : List Row} → drop k rows ≡ r ∷ later
    → reference_place body rows k ≡ r.value_start + failing_at (validated (value_of body r))
unfolding reference_place
reference_at body [] zero e = absurd (cons≢nil (sym e))
reference_at body [] (suc k) e = absurd (cons≢nil (sym e))
reference_at body (x ∷ rows) zero e =
    ap (λ (r : Row). r.value_start + failing_at (validated (value_of body r))) (head-eq_of_cons-eq e)
reference_at body (x ∷ rows) (suc k) e = reference_at body rows k e

-- a cause of the drain is told from the others
not_unclosed {ℓ} : {A : Type ℓ} → Cause.BadReference ≡ Cause.UnclosedElement → A
not_unclosed e = let z : ◌≡◌ {A = ℕ} 0 1 = cc in absurd (omega arith)

module _ (body : List ℕ) (rows : List Row) where
  value_place : {k : ℕ} {why : BadReference} {t : Tok} {v : List ℕ} (w : RowOf body rows k t) → value_of body w.row ≡ v
      → validated v ≡ Err why → FailsIn true body rows k (reference_place body rows k)
  value_place {k} {why} w q e =
      let v : validated (value_of body w.row) ≡ Err why = rw q e in
      record {
        row = w.row;
        later = w.later;
        stands = w.stands;
        at = why.at;
        fails = (validate_bad_is (value_of body w.row) why.at).0 v;
        offset = reference_at body rows k w.stands ∙ ap (λ (x : Result (Unit {0}) BadReference). w.row.value_start + failing_at x) v;
      }

  fault_place : {k : ℕ} {before : List Tok} {t : Tok} → RowOf body rows k t → Fault before t Cause.BadReference
      → FailsIn true body rows k (reference_place body rows k)
  fault_place w (bad_attribute f e) = value_place w (row_reads body w.row w.is) e
  fault_place w (bad_text e) = value_place w (row_reads body w.row w.is) e

  first_place : {k : ℕ} → FirstFault (toks_of body rows) k Cause.BadReference → FailsIn true body rows k (reference_place body rows k)
  first_place {k} (at_row a t b p n h f) =
      let e : drop k (toks_of body rows) ≡ t ∷ b = rw (p, n) (drop-append_seam a (t ∷ b)) in
      fault_place (row_of body rows k e) f
  first_place (at_the_end n q h f) = not_unclosed q

  -- where the walk stops at a reference, the value of that row fails validation, at the place of the cause
  pub walk_place : {k : ℕ} → walked (toks_of body rows) ≡ Err (DrainError.IllFormed k Cause.BadReference)
      → FailsIn true body rows k (reference_place body rows k)
  walk_place {k} e = first_place ((walk_ill_formed_is (toks_of body rows) k Cause.BadReference).0 e)

-- and of the drain
pub drained_place : (body table : List ℕ) (final : ℕ) {k : ℕ} → drained body table final ≡ Err (DrainError.IllFormed k Cause.BadReference)
    → FailsIn true body (rows_of table) k (drain_place body (rows_of table) (drained body table final))
unfolding drain_place
drained_place body table final {k} e =
    rw e (first_place body (rows_of table) ((drained_ill_formed_is body table final k Cause.BadReference).0 e).1)

-- only a reference has a place: 0 where the cause is another, and where the drain does not answer 9
pub no_drain_place : (body : List ℕ) (rows : List Row) (d : Result (Unit {0}) DrainError)
    → ((k : ℕ) → d ≡ Err (DrainError.IllFormed k Cause.BadReference) → ⊥)
    → drain_place body rows d ≡ 0
unfolding drain_place
no_drain_place body rows (Ok u) f = refl
no_drain_place body rows (Err DrainError.Table) f = refl
no_drain_place body rows (Err (DrainError.IllFormed k Cause.TokenError)) f = refl
no_drain_place body rows (Err (DrainError.IllFormed k Cause.MismatchedEnd)) f = refl
no_drain_place body rows (Err (DrainError.IllFormed k Cause.UnclosedElement)) f = refl
no_drain_place body rows (Err (DrainError.IllFormed k Cause.RepeatedAttribute)) f = refl
no_drain_place body rows (Err (DrainError.IllFormed k Cause.BadReference)) f = absurd (f k refl)
