-- Laws of the stores that write rows counted from a place.
use Prim.Native.Nat.{ℕ, zero, suc, ◌+◌, ◌-◌, ◌*◌, ◌≤◌, ◌<◌}
use mathlib.Core.Path.{◌≡◌, refl, sym, ◌∙◌, ap}
use mathlib.Core.List.{List, [], ◌∷◌, ◌++◌, append_assoc}
use native.Mathlib.Numerals.{add-one}
use native.Mathlib.Omega.{arith}
use borrow.Author.Rules.{rules}
use lib.ListN.{length}
use borrow.Rule.Slice.PartMut.{put_mid}
use lib.Seq.{sets, length-sets, sets-eq, drop-drop}
use Rattle.lists.proofs.Overwrite.{sets_append}
use Rattle.table.specs.Row.{Row, table_of}
use Rattle.table.specs.Flat.{row_at, rows_from}
use Rattle.table.specs.Piece.{moved}
use Rattle.element.specs.Rows.{eight_numbers, moved_table}

-- ---- a store over the elements of `&mut out[at..at + 8]`
pub row_put : (old l : List ℕ) (at : ℕ) {p : List ℕ} → length l ≡ 8 → at + 8 ≤ length old → p ≡ l
    → put_mid at (at + 8 - at) old p ≡ sets old at l
row_put old l at e h f =
    let q : at + 8 - at ≡ length l = omega (arith, e) in
    rw (f, q, sets-eq l old at (omega (arith, e)), drop-drop, append_assoc)

-- ---- row after row: i of the rows from row k on
pub record Copying (t : List ℕ) (k n place : ℕ) (old new : List ℕ) (i : ℕ) : Type 0 where
  pub is : new ≡ sets old 0 (moved_table place (rows_from t k i))
  pub long : length new ≡ length old
  pub few : i ≤ n

pub copying_start : (t : List ℕ) (k n place : ℕ) (old : List ℕ) → Copying t k n place old old 0
unfolding table_of
copying_start t k n place old = record { is = refl; long = refl; few = omega arith }

rows_snoc : (t : List ℕ) (k i : ℕ) → rows_from t k (suc i) ≡ rows_from t k i ++ row_at t (k + i) ∷ []
rows_snoc t k zero = let z : k + 0 ≡ k = omega arith in rw z
rows_snoc t k (suc i) =
    let z : k + suc i ≡ suc k + i = omega arith in
    rw z (ap {B = List Row} (λ m. row_at t k ∷ m) (rows_snoc t (suc k) i))

moved_snoc : (place : ℕ) (l : List Row) (r : Row) → moved_table place (l ++ r ∷ []) ≡ moved_table place l ++ eight_numbers (moved place r)
unfolding table_of
moved_snoc place [] r = refl
moved_snoc place (x ∷ l) r =
    let m = moved place x in
    ap {B = List ℕ}
    (λ q. m.kind ∷ m.prefix_start ∷ m.prefix_len ∷ m.local_start ∷ m.local_len ∷ m.value_start ∷ m.value_len ∷ m.position ∷ q)
    (moved_snoc place l r)

pub moved_length : (place : ℕ) (t : List ℕ) (k i : ℕ) → length (moved_table place (rows_from t k i)) ≡ i * 8
unfolding table_of
moved_length place t k zero = refl
moved_length place t k (suc i) = let x = moved_length place t (suc k) i in omega arith

stored_more : (old front more : List ℕ) (n : ℕ) → length front ≡ n → sets (sets old 0 front) n more ≡ sets old 0 (front ++ more)
stored_more old front more n e = let z : 0 + length front ≡ n = omega (arith, e) in rw z at (sets_append old 0 front more)

copied_more : (t : List ℕ) (k place : ℕ) (old : List ℕ) (i : ℕ)
    → sets (sets old 0 (moved_table place (rows_from t k i))) (i * 8) (eight_numbers (moved place (row_at t (k + i))))
    ≡ sets old 0 (moved_table place (rows_from t k (suc i)))
copied_more t k place old i =
    let so_far = moved_table place (rows_from t k i) in
    let row = eight_numbers (moved place (row_at t (k + i))) in
    let all : moved_table place (rows_from t k (suc i)) ≡ so_far ++ row = ap (moved_table place) (rows_snoc t k i)
    ∙ moved_snoc place (rows_from t k i) (row_at t (k + i)) in
    stored_more old so_far row (i * 8) (moved_length place t k i) ∙ ap (λ (l : List ℕ). sets old 0 l) (sym all)

module _ {t : List ℕ} {k n place : ℕ} {old new : List ℕ} {i : ℕ} (c : Copying t k n place old new i) where
  pub copying_more : {next : List ℕ} {r m : Row} → r ≡ row_at t (k + i) → m ≡ moved place r → next ≡ sets new (i * 8) (eight_numbers m)
      → i < n
      → Copying t k n place old next (i + 1)
  copying_more {next} {r} {m} a b d h =
      let row = eight_numbers (moved place (row_at t (k + i))) in
      let e : next ≡ sets new (i * 8) row = d ∙ ap (λ (x : Row). sets new (i * 8) (eight_numbers x)) (b ∙ ap (moved place) a) in
      record {
        is = e ∙ (rw (c.is, add-one i) (copied_more t k place old i));
        long = ap length e ∙ (length-sets new (i * 8) row ∙ c.long);
        few = omega arith;
      }

  pub copying_in : n * 8 ≤ length old → i < n → i * 8 + 8 ≤ length new
  copying_in h l = omega (arith, c.long)

  pub copying_done : n ≤ i → new ≡ sets old 0 (moved_table place (rows_from t k n))
  copying_done h = let z : i ≡ n = omega (arith, c.few) in rw z at c.is

pub ruleset copying_laws = (rules, copying_start, copying_more, copying_in, copying_done)
