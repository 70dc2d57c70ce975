-- Laws of pieces: where an element that is dropped ends, and its first byte and length.
use Prim.Native.Nat.{ℕ, zero, suc, ◌+◌, ◌-◌, ◌*◌, ◌^◌, ◌≤◌, ◌<◌}
use mathlib.Core.Path.{◌≡◌, refl, sym, ◌∙◌, ap}
use mathlib.Core.Bool.{true, false}
use mathlib.Core.List.{List, ◌∷◌}
use mathlib.Core.Logic.{∥∥₁_elim}
use native.Mathlib.Omega.{arith}
use lib.ListN.{length, get_or, take, drop}
use Rattle.std.specs.Coded.{le_prop}
use Rattle.table.specs.Rules.{last_position, begin_of}
use Rattle.table.specs.Flat.{row_at, rows_from}
use Rattle.table.specs.Piece.{piece_start}
use Rattle.table.specs.Rows.{InTable, Readable}
use Rattle.table.proofs.Flat.{drop_from}
use Rattle.document.specs.Scope.{piece_of}
use Rattle.decode.specs.declared.place.Past.{Past}
use Rattle.decode.specs.declared.place.Start.{Start}
use Rattle.decode.specs.declared.place.Cursor.{Cursor}
use Rattle.decode.specs.declared.view.View.{View}
use Rattle.decode.specs.declared.element.Element.{Element}
use Rattle.decode.specs.Seen.{Sees}
use Rattle.decode.specs.Place.{StartIn}
use Rattle.decode.specs.Reader.{DropIs}
use Rattle.decode.specs.Element.{EndIs, PieceOf}
use Rattle.decode.proofs.Known.{row_seen, take_rows}

-- ---- the end of a piece
last_row : (t : List ℕ) (s k p : ℕ) → last_position p (rows_from t s (suc k)) ≡ get_or t ((s + k) * 8 + 7) 0
last_row t s zero p = let z : s + 0 ≡ s = omega arith in rw z
last_row t s (suc k) p = let z : s + suc k ≡ suc s + k = omega arith in rw z (last_row t (suc s) k (get_or t (s * 8 + 7) 0))

module _ (v : View) (p : Past) (h : p.at.row ≤ v.count) where
  abbrev t : List ℕ
  t = v.table.rows.now

  abbrev n : ℕ
  n = v.count

  taken : take p.at.row (rows_from t 0 n) ≡ rows_from t 0 p.at.row
  taken = take_rows t 0 p.at.row n h

  pub end_out : p.ended ≡ false → EndIs v p v.ends
  end_out q = record { is = rw q; within = v.within }

  pub end_first : p.ended ≡ true → p.at.row ≡ 0 → EndIs v p 0
  end_first q z = record { is = rw (q, taken, z); within = omega arith }

  before : (p.at.row ≡ 0 → ⊥) → p.at.row ≡ suc (p.at.row - 1)
  before z = go p.at.row z
    where
      go : (k : ℕ) → (k ≡ 0 → ⊥) → k ≡ suc (k - 1)
      go zero z = absurd (z refl)
      go (suc k) z = omega arith

  pub end_in : (p.at.row ≡ 0 → ⊥) → InTable t (p.at.row - 1)
  end_in z = row_seen v.seen (omega (arith, before z, h))

  pub end_row : {x : ℕ} → p.ended ≡ true → (p.at.row ≡ 0 → ⊥) → x ≡ get_or t ((p.at.row - 1) * 8 + 7) 0 → EndIs v p x
  end_row {x} q z y =
      let k = p.at.row - 1 in
      let o : 0 + k ≡ k = omega arith in
      let l : rows_from t 0 p.at.row ≡ rows_from t 0 (suc k) = ap (rows_from t 0) (before z) in
      record {
        is = rw (q, taken, l) (y ∙ sym (rw o at (last_row t 0 k 0)));
        within = rw y (v.table.readable.each k (end_in z).row).position;
      }

-- ---- its first byte
drop_rows : (t : List ℕ) (s i m : ℕ) → i < m → drop i (rows_from t s m) ≡ row_at t (s + i) ∷ rows_from t (suc (s + i)) (m - suc i)
drop_rows t s i m h = let z : m - i ≡ suc (m - suc i) = omega arith in rw z at (drop_from t s i m)

module _ {body t : List ℕ} {n : ℕ} {s : Start} (o : StartIn body t n s) where
  pub start_begins : {x : ℕ} → x ≡ begin_of body (row_at t s.row) → x ≡ piece_start body (drop s.row (rows_from t 0 n))
  start_begins e =
      let z : 0 + s.row ≡ s.row = omega arith in
      e ∙ rw (rw z at (drop_rows t 0 s.row n (omega (arith, o.low, o.high))))

  begins : begin_of body (row_at t s.row) ≡ piece_start body (drop s.row (rows_from t 0 n))
  begins = start_begins refl

  pub begins_in : Readable body t → n * 8 ≤ length t → Sees body t n → begin_of body (row_at t s.row) ≤ length body
  begins_in r m q =
      let x : begin_of body (row_at t s.row) < get_or t (s.row * 8 + 3) 0 =
      ∥∥₁_elim (q.each s.row (omega (arith, o.low, o.high))) le_prop (λ r. (r.rules.tag_begins (rw o.starts)).before) in
      omega (arith, x, (r.each s.row (row_seen m (omega (arith, o.low, o.high))).row).local)

pub begins_low : (e : Element) → begin_of e.view.table.body.now (row_at e.view.table.rows.now e.start.row) ≤ length e.view.table.body.now
begins_low e = begins_in e.start_in e.view.table.readable e.view.seen e.view.sees

-- ---- the piece
module _ {v : View} {s : Start} {c : Cursor} {p : Past} (o : StartIn v.table.body.now v.table.rows.now v.count s)
    (w : DropIs v.table.body.now v.table.rows.now v.count s c p) {from end : ℕ}
    (a : from ≡ piece_start v.table.body.now (drop s.row (rows_from v.table.rows.now 0 v.count))) (b : EndIs v p end) where
  from_low : from ≤ length v.table.body.now
  from_low = omega (arith, a, begins o, begins_in o v.table.readable v.seen v.sees)

  pub piece_high : p.at.row ≤ v.count
  piece_high = w.stands.at.high

  pub piece_from : from < 2 ^ 32
  piece_from = omega (arith, from_low, v.small)

  pub piece_len : end - from < 2 ^ 32
  piece_len = omega (arith, b.within, v.small)

  pub piece_is : PieceOf v s c (record { start = from; len = end - from })
  unfolding piece_of
  piece_is = record { is = rw (← w.is, ← a, ← b.is); inside = omega (arith, b.within, from_low) }
