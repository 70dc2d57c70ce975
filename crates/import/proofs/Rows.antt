-- The rows of a piece: the row that is found for it is its element's, and what is copied is that element's rows, counted from its first
-- byte.
use Prim.Native.Nat.{ℕ, zero, suc, ◌+◌, ◌-◌, ◌*◌, ◌/◌, ◌≤◌, ◌<◌}
use mathlib.Core.Path.{◌≡◌, refl, sym, ◌∙◌, ap}
use mathlib.Core.Bool.{Bool, true, false}
use mathlib.Core.List.{List, ◌∷◌, cons≢nil, head-eq_of_cons-eq}
use native.Mathlib.Omega.{arith}
use borrow.Author.Tests.{leb-true, leb-false}
use lib.Dec.{leb}
use lib.ListN.{length, get_or, take, drop}
use lib.Seq.{sets}
use Rattle.lists.proofs.Overwrite.{take_sets}
use Rattle.table.specs.Row.{Row, rows_of, table_of}
use Rattle.table.specs.Rules.{Place, at_first, last_lt, EachRow, row, TableRules}
use Rattle.table.specs.Flat.{row_at, rows_from}
use Rattle.table.proofs.Flat.{length_rows, rows_same, rows_whole, here_or_later, drop_from}
use Rattle.table.specs.Piece.{closing, element_rows, piece_start, piece_rows, ElementAt}
use Rattle.table.proofs.Element.{element_is}
use Rattle.decode.proofs.Known.{take_rows}
use Rattle.element.specs.Rows.{moved_table, FirstAfter}
use Rattle.element.proofs.Numbers.{moved_length}
use Rattle.element.proofs.Rows.{closing_low}

module _ (body t : List ℕ) where
  -- the tag of a start row begins not before a place, and before its local name
  pub record Begun (place k : ℕ) : Type 0 where
    pub late : get_or t (k * 8 + 0) 0 ≡ 1 → place ≤ last_lt body (get_or t (k * 8 + 3) 0)
    pub before : get_or t (k * 8 + 0) 0 ≡ 1 → last_lt body (get_or t (k * 8 + 3) 0) < get_or t (k * 8 + 3) 0

  begun : (m s k : ℕ) {p : Place} → EachRow body p (rows_from t s m) → s ≤ k → k < s + m → Begun p.position k
  begun zero s k e l u = absurd (omega arith)
  begun (suc m) s k {p} (row o r) l u =
      here_or_later (Begun p.position) s k l
      (record { late = λ q. (o.tag_begins (rw q)).late; before = λ q. (o.tag_begins (rw q)).before })
      (λ h. let b = begun m (suc s) k r h (omega arith) in
      record { late = λ q. omega (arith, o.position_rises, b.late q); before = b.before })

  -- the local name of an earlier start row stands before it
  pub record Early (k i : ℕ) : Type 0 where
    pub is : i < k → get_or t (i * 8 + 0) 0 ≡ 1 → get_or t (k * 8 + 0) 0 ≡ 1
        → get_or t (i * 8 + 3) 0 ≤ last_lt body (get_or t (k * 8 + 3) 0)

  early : (m s i k : ℕ) {p : Place} → EachRow body p (rows_from t s m) → s ≤ i → k < s + m → Early k i
  early zero s i k e l u = record { is = λ h. absurd (omega arith) }
  early (suc m) s i k (row o r) l u =
      here_or_later (Early k) s i l
      (record { is = λ h a b. omega (arith, (o.local_start (rw a)).1, (begun m (suc s) k r (omega arith) (omega arith)).late b) })
      (λ h. early m (suc s) i k r h (omega arith))

-- the row at a number
at_row : (t : List ℕ) (s i m : ℕ) {first : Row} {rest : List Row} → drop i (rows_from t s m) ≡ first ∷ rest
    → (i < m) × (row_at t (s + i) ≡ first)
at_row t s i m {first} {rest} e = go (m - i) refl (sym (drop_from t s i m) ∙ e)
  where
    go : (n : ℕ) → m - i ≡ n → rows_from t (s + i) n ≡ first ∷ rest → (i < m) × (row_at t (s + i) ≡ first)
    go zero q z = absurd (cons≢nil (sym z))
    go (suc n) q z = (omega arith, head-eq_of_cons-eq z)

module _ {body t : List ℕ} {end : ℕ} (rules : TableRules body t end) where
  flat : rows_of t ≡ rows_from t 0 (length t / 8)
  flat = rows_same (length t / 8) t (rows_whole t rules.whole)

  pub few_rows_lem : length t / 8 ≤ 8192
  few_rows_lem = let x : length (rows_of t) ≤ 8192 = rules.rules.few_rows in omega (arith, rw flat at x, length_rows t 0 (length t / 8))

  module _ {k from : ℕ} (a : ElementAt body (rows_of t) k from) where
    there : (k < length t / 8) × (row_at t k ≡ a.first)
    there =
        let x = at_row t 0 k (length t / 8) (rw flat at a.cut_at) in
        let z : 0 + k ≡ k = omega arith in
        (x.0, rw z at x.1)

    kind_is : get_or t (k * 8 + 0) 0 ≡ 1
    kind_is = ap (λ (r : Row). r.kind) there.1 ∙ a.starts

    begin_is : last_lt body (get_or t (k * 8 + 3) 0) ≡ from
    begin_is = ap (λ (r : Row). last_lt body r.local_start) there.1 ∙ a.begins

    each : EachRow body at_first (rows_from t 0 (length t / 8))
    each = rw flat at rules.rules.each

    -- the row that is found for a piece is its element's
    pub row_is : {r : ℕ} → FirstAfter t from r → r ≡ k
    row_is {r} f = go (leb (suc r) k) refl (leb (suc k) r) refl
      where
        after : from < get_or t (k * 8 + 3) 0
        after = rw begin_is at ((begun body t (length t / 8) 0 k each (omega arith) (omega (arith, there.0))).before kind_is)

        go : (x : Bool) → leb (suc r) k ≡ x → (y : Bool) → leb (suc k) r ≡ y → r ≡ k
        go true p y q =
            let h = leb-true (suc r) k p in
            let s = f.found (omega (arith, there.0)) in
            let l = rw begin_is at ((early body t (length t / 8) 0 r k each (omega arith) (omega (arith, there.0))).is h
            s.starts kind_is) in
            absurd (omega (arith, l, s.after))
        go false p true q = absurd (f.first k (leb-true (suc k) r q) (record { starts = kind_is; after = after }))
        go false p false q = omega (arith, leb-false (suc r) k p, leb-false (suc k) r q)

    -- its rows by number
    pub element_rows_lem : element_rows (rows_of t) k ≡ rows_from t k (closing 0 (rows_from t k (length t / 8 - k)))
    element_rows_lem =
        let z : 0 + k ≡ k = omega arith in
        let d : drop k (rows_of t) ≡ rows_from t k (length t / 8 - k) = ap (drop k) flat ∙ rw z at (drop_from t 0 k (length t / 8)) in
        let low = closing_low 0 (rows_from t k (length t / 8 - k)) in
        rw d (take_rows t k (closing 0 (rows_from t k (length t / 8 - k))) (length t / 8 - k)
        (omega (arith, low, length_rows t k (length t / 8 - k))))

    -- counted from its first byte
    pub piece_table : moved_table from (rows_from t k (closing 0 (rows_from t k (length t / 8 - k)))) ≡ table_of
        (piece_rows body (element_rows (rows_of t) k))
    piece_table =
        let b : piece_start body (element_rows (rows_of t) k) ≡ from = rw (element_is (rows_of t) k a.cut_at a.starts) a.begins in
        rw (b, element_rows_lem)

pub copied : (old t : List ℕ) (from k n : ℕ) → n * 8 ≤ length old
    → take (n * 8) (sets old 0 (moved_table from (rows_from t k n))) ≡ moved_table from (rows_from t k n)
copied old t from k n h =
    let x = moved_table from (rows_from t k n) in
    let z : 0 + length x ≡ n * 8 = omega (arith, moved_length from t k n) in
    rw z at (take_sets old 0 x (omega (arith, moved_length from t k n)))
