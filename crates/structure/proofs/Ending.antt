-- Laws of an unwrapped structure: the root by its rows, up to the row that closes it by depth, as one piece.
use Prim.Native.Nat.{ℕ, suc, ◌+◌, ◌*◌, ◌-◌, ◌^◌, ◌≤◌, ◌<◌}
use mathlib.Core.Path.{◌≡◌, sym, ◌∙◌, ap}
use mathlib.Core.Bool.{Bool, true, false}
use mathlib.Core.List.{List, ◌∷◌}
use native.Mathlib.Omega.{arith}
use borrow.Author.Tests.{eq-eqb, ne_eqb}
use lib.Dec.{eqb}
use lib.ListN.{get_or}
use Rattle.lists.specs.Tests.{pick}
use Rattle.table.specs.Row.{Row}
use Rattle.table.specs.Rules.{begin_of, closes_element, open_count}
use Rattle.table.specs.Rows.{InTable}
use Rattle.table.specs.Flat.{row_at, rows_from}
use Rattle.table.proofs.Flat.{unroll, rolled_out, drop_from}
use Rattle.table.specs.Piece.{closing, is_closed, piece_start}
use Rattle.decode.specs.declared.element.Element.{Element}
use Rattle.decode.proofs.Pieces.{begins_low}
use Rattle.readings.specs.Structure.{root_piece}
use Rattle.opening.specs.Opening.{body_of, opened_of}
use Rattle.structure.specs.Unwrapped.{end_from, EndIs}

end_here : (ends p n : ℕ) (r : Row) (rest : List Row) → open_count n r.kind ≡ 0 → end_from ends p n (r ∷ rest) ≡ r.position
unfolding is_closed closing
end_here ends p n r rest e = rw (eq-eqb (open_count n r.kind) 0 e)

end_on : (ends p n : ℕ) (r : Row) (rest : List Row) → (open_count n r.kind ≡ 0 → ⊥) → end_from ends p n (r ∷ rest)
    ≡ end_from ends r.position (open_count n r.kind) rest
unfolding is_closed closing
end_on ends p n r rest e = rw (ne_eqb (open_count n r.kind) 0 e)

-- no more than one is open that was not before
count_low : (n kind : ℕ) → open_count n kind ≤ n + 1
count_low n kind = go (eqb kind 1) (closes_element kind)
  where
    go : (a b : Bool) → pick a (suc n) (pick b (n - 1) n) ≤ n + 1
    go true b = omega arith
    go false true = omega arith
    go false false = omega arith

in_table : (e : Element) {k : ℕ} → k < e.view.count → InTable e.view.table.rows.now k
in_table e h = record { row = omega (arith, e.view.seen) }

-- ---- the loop: n are open before row k
module _ (e : Element) where
  abbrev rows : ℕ → List Row
  rows k = rows_from e.view.table.rows.now k (e.view.count - k)

  pub record EndAt (n k : ℕ) : Type 0 where
    pub low : e.start.row ≤ k
    pub few : n ≤ k
    pub last : ℕ
    pub rest : end_from e.view.ends last n (rows k) ≡ end_from e.view.ends 0 0 (rows e.start.row)

  module _ {n k : ℕ} (a : EndAt n k) where
    pub end_out : e.view.count ≤ k → EndIs e e.view.ends
    unfolding is_closed
    end_out h = record { is = rw (rolled_out e.view.table.rows.now k e.view.count h) at a.rest; low = e.view.within }

    module _ (h : k < e.view.count) {kind m : ℕ} (f : kind ≡ get_or e.view.table.rows.now (k * 8 + 0) 0) (g : m ≡ open_count n kind) where
      z : m ≡ open_count n (row_at e.view.table.rows.now k).kind
      z = rw f at g

      at_row : end_from e.view.ends a.last n (row_at e.view.table.rows.now k ∷ rows (k + 1))
          ≡ end_from e.view.ends 0 0 (rows e.start.row)
      at_row = rw (unroll e.view.table.rows.now k e.view.count h) at a.rest

      pub end_goes : (m ≡ 0 → ⊥) → EndAt m (k + 1)
      end_goes u =
          record {
            low = omega (arith, a.low);
            few = omega (arith, a.few, g, count_low n kind);
            last = get_or e.view.table.rows.now (k * 8 + 7) 0;
            rest = rw z (sym (end_on e.view.ends a.last n (row_at e.view.table.rows.now k) (rows (k + 1)) (λ y. u (z ∙ y))) ∙ at_row);
          }

      pub end_found : {r : ℕ} → m ≡ 0 → r ≡ get_or e.view.table.rows.now (k * 8 + 7) 0 → EndIs e r
      end_found u p =
          record {
            is = p ∙ (sym (end_here e.view.ends a.last n (row_at e.view.table.rows.now k) (rows (k + 1)) (sym z ∙ u)) ∙ at_row);
            low = rw p (e.view.table.readable.each k (in_table e h).row).position;
          }

-- ---- the piece
module _ (e : Element) where
  abbrev t : List ℕ
  t = e.view.table.rows.now

  pub first : e.start.row < e.view.count
  first = omega (arith, e.start_in.low, e.start_in.high)

  begins : begin_of (body_of e) (row_at t e.start.row) ≡ piece_start (body_of e) (rows e e.start.row)
  begins = sym (ap (piece_start (body_of e)) (unroll t e.start.row e.view.count first))

  module _ {from end : ℕ} (a : from ≡ begin_of (body_of e) (row_at t e.start.row)) (b : EndIs e end) where
    pub piece_from : from < 2 ^ 32
    piece_from = omega (arith, a, begins_low e, e.view.small)

    pub piece_is : record { start = from; len = end - from } ≡ root_piece (body_of e) (opened_of e)
    unfolding root_piece
    piece_is =
        let z : 0 + e.start.row ≡ e.start.row = omega arith in
        rw (rw z at (drop_from t 0 e.start.row e.view.count), ← begins, ← a, ← b.is)
