-- Demand 3: each element of a table that passes is a piece that passes again.
use Prim.Native.Nat.{ℕ, ◌+◌, ◌-◌, ◌≤◌}
use mathlib.Core.Path.{◌≡◌, sym, ap, ◌∙◌}
use mathlib.Core.Logic.{inl}
use mathlib.Core.List.{List, []}
use native.Mathlib.Omega.{arith}
use lib.ListN.{length, take, drop}
use Rattle.table.specs.Row.{Row, Tok, cut, rows_of, table_of, toks_of}
use Rattle.table.proofs.RowLaws.{rows_table, table_whole}
use Rattle.table.specs.Rules.{last_position, Rules, TableRules}
use Rattle.table.specs.Piece.{element_rows, piece_start, piece_bytes, piece_rows, ElementAt}
use Rattle.table.proofs.Moved.{get_cut, length_cut}
use Rattle.table.proofs.Element.{element_is, Bounds, piece_bounds, piece_rules, piece_toks}
use Rattle.xml.specs.Grammar.{Element, no_misc, document}
use Rattle.xml.specs.Drain.{drained}
use Rattle.xml.proofs.Pass.{drained_document_is}
use Rattle.xml.proofs.Past.{past_element}
use Rattle.xml.proofs.Again.{again_element, is_element}
use Rattle.xml.proofs.Closing.{element_at, element_toks, element_last}
use Rattle.xml.specs.Piece.{PieceAt}
use Rattle.std.specs.Prelude.{Ok}

-- an element's bytes are those that the table's definitions cut out
module _ {body : List ℕ} {rows : List Row} {k from : ℕ} (a : ElementAt body rows k from) where
  begins_at : piece_start body (element_rows rows k) ≡ from
  begins_at = rw (element_is rows k a.cut_at a.starts) a.begins

  bytes_are : (len : ℕ) → from + len ≡ last_position 0 (element_rows rows k) → cut body from len ≡ piece_bytes body (element_rows rows k)
  bytes_are len e =
      let n : len ≡ last_position 0 (element_rows rows k) - from = omega arith in
      rw (begins_at, n)

pub piece_bytes_lem : {body table : List ℕ} {row from len : ℕ} (p : PieceAt body table row from len)
    → cut body from len ≡ piece_bytes body (element_rows (rows_of table) row)
piece_bytes_lem {len = len} p = bytes_are p.element len p.ends

-- the table of an element of a document passes the drain
alone : {body table : List ℕ} {final from : ℕ} (len : ℕ) → TableRules body table final → {l r : List Tok} (e : Element l r) (k : ℕ)
    → drop k (toks_of body (rows_of table)) ≡ l
    → (a : ElementAt body (rows_of table) k from) → from + len ≡ last_position 0 (element_rows (rows_of table) k) → from + len ≤ length body
    → drained (cut body from len) (table_of (piece_rows body (element_rows (rows_of table) k))) len ≡ Ok tt
alone {body} {table} {final} {from} len t e k h a ends inside =
    let rows = element_rows (rows_of table) k in
    let is : cut body from len ≡ piece_bytes body rows = bytes_are a len ends in
    let long : length (piece_bytes body rows) ≡ len = ap length (sym is) ∙ length_cut body from len inside in
    let rules : Rules (cut body from len) (piece_rows body rows) len = rw (is, ← long) (piece_rules t.rules a) in
    let toks : toks_of (cut body from len) (piece_rows body rows) ≡ again_element e [] =
    rw is (piece_toks t.rules a ∙ element_toks body (rows_of table) e k h) in
    (drained_document_is (cut body from len) (table_of (piece_rows body rows)) len).1 (
      record { whole = table_whole (piece_rows body rows); rules = rw (rows_table (piece_rows body rows)) rules },
      inl (rw (rows_table (piece_rows body rows), toks) (document no_misc (is_element e []) no_misc)),
    )

-- THEOREM: in a table that passes, each element of the grammar, in whatever row it starts, is such a piece
pub element_piece : {body table : List ℕ} (final : ℕ) → drained body table final ≡ Ok tt
    → {l r : List Tok} (e : Element l r) (k : ℕ) → drop k (toks_of body (rows_of table)) ≡ l
    → PieceAt body table k (piece_start body (drop k (rows_of table)))
    (last_position 0 (take (past_element e k) (rows_of table)) - piece_start body (drop k (rows_of table)))
element_piece {body} {table} final passes e k h =
    let rows = rows_of table in
    let t = ((drained_document_is body table final).0 passes).0 in
    let a = element_at body rows e k h in
    let b : Bounds body (piece_start body (drop k rows)) (last_position 0 (take (past_element e k) rows)) =
    rw (element_last body rows e k h) at (piece_bounds t.rules a) in
    let from = piece_start body (drop k rows) in
    let len = last_position 0 (take (past_element e k) rows) - from in
    let ends : from + len ≡ last_position 0 (element_rows rows k) = omega (arith, b.rises, element_last body rows e k h) in
    let inside : from + len ≤ length body = omega (arith, b.rises, b.within) in
    record { element = a; ends = ends; inside = inside; again = alone len t e k h a ends inside }

-- a piece of a table that passes is not empty, begins with `<` and ends with `>`
pub piece_ends : {body table : List ℕ} {row from len : ℕ} (final : ℕ) → drained body table final ≡ Ok tt
    → PieceAt body table row from len → Bounds (cut body from len) 0 len
piece_ends {body} {table} {row} {from} {len} final passes p =
    let b : Bounds body from (from + len) =
    rw p.ends (piece_bounds ((drained_document_is body table final).0 passes).0.rules p.element) in
    let first : from - from ≡ 0 = omega arith in
    let last : from + len - 1 - from ≡ len - 1 = omega (arith, b.rises) in
    record {
      rises = omega (arith, b.rises);
      within = omega (arith, length_cut body from len p.inside);
      lt = rw first at (get_cut body from len from (omega arith) b.rises) ∙ b.lt;
      gt = rw last at (get_cut body from len (from + len - 1) (omega (arith, b.rises)) (omega (arith, b.rises))) ∙ b.gt;
    }
