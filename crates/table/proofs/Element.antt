-- An element of a table as a table of its own: its rows, counted from its first byte, with the piece as body and its length as final
-- position, obey the rules and stand for the same tokens.
use Prim.Native.Nat.{ℕ, zero, suc, ◌+◌, ◌-◌, ◌≤◌, ◌<◌}
use mathlib.Core.Path.{◌≡◌, refl, ap}
use mathlib.Core.Bool.{Bool, true, false}
use mathlib.Core.List.{List, [], ◌∷◌, map}
use native.Mathlib.Omega.{arith}
use borrow.Author.Tests.{eqb-true, eqb-false}
use lib.Dec.{eqb, lit<}
use lib.ListN.{length, take, drop, get_or}
use Rattle.lists.specs.Tests.{pick}
use Rattle.lists.proofs.Tests.{false_true}
use Rattle.utf8.proofs.Cut.{utf8_part}
use Rattle.table.specs.Row.{Row, cut, toks_of}
use Rattle.table.specs.Rules.{closes_element, ends_in_gt, open_count, Place, begin_of, RowRules, EachRow, none, row, last_position, Rules}
use Rattle.table.specs.Piece.{moved, closing, is_closed, element_rows, piece_bytes, piece_rows, piece_final, ElementAt}
use Rattle.table.proofs.Flat.{last_high}
use Rattle.table.proofs.Moved.{length_cut, moved_toks, element_rows_lem, last_taken}

-- ---- parts of a table
each_drop : {body : List ℕ} (k : ℕ) {p : Place} {rows : List Row} → EachRow body p rows → (q : Place) × EachRow body q (drop k rows)
each_drop zero {p} e = (p, e)
each_drop (suc k) {p} none = (p, none)
each_drop (suc k) (row o t) = each_drop k t

pub each_take : {body : List ℕ} (c : ℕ) {p : Place} {rows : List Row} → EachRow body p rows
    → last_position p.position (take c rows) ≤ last_position p.position rows
each_take zero e = last_high e
each_take (suc c) none = omega arith
each_take (suc c) (row o t) = each_take c t

last_from : (q p : ℕ) (rows : List Row) → q ≤ last_position p rows → last_position q rows ≤ last_position p rows
last_from q p [] h = h
last_from q p (r ∷ rest) h = omega arith

pub last_drop : {body : List ℕ} (k : ℕ) {p : Place} {rows : List Row} → EachRow body p rows → (q : ℕ) → q ≤ last_position p.position rows
    → last_position q (drop k rows) ≤ last_position p.position rows
last_drop zero {p} {rows} e q h = last_from q p.position rows h
last_drop (suc k) none q h = h
last_drop (suc k) (row o t) q h = last_drop k t q h

last_moved : (s p : ℕ) (rows : List Row) → last_position (p - s) (map (moved s) rows) ≡ last_position p rows - s
last_moved s p [] = refl
last_moved s p (r ∷ rest) = last_moved s r.position rest

length_taken : (s c : ℕ) (rows : List Row) → length (map (moved s) (take c rows)) ≤ length rows
length_taken s zero rows = omega arith
length_taken s (suc c) [] = omega arith
length_taken s (suc c) (r ∷ rest) = let x = length_taken s c rest in omega arith

length_dropped : (k : ℕ) (rows : List Row) → length (drop k rows) ≤ length rows
length_dropped zero rows = omega arith
length_dropped (suc k) [] = omega arith
length_dropped (suc k) (r ∷ rest) = let x = length_dropped k rest in omega arith

-- ---- the row that closes an element ends in `>`
close_ends : (k : ℕ) → closes_element k ≡ true → ends_in_gt k ≡ true
close_ends k = go (eqb k 3) (eqb k 4) (eqb k 5)
  where
    go : (a b c : Bool) → pick b true (pick c true false) ≡ true → pick a true (pick b true (pick c true false)) ≡ true
    go true b c e = refl
    go false b c e = e

positive : (m : ℕ) → (m ≡ 0 → ⊥) → 0 < m
positive zero f = absurd (f refl)
positive (suc m) f = omega arith

-- a row after which none is open, and some were before it, is of kind 4 or 5
closes_is : (n : ℕ) (r : Row) → 0 < n → open_count n r.kind ≡ 0 → closes_element r.kind ≡ true
closes_is n r h = go (eqb r.kind 1) (closes_element r.kind)
  where
    go : (a b : Bool) → pick a (suc n) (pick b (n - 1) n) ≡ 0 → b ≡ true
    go true b e = absurd (omega arith)
    go false true e = refl
    go false false e = absurd (omega arith)

closed_ends : {body : List ℕ} (n : ℕ) {p : Place} {rows : List Row} → 0 < n → EachRow body p rows → is_closed n rows ≡ true
    → get_or body (last_position p.position (take (closing n rows) rows) - 1) 0 ≡ 62
unfolding closing is_closed
closed_ends n h none e = false_true e
closed_ends {body} n h (row {p} {r} {rest} o t) e = go (eqb (open_count n r.kind) 0) refl e (λ m l. closed_ends m l t)
  where
    go : (c : Bool) → eqb (open_count n r.kind) 0 ≡ c → pick c true (is_closed (open_count n r.kind) rest) ≡ true
        → ((m : ℕ) → 0 < m → is_closed m rest ≡ true → get_or body (last_position r.position (take (closing m rest) rest) - 1) 0 ≡ 62)
        → get_or body (last_position p.position (take (suc (pick c 0 (closing (open_count n r.kind) rest))) (r ∷ rest)) - 1) 0 ≡ 62
    go true q e ih = (o.ending.gt (close_ends r.kind (closes_is n r h (eqb-true (open_count n r.kind) 0 q)))).1
    go false q e ih = let some : open_count n r.kind ≡ 0 → ⊥ = eqb-false (open_count n r.kind) 0 q in
        ih (open_count n r.kind) (positive (open_count n r.kind) some) e

-- ---- the theorems
-- the rows of an element: its start row first
pub element_is : (rows : List Row) (k : ℕ) {first : Row} {rest : List Row} → drop k rows ≡ first ∷ rest → first.kind ≡ 1
    → element_rows rows k ≡ first ∷ take (closing 1 rest) rest
unfolding closing
element_is rows k {first} {rest} e one = rw (e, one)

-- where an element begins and ends in the body, and with which bytes: `<` and `>`
pub record Bounds (body : List ℕ) (from end : ℕ) : Type 0 where
  pub rises : from < end
  pub within : end ≤ length body
  pub lt : get_or body from 0 ≡ 60
  pub gt : get_or body (end - 1) 0 ≡ 62

bounds : {body : List ℕ} {p : Place} {r : Row} {rest : List Row} → EachRow body p (r ∷ rest) → r.kind ≡ 1 → is_closed 1 rest ≡ true
    → last_position r.position rest ≤ length body
    → Bounds body (begin_of body r) (last_position r.position (take (closing 1 rest) rest))
bounds {rest = rest} (row o t) one e u =
    let b = o.tag_begins (rw one) in
    let x = o.local_start (rw one) in
    record {
      rises = omega (arith, b.before, x.1, last_taken t (closing 1 rest));
      within = omega (arith, each_take (closing 1 rest) t);
      lt = b.is;
      gt = closed_ends 1 (omega arith) t e;
    }

-- a start row obeys the rules of rows from its own `<` on
from_begin : {body : List ℕ} {p : Place} {r : Row} {rest : List Row} → RowRules body p r rest → r.kind ≡ 1
    → RowRules body (record { position = begin_of body r; in_tag = p.in_tag; nesting = p.nesting; rooted = p.rooted }) r rest
from_begin {body} {p} {r} o one =
    let b = o.tag_begins (rw one) in
    let x = o.local_start (rw one) in
    record {
      known_kind = o.known_kind;
      zero_fields = o.zero_fields;
      position_rises = omega (arith, b.before, x.1);
      filled_spans = record {
        prefix = λ h. (omega (arith, b.prefix h), (o.filled_spans.prefix h).1);
        local = λ h. (omega (arith, b.before), (o.filled_spans.local h).1);
        value = λ h. absurd (omega (arith, o.zero_fields.value (rw one)));
      };
      local_start = λ e. (omega (arith, b.before), x.1);
      tag_begins = λ e. record { is = b.is; before = b.before; late = omega arith; prefix = b.prefix };
      ending = o.ending;
      tag_order = record { inside = o.tag_order.inside; outside = o.tag_order.outside };
      needs_open = o.needs_open;
      after_root = o.after_root;
      error_last = o.error_last;
      open_limit = o.open_limit;
    }

-- the rows of an element stand for the same tokens over any piece that begins with it and holds it
element_toks : (body : List ℕ) (n c : ℕ) {p : Place} {r : Row} {rest : List Row} → EachRow body p (r ∷ rest) → r.kind ≡ 1
    → last_position r.position (take c rest) ≤ begin_of body r + n
    → toks_of (cut body (begin_of body r) n) (map (moved (begin_of body r)) (r ∷ take c rest)) ≡ toks_of body (r ∷ take c rest)
element_toks body n c {r = r} (row o t) one u = moved_toks body (begin_of body r) n (suc c) (row (from_begin o one) t) (omega arith) u

-- an element of a table that obeys the rules
module _ {body : List ℕ} {rows : List Row} {final k place : ℕ} (g : Rules body rows final) (a : ElementAt body rows k place) where
  each : (p : Place) × EachRow body p (a.first ∷ a.rest)
  each = let x = each_drop k g.each in (x.0, rw a.cut_at at x.1)

  far : last_position a.first.position a.rest ≤ length body
  far = omega (arith, rw a.cut_at at (last_drop k g.each 0 (omega arith)), g.ends, g.within)

  abbrev begin : ℕ
  begin = begin_of body a.first

  abbrev end : ℕ
  end = last_position a.first.position (take (closing 1 a.rest) a.rest)

  bytes : Bounds body begin end
  bytes = bounds each.1 a.starts a.closes far

  -- it runs from a `<` to a `>` of the body
  pub piece_bounds : Bounds body place (last_position 0 (element_rows rows k))
  piece_bounds = rw (element_is rows k a.cut_at a.starts, ← a.begins) bytes

  -- its table: its rows, its bytes and its final position obey the rules
  pub piece_rules : Rules (piece_bytes body (element_rows rows k)) (piece_rows body (element_rows rows k))
      (piece_final body (element_rows rows k))
  piece_rules =
      rw (element_is rows k a.cut_at a.starts)
      (record {
        few_rows = omega (
          arith,
          length_taken begin (closing 1 a.rest) a.rest,
          ap length a.cut_at,
          length_dropped k rows,
          g.few_rows,
        );
        few_bytes = omega (arith, long, g.few_bytes, bytes.within);
        utf8 = λ h. utf8_part body begin end bytes.rises bytes.within (rw bytes.lt (lit< tt)) (rw bytes.gt (lit< tt))
            (g.utf8 some);
        ends = omega (arith, long, rw zero_is at (last_moved begin begin (a.first ∷ take (closing 1 a.rest) a.rest)));
        within = omega arith;
        each = element_rows_lem body (end - begin) each.1 a.starts (omega (arith, bytes.rises));
      })
    where
      long : length (cut body begin (end - begin)) ≡ end - begin
      long = length_cut body begin (end - begin) (omega (arith, bytes.rises, bytes.within))

      zero_is : begin - begin ≡ 0
      zero_is = omega arith

      some : 0 < length rows
      some = omega (arith, ap length a.cut_at, length_dropped k rows)

  -- its rows, counted from its first byte, stand for the same tokens over the piece
  pub piece_toks : toks_of (piece_bytes body (element_rows rows k)) (piece_rows body (element_rows rows k))
      ≡ toks_of body (element_rows rows k)
  piece_toks = rw (element_is rows k a.cut_at a.starts)
      (element_toks body (end - begin) (closing 1 a.rest) each.1 a.starts (omega (arith, bytes.rises)))
