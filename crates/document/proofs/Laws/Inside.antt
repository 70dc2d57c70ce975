-- A view of a table that obeys the rules lies in the table: its rows are a front of the table's, and its end is a place of the body. The
-- piece of each child that is met in it is a filled part of the body that begins with `<`.
use Prim.Native.Nat.{ℕ, zero, suc, ◌+◌, ◌-◌, ◌≤◌, ◌<◌}
use mathlib.Core.Path.{◌≡◌, refl, sym}
use mathlib.Core.Bool.{Bool, true, false}
use mathlib.Core.List.{List, [], ◌∷◌, cons≢nil}
use mathlib.Core.Option.{Option, none, some}
use native.Mathlib.Omega.{arith}
use lib.ListN.{length, length-map, take, drop, get_or}
use lib.Seq.{take-length}
use Rattle.std.specs.Prelude.{Err, Ok, Result}
use Rattle.lists.proofs.Tests.{pick_all}
use Rattle.table.proofs.Classes.{Kind, of_start, of_attr, of_gt, of_close, of_slash, of_matter, of_error, kind_of_lem}
use Rattle.table.specs.Row.{Row, Name, Tok, start, name_of, value_of, rows_of, tok_of, toks_of}
use Rattle.table.specs.Rules.{Place, at_first, after, begin_of, RowRules, EachRow, none, row, last_position, TableRules}
use Rattle.table.proofs.Flat.{last_high}
use Rattle.table.proofs.Moved.{last_taken}
use Rattle.table.proofs.Element.{each_take}
use Rattle.xml.specs.declared.DrainError.{DrainError}
use Rattle.xml.specs.Drain.{walked}
use Rattle.document.specs.View.{View, position_at, strict_view, error_at, lenient_view, view}
use Rattle.document.specs.declared.part.Piece.{Piece}
use Rattle.document.specs.Scope.{Child, dropped, piece_end, piece_to, piece_of}
use Rattle.document.proofs.Laws.Fuel.{dropping_goes_on}
use Rattle.document.proofs.Laws.Placed.{Placed}

-- ---- a view
pub record ViewIn (body : List ℕ) (rows : List Row) (final : ℕ) (v : View) : Type 0 where
  pub count : ℕ
  pub front : v.rows ≡ take count rows
  pub each : EachRow body at_first v.rows
  pub last : last_position 0 v.rows ≤ v.ends
  pub ends : v.ends ≤ final
  pub within : final ≤ length body

none_left : (k : ℕ) (rows : List Row) → length rows ≡ 0 → length (take k rows) ≡ 0
none_left zero rows e = refl
none_left (suc k) [] e = refl
none_left (suc k) (r ∷ rest) e = absurd (omega arith)

-- a front of rows obeys their rules
each_front : {body : List ℕ} (k : ℕ) {p : Place} {rows : List Row} → EachRow body p rows → EachRow body p (take k rows)
each_front zero e = none
each_front (suc k) none = none
each_front (suc k) (row {rest = rest} o t) =
    row (record {
      known_kind = o.known_kind;
      zero_fields = o.zero_fields;
      position_rises = o.position_rises;
      filled_spans = o.filled_spans;
      local_start = o.local_start;
      tag_begins = o.tag_begins;
      ending = o.ending;
      tag_order = o.tag_order;
      needs_open = o.needs_open;
      after_root = o.after_root;
      error_last = λ e. none_left k rest (o.error_last e);
      open_limit = o.open_limit;
    }) (each_front k t)

-- the position of a row is no earlier than those of the rows before it, and no later than the final one
position_late : {body : List ℕ} (final k : ℕ) {p : Place} {rows : List Row} → EachRow body p rows → last_position p.position rows ≤ final
    → last_position p.position (take k rows) ≤ position_at final rows k
position_late final zero none h = h
position_late final (suc k) none h = h
position_late final zero (row o t) h = o.position_rises
position_late final (suc k) (row o t) h = position_late final k t h

position_in : {body : List ℕ} (final k : ℕ) {p : Place} {rows : List Row} → EachRow body p rows → last_position p.position rows ≤ final
    → position_at final rows k ≤ final
position_in final k none h = omega arith
position_in final zero (row o t) h = omega (arith, last_high t)
position_in final (suc k) (row o t) h = position_in final k t h

pub view_in : {body table : List ℕ} {final : ℕ} → TableRules body table final → (strict : Bool)
    → ViewIn body (rows_of table) final (view strict body (rows_of table) final)
unfolding view
view_in {body} {table} {final} t strict = go strict
  where
    all : ViewIn body (rows_of table) final (record { rows = rows_of table; failure = none; ill_formed = false; ends = final })
    all =
        record {
          count = length (rows_of table);
          front = sym (take-length (rows_of table));
          each = t.rules.each;
          last = t.rules.ends;
          ends = omega arith;
          within = t.rules.within;
        }

    strictly : (x : Result (Unit {0}) DrainError) → ViewIn body (rows_of table) final (strict_view body (rows_of table) final x)
    strictly (Ok u) = all
    strictly (Err DrainError.Table) = all
    strictly (Err (DrainError.IllFormed k cause)) =
        record {
          count = k;
          front = refl;
          each = each_front k t.rules.each;
          last = position_late final k t.rules.each t.rules.ends;
          ends = position_in final k t.rules.each t.rules.ends;
          within = t.rules.within;
        }

    leniently : (x : Option ℕ) → ViewIn body (rows_of table) final (lenient_view (rows_of table) final x)
    leniently none = all
    leniently (some k) =
        record {
          count = k;
          front = refl;
          each = each_front k t.rules.each;
          last = omega (arith, each_take k t.rules.each, t.rules.ends);
          ends = omega arith;
          within = t.rules.within;
        }

    go : (strict : Bool) → ViewIn body (rows_of table) final (view strict body (rows_of table) final)
    go true = strictly (walked (toks_of body (rows_of table)))
    go false = leniently (error_at (toks_of body (rows_of table)))

-- ---- the start row of a child
-- row j of kind 1, with what the rules say of it; from is the position before the rows
pub record StartRow (body : List ℕ) (from : ℕ) (rows : List Row) (j : ℕ) : Type 0 where
  pub first : Row
  pub later : List Row
  pub at : drop j rows ≡ first ∷ later
  pub starts : first.kind ≡ 1
  pub place : Place
  pub since : place.position ≡ last_position from (take j rows)
  pub rules : RowRules body place first later
  pub each : EachRow body (after place first) later

is_start : {k : ℕ} {m n : Name} {v : List ℕ} {t : Tok} → Kind m v k t → t ≡ start n → k ≡ 1
is_start of_start e = refl
is_start of_attr e = let z : ◌≡◌ {A = ℕ} 0 1 = cc in absurd (omega arith)
is_start of_gt e = let z : ◌≡◌ {A = ℕ} 0 1 = cc in absurd (omega arith)
is_start of_close e = let z : ◌≡◌ {A = ℕ} 0 1 = cc in absurd (omega arith)
is_start of_slash e = let z : ◌≡◌ {A = ℕ} 0 1 = cc in absurd (omega arith)
is_start (of_matter w) e = let z : ◌≡◌ {A = ℕ} 0 1 = cc in absurd (omega arith)
is_start (of_error w) e = let z : ◌≡◌ {A = ℕ} 0 1 = cc in absurd (omega arith)

-- the row of a start token
token_row : {body : List ℕ} {p : Place} {rows : List Row} → EachRow body p rows → (j : ℕ) {n : Name} {l : List Tok}
    → drop j (toks_of body rows) ≡ start n ∷ l → StartRow body p.position rows j
token_row none zero e = absurd (cons≢nil (sym e))
token_row none (suc j) e = absurd (cons≢nil (sym e))
token_row {body} (row {p = p} {r = r} {rest = rest} o t) zero {n} e =
    let q : tok_of body r ≡ start n = cc in
    record {
      first = r;
      later = rest;
      at = refl;
      starts = is_start (kind_of_lem r.kind (name_of body r) (value_of body r)) q;
      place = p;
      since = refl;
      rules = o;
      each = t;
    }
token_row (row o t) (suc j) e =
    let w = token_row t j e in
    record {
      first = w.first;
      later = w.later;
      at = w.at;
      starts = w.starts;
      place = w.place;
      since = w.since;
      rules = w.rules;
      each = w.each;
    }

-- its position is reached by each front of the rows that holds it
position_reached : {body : List ℕ} {p : Place} {rows : List Row} → EachRow body p rows → (j m : ℕ) {r : Row} {rest : List Row} → j < m
    → drop j rows ≡ r ∷ rest
    → r.position ≤ last_position p.position (take m rows)
position_reached none zero m h e = absurd (cons≢nil (sym e))
position_reached none (suc j) m h e = absurd (cons≢nil (sym e))
position_reached (row o t) j zero h e = absurd (omega (arith, h))
position_reached (row {r = s} o t) zero (suc m) {r} h e = let q : s.position ≡ r.position = cc in omega (arith, q, last_taken t m)
position_reached (row o t) (suc j) (suc m) h e = position_reached t j m (omega (arith, h)) e

-- ---- pieces
-- a filled part of the body that begins with `<`
pub record PieceIn (body : List ℕ) (p : Piece) : Type 0 where
  pub filled : 0 < p.len
  pub within : p.start + p.len ≤ length body
  pub lt : get_or body p.start 0 ≡ 60

module _ {body : List ℕ} {rows : List Row} {final : ℕ} {v : View} (w : ViewIn body rows final v) (c : Child)
    (m : Placed (toks_of body v.rows) c) where
  -- the child's start is in a row of kind 1 of the view, before the reader at its content, which has not passed the rows
  pub start_row : StartRow body 0 v.rows c.start.row
  start_row = token_row w.each c.start.row m.begun.at

  pub start_before : c.start.row < c.inner.row
  start_before = m.begun.before

  pub inner_within : c.inner.row ≤ length v.rows
  inner_within = omega (arith, m.inner.rows, length-map v.rows (tok_of body))

  -- a piece from the child's `<` to any place of the body that is not before its start row's position
  pub piece_to_in : (end : ℕ) → start_row.first.position ≤ end → end ≤ length body → PieceIn body (piece_to body v c end)
  piece_to_in end h i = rw start_row.at go
    where
      go : PieceIn body (record { start = begin_of body start_row.first; len = end - begin_of body start_row.first })
      go =
          let b = start_row.rules.tag_begins (rw start_row.starts) in
          let x = start_row.rules.local_start (rw start_row.starts) in
          record { filled = omega (arith, b.before, x.1); within = omega (arith, b.before, x.1); lt = b.is }

  -- the end of the view is such a place
  pub view_end_in : (start_row.first.position ≤ v.ends) × (v.ends ≤ length body)
  view_end_in =
      let p = position_reached w.each c.start.row (length v.rows) (omega (arith, start_before, inner_within)) start_row.at in
      (omega (arith, rw (take-length v.rows) at p, w.last), omega (arith, w.ends, w.within))

  -- and so is the position of each later row
  row_end_in : (k : ℕ) → c.start.row < k
      → (start_row.first.position ≤ last_position 0 (take k v.rows)) × (last_position 0 (take k v.rows) ≤ length body)
  row_end_in k h =
      (position_reached w.each c.start.row k h start_row.at, omega (arith, each_take k w.each, w.last, w.ends, w.within))

  -- THE LAW: the piece of a child is a filled part of the body that begins with `<`
  pub piece_inside : PieceIn body (piece_of body v c)
  unfolding piece_of
  piece_inside = piece_to_in (piece_end v (dropped c)) end.0 end.1
    where
      later : c.start.row < (dropped c).reader.row
      later = let g = dropping_goes_on c in omega (arith, g.short, g.rows, start_before)

      end : (start_row.first.position ≤ piece_end v (dropped c)) × (piece_end v (dropped c) ≤ length body)
      end =
          pick_all (λ (e : ℕ). (start_row.first.position ≤ e) × (e ≤ length body)) (dropped c).ended
          (last_position 0 (take (dropped c).reader.row v.rows)) v.ends
          (row_end_in (dropped c).reader.row later) view_end_in

  -- it begins no earlier than the row before its start ended, and it ends where the last row read for it did
  pub piece_since : last_position 0 (take c.start.row v.rows) ≤ (piece_of body v c).start
  unfolding piece_of
  piece_since = rw start_row.at (omega (arith, start_row.since, (start_row.rules.tag_begins (rw start_row.starts)).late))

  pub piece_ends : (piece_of body v c).start + (piece_of body v c).len ≡ piece_end v (dropped c)
  unfolding piece_of
  piece_ends = omega (arith, piece_inside.filled)
