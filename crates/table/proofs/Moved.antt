-- Rows counted from a piece's first byte: they stand for the same tokens over the piece as over the body, and obey the same rules.
use Prim.Native.Nat.{ℕ, zero, suc, ◌+◌, ◌-◌, ◌≤◌, ◌<◌}
use mathlib.Core.Path.{◌≡◌, refl, ap, ap₂, ◌∙◌}
use mathlib.Core.Bool.{Bool, true, false}
use mathlib.Core.List.{List, [], ◌∷◌, map}
use mathlib.Core.Logic.{⊎_elim}
use native.Mathlib.Nat.{eq-or-lt_of_le}
use native.Mathlib.Omega.{arith}
use borrow.Author.Tests.{leb-true, leb-false, eqb-true, eqb-false}
use lib.Dec.{leb, eqb}
use lib.ListN.{length, take, drop, get_or, length-take, length-drop}
use lib.Seq.{drop-drop, take-take, get_or-take, get_or-drop}
use Rattle.lists.specs.Tests.{pick}
use Rattle.lists.proofs.Tests.{pick_same, false_true}
use Rattle.table.specs.Row.{Row, cut, tok_as, tok_of, toks_of}
use Rattle.table.specs.Rules.{closes_element, ends_in_gt, ends_tag, is_tag, open_count, uses_name, Place, at_first, after, ZeroFields}
use Rattle.table.specs.Rules.{FilledSpan, FilledSpans, LocalStart, last_lt, begin_of, LastLt, EndsIn, Ending, RowRules, EachRow, none}
use Rattle.table.specs.Rules.{row, last_position}
use Rattle.table.specs.Piece.{moved_span, moved, closing}

-- ---- parts of a body
-- dropping some of a front
drop_front : (k n : ℕ) (l : List ℕ) → drop k (take (k + n) l) ≡ take n (drop k l)
drop_front zero n l = let e : 0 + n ≡ n = omega arith in rw e
drop_front (suc k) n [] = let e : suc k + n ≡ suc (k + n) = omega arith in rw e (none_left n)
  where
    none_left : (n : ℕ) → ◌≡◌ {A = List ℕ} [] (take n [])
    none_left zero = refl
    none_left (suc n) = refl
drop_front (suc k) n (x ∷ l) = let e : suc k + n ≡ suc (k + n) = omega arith in rw e (drop_front k n l)

cut_cut : (body : List ℕ) (s n from len : ℕ) → s ≤ from → from + len ≤ s + n → cut (cut body s n) (from - s) len ≡ cut body from len
cut_cut body s n from len h i =
    let e : n ≡ (from - s) + (n - (from - s)) = omega arith in
    let e₂ : s + (from - s) ≡ from = omega arith in
    ap (λ (x : ℕ). take len (drop (from - s) (take x (drop s body)))) e
    ∙ ap (take len) (drop_front (from - s) (n - (from - s)) (drop s body))
    ∙ take-take len (n - (from - s)) (drop (from - s) (drop s body)) (omega arith)
    ∙ ap (take len) (drop-drop (from - s) s body)
    ∙ ap (λ (x : ℕ). cut body x len) e₂

-- a byte of a part
pub get_cut : (body : List ℕ) (s n i : ℕ) → s ≤ i → i < s + n → get_or (cut body s n) (i - s) 0 ≡ get_or body i 0
get_cut body s n i h j =
    let e : s + (i - s) ≡ i = omega arith in
    get_or-take n (drop s body) (i - s) 0 (omega arith) ∙ get_or-drop s body (i - s) 0 ∙ ap (λ (x : ℕ). get_or body x 0) e

pub length_cut : (body : List ℕ) (s n : ℕ) → s + n ≤ length body → length (cut body s n) ≡ n
length_cut body s n h = simp (length-take, length-drop) (omega arith)

-- ---- the last `<`
last_le : (body : List ℕ) (i : ℕ) → last_lt body i ≤ i
unfolding last_lt
last_le body zero = omega arith
last_le body (suc i) = go (eqb (get_or body i 0) 60) (last_le body i)
  where
    go : (b : Bool) → last_lt body i ≤ i → pick b i (last_lt body i) ≤ suc i
    go true h = omega arith
    go false h = omega arith

-- in a piece it is the same byte, if it stands in the piece
last_cut : (body : List ℕ) (s n i : ℕ) → s ≤ last_lt body i → i ≤ s + n → last_lt (cut body s n) (i - s) ≡ last_lt body i - s
unfolding last_lt
last_cut body s n zero h j = let e : 0 - s ≡ 0 = omega arith in rw e
last_cut body s n (suc i) h j = go (eqb (get_or body i 0) 60) refl h (λ g. last_cut body s n i g (omega arith))
  where
    go : (b : Bool) → eqb (get_or body i 0) 60 ≡ b → s ≤ pick b i (last_lt body i)
        → (s ≤ last_lt body i → last_lt (cut body s n) (i - s) ≡ last_lt body i - s)
        → last_lt (cut body s n) (suc i - s) ≡ pick b i (last_lt body i) - s
    go true e h ih =
        let f : suc i - s ≡ suc (i - s) = omega arith in
        rw (f, get_cut body s n i h j, e)
    go false e h ih =
        let f : suc i - s ≡ suc (i - s) = omega (arith, last_le body i) in
        rw (f, get_cut body s n i (omega (arith, last_le body i)) j, e) (ih h)

-- ---- one row
span_moved : (s p q from len : ℕ) → s ≤ p → FilledSpan p q from len → FilledSpan (p - s) (q - s) (moved_span s from len) len
span_moved s p q from zero h f g = absurd (omega arith)
span_moved s p q from (suc len) h f g = let x = f g in (omega arith, omega arith)

cut_moved : (body : List ℕ) (s n p q from len : ℕ) → s ≤ p → q ≤ s + n → FilledSpan p q from len
    → cut (cut body s n) (moved_span s from len) len ≡ cut body from len
cut_moved body s n p q from zero h u f = refl
cut_moved body s n p q from (suc len) h u f = let x = f (omega arith) in cut_cut body s n from (suc len) (omega arith) (omega arith)

module _ (body : List ℕ) (s n : ℕ) {p : Place} {r : Row} {rest : List Row} (o : RowRules body p r rest) (h : s ≤ p.position)
    (u : r.position ≤ s + n) where
  -- the local name's start, as it is moved
  local_cut : (b : Bool) → uses_name r.kind ≡ b
      → cut (cut body s n) (pick b (r.local_start - s) r.local_start) r.local_len ≡ cut body r.local_start r.local_len
  local_cut true e = filled r.local_len o.filled_spans.local
    where
      filled : (len : ℕ) → FilledSpan p.position r.position r.local_start len
          → cut (cut body s n) (r.local_start - s) len ≡ cut body r.local_start len
      filled zero f = refl
      filled (suc len) f = let x = f (omega arith) in cut_cut body s n r.local_start (suc len) (omega arith) (omega arith)
  local_cut false e = rw (o.zero_fields.local e).1

  -- it stands for the same token
  pub moved_tok : tok_of (cut body s n) (moved s r) ≡ tok_of body r
  moved_tok =
      ap₂ (tok_as r.kind)
      (λ i. record {
        prefix = cut_moved body s n p.position r.position r.prefix_start r.prefix_len h u o.filled_spans.prefix i;
        local = local_cut (uses_name r.kind) refl i;
      })
      (cut_moved body s n p.position r.position r.value_start r.value_len h u o.filled_spans.value)

-- positions never fall in a front of the rows
pub last_taken : {body : List ℕ} {p : Place} {rows : List Row} → EachRow body p rows → (c : ℕ)
    → p.position ≤ last_position p.position (take c rows)
last_taken {body = body} {p = p} t zero = omega arith
last_taken {body = body} {p = p} none (suc c) = omega arith
last_taken {body = body} {p = p} (row {r = r} {rest = rest} o t) (suc c) =
    let x = last_taken {body = body} {p = after p r} t c in omega (arith, o.position_rises)

-- the first c rows, in a piece that holds them, stand for the same tokens as in the body
pub moved_toks : (body : List ℕ) (s n c : ℕ) {p : Place} {rows : List Row} → EachRow body p rows → s ≤ p.position
    → last_position p.position (take c rows) ≤ s + n
    → toks_of (cut body s n) (map (moved s) (take c rows)) ≡ toks_of body (take c rows)
moved_toks body s n zero t h u = refl
moved_toks body s n (suc c) none h u = refl
moved_toks body s n (suc c) (row o t) h u =
    rw (moved_tok body s n o h (omega (arith, last_taken t c)), moved_toks body s n c t (omega (arith, o.position_rises)) u)

-- ---- the rules of a row that is moved
-- where it stands in a piece that begins at s, in an element around which d are open
abbrev pub placed : ℕ → ℕ → Place → Place
placed s d p = record { position = p.position - s; in_tag = p.in_tag; nesting = p.nesting - d; rooted = true }

tag_named : (k : ℕ) → is_tag k ≡ true → uses_name k ≡ true
tag_named k = go (eqb k 1) (eqb k 2) (eqb k 4)
  where
    go : (a b c : Bool) → pick a true (pick c true false) ≡ true → pick a true (pick b true (pick c true false)) ≡ true
    go true b c e = refl
    go false true c e = refl
    go false false c e = e

empty_moved : (s from len : ℕ) → (len ≡ 0 → from ≡ 0) → len ≡ 0 → moved_span s from len ≡ 0
empty_moved s from zero f e = f e
empty_moved s from (suc len) f e = absurd (omega arith)

moved_zero : {r : Row} (s : ℕ) → ZeroFields r → ZeroFields (moved s r)
moved_zero {r} s z =
    record {
      prefix = z.prefix;
      local = λ e. rw e (z.local e);
      value = z.value;
      empty_prefix = empty_moved s r.prefix_start r.prefix_len z.empty_prefix;
      empty_value = empty_moved s r.value_start r.value_len z.empty_value;
    }

module _ (body : List ℕ) (s n d : ℕ) {p : Place} {r : Row} {rest : List Row} (o : RowRules body p r rest)
    (begun : s < p.position) (lt : get_or body s 0 ≡ 60) (deep : d < p.nesting) (u : r.position ≤ s + n) where
  local_moved : (b : Bool) → uses_name r.kind ≡ b
      → FilledSpan (p.position - s) (r.position - s) (pick b (r.local_start - s) r.local_start) r.local_len
  local_moved true e g = let x = o.filled_spans.local g in (omega arith, omega arith)
  local_moved false e g = absurd (omega (arith, (o.zero_fields.local e).1))

  moved_spans : FilledSpans (placed s d p) (moved s r)
  moved_spans =
      record {
        prefix = span_moved s p.position r.position r.prefix_start r.prefix_len (omega arith) o.filled_spans.prefix;
        local = local_moved (uses_name r.kind) refl;
        value = span_moved s p.position r.position r.value_start r.value_len (omega arith) o.filled_spans.value;
      }

  moved_start : LocalStart (placed s d p) (moved s r)
  moved_start e = let x = o.local_start e in rw e (omega arith, omega arith)

  prefix_moved : (b from len : ℕ) → s ≤ b → (0 < len → b < from) → 0 < len → b - s < moved_span s from len
  prefix_moved b from zero h f g = absurd (omega arith)
  prefix_moved b from (suc len) h f g = let x = f g in omega arith

  moved_tag : is_tag r.kind ≡ true → LastLt (cut body s n) (placed s d p) (moved s r)
  moved_tag e =
      let g = o.tag_begins e in
      let m = tag_named r.kind e in
      let b = begin_of body r in
      let x = o.local_start m in
      let same : begin_of (cut body s n) (moved s r) ≡ b - s =
      rw m (last_cut body s n r.local_start (omega (arith, g.late)) (omega arith)) in
      record {
        is = rw same (get_cut body s n b (omega (arith, g.late)) (omega (arith, g.before)) ∙ g.is);
        before = rw (same, m) (omega (arith, g.before, g.late));
        late = rw same (omega (arith, g.late));
        prefix = rw same (prefix_moved b r.prefix_start r.prefix_len (omega (arith, g.late)) g.prefix);
      }

  moved_end : (back b : ℕ) → s + back ≤ r.position → 0 < back → EndsIn body r back b → EndsIn (cut body s n) (moved s r) back b
  moved_end back b l z e =
      let q : r.position - s - back ≡ r.position - back - s = omega arith in
      (omega arith, rw q (get_cut body s n (r.position - back) (omega arith) (omega arith) ∙ e.1))

  -- `>` is not the piece's `<`, so `/` stands in the piece too
  slash_in : ends_in_gt r.kind ≡ true → s + 2 ≤ r.position
  slash_in e = go (eqb (r.position - 1) s) refl
    where
      later : (q : ℕ) → s + 1 ≤ q → (q - 1 ≡ s → ⊥) → s + 2 ≤ q
      later q l f = ⊎_elim (λ e. absurd (f (omega arith))) (λ g. omega arith) (eq-or-lt_of_le l)

      go : (t : Bool) → eqb (r.position - 1) s ≡ t → s + 2 ≤ r.position
      go true q =
          let x = o.ending.gt e in
          let y : get_or body s 0 ≡ 62 = rw (eqb-true (r.position - 1) s q) at x.1 in
          absurd (omega arith)
      go false q = later r.position (omega (arith, o.position_rises)) (eqb-false (r.position - 1) s q)

  moved_ending : Ending (cut body s n) (moved s r)
  moved_ending =
      record {
        gt = λ e. moved_end 1 62 (omega (arith, o.position_rises)) (omega arith) (o.ending.gt e);
        slash = λ e. moved_end 2 47 (slash_in (rw e)) (omega arith) (o.ending.slash e);
      }

  pub moved_rules : {later : List Row} → (length rest ≡ 0 → length later ≡ 0) → RowRules (cut body s n) (placed s d p) (moved s r) later
  moved_rules f =
      record {
        known_kind = o.known_kind;
        zero_fields = moved_zero s o.zero_fields;
        position_rises = omega (arith, o.position_rises);
        filled_spans = moved_spans;
        local_start = moved_start;
        tag_begins = moved_tag;
        ending = moved_ending;
        tag_order = record { inside = o.tag_order.inside; outside = o.tag_order.outside };
        needs_open = λ e. omega arith;
        after_root = λ e z. absurd (omega arith);
        error_last = λ e. f (o.error_last e);
        open_limit = λ e. omega (arith, o.open_limit e);
      }

-- ---- the rows of an element
-- counted without the d that are open around it
open_less : (d : ℕ) (p : Place) (r : Row) → d < p.nesting → open_count (p.nesting - d) r.kind ≡ (after p r).nesting - d
open_less d p r h = go (eqb r.kind 1) (closes_element r.kind)
  where
    go : (a b : Bool) → pick a (suc (p.nesting - d)) (pick b (p.nesting - d - 1) (p.nesting - d)) ≡ pick a (suc p.nesting)
        (pick b (p.nesting - 1) p.nesting) - d
    go true b = omega arith
    go false true = omega arith
    go false false = refl

placed_after : (s d : ℕ) (p : Place) (r : Row) → d < p.nesting → after (placed s d p) (moved s r) ≡ placed s d (after p r)
placed_after s d p r h =
    λ i. record {
      position = r.position - s;
      in_tag = pick (eqb r.kind 1) true (pick (ends_tag r.kind) false p.in_tag);
      nesting = open_less d p r h i;
      rooted = pick_same (eqb r.kind 1) true i;
    }

none_later : (s c : ℕ) (l : List Row) → length l ≡ 0 → length (map (moved s) (take c l)) ≡ 0
none_later s zero l e = refl
none_later s (suc c) [] e = refl
none_later s (suc c) (r ∷ l) e = absurd (omega arith)

left_open : (x d : ℕ) → (x - d ≡ 0 → ⊥) → d < x
left_open x d f = go (leb x d) refl
  where
    go : (b : Bool) → leb x d ≡ b → d < x
    go true q = absurd (f (omega (arith, leb-true x d q)))
    go false q = leb-false x d q

-- the rows of an element after its start row, in the piece that begins at its `<`
later_rows : (body : List ℕ) (s n d : ℕ) {p : Place} {rows : List Row} → EachRow body p rows → s < p.position → get_or body s 0 ≡ 60
    → d < p.nesting
    → last_position p.position (take (closing (p.nesting - d) rows) rows) ≤ s + n
    → EachRow (cut body s n) (placed s d p) (map (moved s) (take (closing (p.nesting - d) rows) rows))
unfolding closing
later_rows body s n d none h g l u = none
later_rows body s n d (row {p} {r} {rest} o t) h g l u =
    let e = open_less d p r l in
    rw e (go (eqb ((after p r).nesting - d) 0) refl (rw e at u) (later_rows body s n d t (omega (arith, o.position_rises)) g))
  where
    go : (b : Bool) → eqb ((after p r).nesting - d) 0 ≡ b
        → last_position r.position (take (pick b 0 (closing ((after p r).nesting - d) rest)) rest) ≤ s + n
        → (d < (after p r).nesting → last_position r.position (take (closing ((after p r).nesting - d) rest) rest) ≤ s + n
        → EachRow (cut body s n) (placed s d (after p r)) (map (moved s) (take (closing ((after p r).nesting - d) rest) rest)))
        → EachRow (cut body s n) (placed s d p) (map (moved s) (r ∷ take (pick b 0 (closing ((after p r).nesting - d) rest)) rest))
    go true q u ih = row {rest = []} (moved_rules body s n d o h g l u (λ e. refl)) none
    go false q u ih =
        let far = last_taken t (closing ((after p r).nesting - d) rest) in
        row {rest = map (moved s) (take (closing ((after p r).nesting - d) rest) rest)}
        (moved_rules body s n d o h g l (omega arith) (none_later s (closing ((after p r).nesting - d) rest) rest))
        (rw (placed_after s d p r l) (ih (left_open (after p r).nesting d (eqb-false ((after p r).nesting - d) 0 q)) u))

-- ---- the start row, at the front of the piece
module _ (body : List ℕ) (n : ℕ) {p : Place} {r : Row} {rest : List Row} (o : RowRules body p r rest) (one : r.kind ≡ 1)
    (u : r.position ≤ begin_of body r + n) where
  begins : LastLt body p r
  begins = o.tag_begins (rw one)

  after_begin : (begin_of body r < r.local_start) × (r.local_start ≤ r.position)
  after_begin = (begins.before, (o.local_start (rw one)).1)

  front_span : (from len : ℕ) → FilledSpan p.position r.position from len → (0 < len → begin_of body r < from)
      → FilledSpan 0 (r.position - begin_of body r) (moved_span (begin_of body r) from len) len
  front_span from zero f b g = absurd (omega arith)
  front_span from (suc len) f b g = let x = f g in let y = b g in (omega arith, omega arith)

  front_tag : LastLt (cut body (begin_of body r) n) at_first (moved (begin_of body r) r)
  front_tag =
      let b = begin_of body r in
      let x = after_begin in
      let m : uses_name r.kind ≡ true = rw one in
      let same : begin_of (cut body b n) (moved b r) ≡ b - b =
      rw m (last_cut body b n r.local_start (omega arith) (omega (arith, x.1))) in
      record {
        is = rw same (get_cut body b n b (omega arith) (omega (arith, x.0, x.1)) ∙ begins.is);
        before = rw (same, m) (omega (arith, x.0));
        late = omega arith;
        prefix = rw same (prefix_front r.prefix_start r.prefix_len begins.prefix);
      }
    where
      prefix_front : (from len : ℕ) → (0 < len → begin_of body r < from) → 0 < len
          → begin_of body r - begin_of body r < moved_span (begin_of body r) from len
      prefix_front from zero f g = absurd (omega arith)
      prefix_front from (suc len) f g = let y = f g in omega arith

  front_rules : {later : List Row} → RowRules (cut body (begin_of body r) n) at_first (moved (begin_of body r) r) later
  front_rules =
      let x = after_begin in
      record {
        known_kind = o.known_kind;
        zero_fields = moved_zero (begin_of body r) o.zero_fields;
        position_rises = omega arith;
        filled_spans = record {
          prefix = front_span r.prefix_start r.prefix_len o.filled_spans.prefix begins.prefix;
          local = λ g. let y = o.filled_spans.local g in rw one (omega arith, omega (arith, x.0));
          value = λ g. absurd (omega (arith, o.zero_fields.value (rw one)));
        };
        local_start = λ e. rw one (omega arith, omega (arith, x.0, x.1));
        tag_begins = λ e. front_tag;
        ending = record { gt = λ e. false_true (rw one at e); slash = λ e. absurd (omega arith) };
        tag_order = record { inside = λ e. false_true e; outside = λ e. rw one };
        needs_open = λ e. false_true (rw one at e);
        after_root = λ e z. false_true e;
        error_last = λ e. absurd (omega arith);
        open_limit = λ e. omega arith;
      }

-- the rows of an element, counted from its first byte, obey the rules of rows with the piece as body
pub element_rows_lem : (body : List ℕ) (n : ℕ) {p : Place} {r : Row} {rest : List Row} → EachRow body p (r ∷ rest) → r.kind ≡ 1
    → last_position p.position (r ∷ take (closing 1 rest) rest) ≤ begin_of body r + n
    → EachRow (cut body (begin_of body r) n) at_first (map (moved (begin_of body r)) (r ∷ take (closing 1 rest) rest))
element_rows_lem body n {p} {r} {rest} (row o t) one u =
    let s = begin_of body r in
    let x = after_begin body n o one (omega (arith, last_taken t (closing 1 rest))) in
    let more : (after p r).nesting - p.nesting ≡ 1 = rw one (omega arith) in
    let deep : p.nesting < (after p r).nesting = rw one (omega arith) in
    let k : EachRow (cut body s n) (placed s p.nesting (after p r)) (map (moved s) (take (closing 1 rest) rest)) =
    rw (ap (λ (m : ℕ). closing m rest) more) at
    (later_rows body s n p.nesting t (omega (arith, x.0, x.1))
    (begins body n o one (omega (arith, last_taken t (closing 1 rest)))).is deep (rw (ap (λ (m : ℕ). closing m rest) more) u)) in
    row {rest = map (moved s) (take (closing 1 rest) rest)} (front_rules body n o one (omega (arith, last_taken t (closing 1 rest))))
    (rw first_after k)
  where
    first_after : after at_first (moved (begin_of body r) r) ≡ placed (begin_of body r) p.nesting (after p r)
    first_after =
        let q : 1 ≡ suc p.nesting - p.nesting = omega arith in
        rw one (λ i. record { position = r.position - begin_of body r; in_tag = true; nesting = q i; rooted = true })
