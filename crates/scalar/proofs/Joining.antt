-- Laws of the texts directly in an element: the walk to the next one, all of them measured, and written.
use Prim.Native.Nat.{ℕ, suc, ◌+◌, ◌*◌, ◌^◌, ◌≤◌, ◌<◌}
use mathlib.Core.Path.{◌≡◌, refl, sym, ◌∙◌, ap}
use mathlib.Core.Bool.{Bool, true, false}
use mathlib.Core.List.{List, [], ◌++◌, append_assoc, append-nil}
use mathlib.Core.Option as math
use native.Mathlib.Numerals.{add-one}
use native.Mathlib.Omega.{arith}
use borrow.Author.Tests.{le-leb, lt-leb}
use mir.Syntax.{w64}
use mir.Val.{Fits}
use lib.Dec.{leb}
use lib.ListN.{length, get_or, length-append}
use lib.Seq.{length-sets}
use Rattle.std.proofs.lemmas.List.Edits.{sets}
use Rattle.std.specs.Result.{result_unwrap_or}
use Rattle.std.specs.Prelude.{Option, Result, Ok, Err, Some, None}
use Rattle.lists.specs.Tests.{pick}
use Rattle.lists.specs.Decide.{is_yes}
use Rattle.lists.proofs.Tests.{false_true}
use Rattle.lists.specs.Overwrite.{overwritten}
use Rattle.lists.proofs.Overwrite.{overwrite_none, overwrite_more, rest, back, rest_length, back_stored}
use Rattle.refusal.specs.declared.Refusal.{Refusal}
use Rattle.refusal.specs.Answer.{Answer, gives, refuses, onward}
use Rattle.table.specs.Row.{Tok, tok_as, rows_of, toks_of}
use Rattle.table.specs.Rules.{open_count}
use Rattle.table.specs.Test.{dec_table}
use Rattle.table.specs.Rows.{name_at, value_at, tok_at}
use Rattle.table.specs.declared.rows.ValidTable.{ValidTable}
use Rattle.table.proofs.Classes.{kind_of_lem}
use Rattle.table.proofs.Flat.{unroll, drop_from}
use Rattle.xml.proofs.First.{walk_not_table}
use Rattle.xml.specs.declared.DrainError.{DrainError}
use Rattle.xml.specs.Drain.{walked, drained_by, drained}
use Rattle.document.specs.declared.part.Text.{Text}
use Rattle.document.specs.declared.part.Measured.{Measured}
use Rattle.document.specs.View.{view, strict_view}
use Rattle.document.specs.View as doc
use Rattle.document.specs.Reader.{depth, depth_after, Scope, ends_at}
use Rattle.document.specs.Scope.{Child, scope_of, root_of}
use Rattle.document.specs.Text.{value_start_at, text_turn, take_each, joined, whole_of, string_in}
use Rattle.document.specs.Part.{text_at, measured_as, bytes_of, copied_as, length_in, buffer_after, CopyIs}
use Rattle.document.proofs.Laws.Place.{value_start_lem}
use Rattle.readings.specs.Call.{Upload}
use Rattle.readings.specs.Opening.{present}
use Rattle.readings.specs.Scalar.{whole_text}
use Rattle.decode.specs.declared.element.Element.{Element}
use Rattle.decode.specs.declared.place.Cursor.{Cursor}
use Rattle.decode.specs.declared.view.View.{View}
use Rattle.decode.specs.Place.{At, toks_from}
use Rattle.decode.specs.View.{view_of, ViewIs}
use Rattle.decode.specs.Element.{child_of, RootIs, ValueIs}
use Rattle.decode.proofs.Known.{toks_next, toks_none, open_low}
use Rattle.decode.proofs.Skipping.{depth_here}
use Rattle.decode.proofs.Texts.{passed}
use Rattle.scalar.specs.Whole.{texts_from, texts_of, prepend, NextText, JoinRoom, text_in}

-- ---- the walk to the next text: at depth d and row k what is left gives the whole
abbrev inside_from : Element → ℕ → ℕ → Answer (List ℕ)
inside_from e d k =
    joined (view_of e.view).rows (scope_of (child_of e).start) (depth d) k
    (toks_from e.view.table.body.now e.view.table.rows.now e.view.count k)

pub record TextsAt (e : Element) (c : Cursor) (d k : ℕ) : Type 0 where
  pub inner : e.start.closed ≡ false
  pub low : d ≤ k
  pub later : c.row ≤ k
  pub rest : inside_from e d k ≡ texts_from e c

pub next_closed : (e : Element) (c c' : Cursor) → e.start.closed ≡ true → NextText e c c' (Ok None)
unfolding texts_from
next_closed e c c' q = record { is = rw q; moved = tt }

-- of an element that did not end in `/>`
texts_open : (e : Element) (c : Cursor) → e.start.closed ≡ false → texts_from e c ≡ inside_from e c.depth.0 c.row
unfolding texts_from
texts_open e c q = rw q

pub next_start : (e : Element) (c : Cursor) → At e.view.count c → e.start.closed ≡ false → TextsAt e c c.depth.0 c.row
unfolding texts_from
next_start e c a q = record { inner = q; low = a.low; later = omega arith; rest = rw q }

module _ {e : Element} {c : Cursor} {d k : ℕ} (w : TextsAt e c d k) where
  abbrev body : List ℕ
  body = e.view.table.body.now

  abbrev t : List ℕ
  t = e.view.table.rows.now

  abbrev n : ℕ
  n = e.view.count

  abbrev s : Scope
  s = scope_of (child_of e).start

  pub next_none : {c' : Cursor} → n ≤ k → NextText e c c' (Ok None)
  unfolding joined
  next_none h = record { is = sym w.rest ∙ rw (toks_none body t n k h); moved = tt }

  module _ (h : k < n) where
    -- where the row's value begins
    begins : value_start_at (view_of e.view).rows k ≡ get_or t (k * 8 + 5) 0
    begins =
        let z : 0 + k ≡ k = omega arith in
        value_start_lem (view_of e.view).rows k (rw z at (drop_from t 0 k n) ∙ unroll t k n h)

    -- what one row does
    turned : text_turn (take_each (get_or t (k * 8 + 5) 0)) s (depth_after (tok_at body t k) (depth d)) (tok_at body t k)
        (joined (view_of e.view).rows s (depth_after (tok_at body t k) (depth d)) (k + 1) (toks_from body t n (k + 1)))
        ≡ texts_from e c
    unfolding joined
    turned =
        let rows = (view_of e.view).rows in
        let u = tok_at body t k in
        let f = depth_after u (depth d) in
        let x : text_turn (take_each (value_start_at rows k)) s f u (joined rows s f (suc k) (toks_from body t n (k + 1))) ≡ texts_from e c
        = ap (joined rows s (depth d) k) (sym (toks_next body t n k h)) ∙ w.rest in
        rw (begins, ← add-one k) at x

    module _ {kind : ℕ} (g : kind ≡ get_or t (k * 8 + 0) 0) where
      pub next_element : {c' : Cursor} → kind ≡ 1 → NextText e c c' (Err Refusal.ElementInText)
      unfolding tok_as
      next_element q = record { is = sym (rw (← g, q) at turned); moved = tt }

      pub next_found : {r : Text} → kind ≡ 6 → ValueIs body t k r → NextText e c (record { row = k + 1; depth = depth d }) (Ok (Some r))
      unfolding tok_as
      next_found {r} q x =
          let m : At n (record { row = k + 1; depth = depth d }) = record { high = omega (arith, h); low = omega (arith, w.low) } in
          let o = texts_open e (record { row = k + 1; depth = depth d }) w.inner in
          record { is = rw (x.from, x.bytes, o) (sym (rw (← g, q) at turned)); moved = (omega (arith, w.later), m) }

      module _ (a : (kind ≡ 6 → ⊥)) (b : (kind ≡ 1 → ⊥)) {d' : ℕ} (x : d' ≡ open_count d kind) {r : Bool}
          (i : r ≡ ends_at s (depth d') (tok_at body t k)) where
        on : pick r (gives []) (inside_from e d' (k + 1)) ≡ texts_from e c
        on =
            let y = kind_of_lem (get_or t (k * 8 + 0) 0) (name_at body t k) (value_at body t k) in
            let z = passed y (rw g at b) (rw g at a) (take_each (get_or t (k * 8 + 5) 0)) s (depth d') (inside_from e d' (k + 1)) in
            rw i (sym z ∙ rw (depth_here body t d k g x) at turned)

        pub next_on : r ≡ false → TextsAt e c d' (k + 1)
        next_on q =
            record { inner = w.inner; low = rw x (open_low d kind k w.low); later = omega (arith, w.later); rest = rw q at on }

        pub next_ended : {c' : Cursor} → r ≡ true → NextText e c c' (Ok None)
        next_ended q = record { is = sym (rw q at on); moved = tt }

-- ---- the texts so far in front of the rest
prepend_none : (a : Answer (List ℕ)) → prepend [] a ≡ a
prepend_none (gives l) = refl
prepend_none (refuses r) = refl

prepend_more : (front next : List ℕ) (a : Answer (List ℕ)) → prepend front (prepend next a) ≡ prepend (front ++ next) a
prepend_more front next (gives l) = ap gives (sym (append_assoc front next l))
prepend_more front next (refuses r) = refl

pub record JoinAt (e : Element) (acc : List ℕ) (c : Cursor) : Type 0 where
  pub stands : At e.view.count c
  pub rest : prepend acc (texts_from e c) ≡ texts_of e

join_start : (e : Element) → JoinAt e [] e.at
join_start e = record { stands = e.outside.at; rest = prepend_none (texts_of e) }

module _ {e : Element} {acc : List ℕ} {c c' : Cursor} (w : JoinAt e acc c) where
  join_done : NextText e c c' (Ok None) → texts_of e ≡ gives acc
  join_done x = sym w.rest ∙ (ap (prepend acc) x.is ∙ ap gives (append-nil acc))

  join_stop : {why : Refusal} → NextText e c c' (Err why) → texts_of e ≡ refuses why
  join_stop x = sym w.rest ∙ ap (prepend acc) x.is

  module _ {t : Text} (x : NextText e c c' (Ok (Some t))) where
    turn : prepend acc (onward (text_at t) (λ (front : List ℕ). prepend front (texts_from e c'))) ≡ texts_of e
    turn = ap (prepend acc) (sym x.is) ∙ w.rest

    join_bad : {why : Refusal} → text_at t ≡ refuses why → texts_of e ≡ refuses why
    join_bad q = sym (rw q at turn)

    join_on : (l : List ℕ) → text_at t ≡ gives l → JoinAt e (acc ++ l) c'
    join_on l q = record { stands = x.moved.1; rest = sym (prepend_more acc l (texts_from e c')) ∙ rw q at turn }

-- ---- measured
pub record MeasureAt (e : Element) (c : Cursor) (size : ℕ) : Type 0 where
  pub acc : List ℕ
  pub at : JoinAt e acc c
  pub counted : size ≡ length acc
  pub small : size ≤ 4294967296 * c.row

pub measure_start : (e : Element) → MeasureAt e e.at 0
measure_start e = record { acc = []; at = join_start e; counted = refl; small = omega arith }

module _ {e : Element} {c c' : Cursor} {size : ℕ} (w : MeasureAt e c size) where
  pub measure_done : NextText e c c' (Ok None) → gives size ≡ length_in (texts_of e)
  measure_done x = rw (join_done w.at x) (ap gives w.counted)

  pub measure_stop : {why : Refusal} → NextText e c c' (Err why) → refuses why ≡ length_in (texts_of e)
  measure_stop x = rw (join_stop w.at x)

  module _ {t : Text} (x : NextText e c c' (Ok (Some t))) where
    pub measure_bad : {why : Refusal} → measured_as (Err why) ≡ text_at t → refuses why ≡ length_in (texts_of e)
    measure_bad q = rw (join_bad w.at x (sym q))

    module _ (m : Measured) (q : measured_as (Ok m) ≡ text_at t) where
      pub measure_on : MeasureAt e c' (size + m.len)
      measure_on =
          record {
            acc = w.acc ++ bytes_of m;
            at = join_on w.at x (bytes_of m) (sym q);
            counted = omega (arith, w.counted, m.size, length-append w.acc (bytes_of m));
            small = omega (arith, w.small, m.short, x.moved.0);
          }

      pub measure_fits : Fits w64 (size + m.len)
      measure_fits = record { fits = omega (arith, w.small, m.short, w.at.stands.high, e.view.few) }

-- ---- written
sets_over : (old acc l : List ℕ) {out : List ℕ} {size : ℕ} → out ≡ overwritten old acc → size ≡ length acc → length (acc ++ l) ≤ length old
    → sets out size l ≡ overwritten old (acc ++ l)
sets_over old acc l p q h = rw (p, q) (overwrite_more old acc l h)

pub record FillAt (e : Element) (old out : List ℕ) (c : Cursor) (size : ℕ) : Type 0 where
  pub acc : List ℕ
  pub at : JoinAt e acc c
  pub room : JoinRoom (texts_of e) (length old)
  pub counted : size ≡ length acc
  pub is : out ≡ overwritten old acc
  pub same : length out ≡ length old

pub fill_start : (e : Element) (old : List ℕ) → JoinRoom (texts_of e) (length old) → FillAt e old old e.at 0
fill_start e old m =
    record { acc = []; at = join_start e; room = m; counted = refl; is = sym (overwrite_none old); same = refl }

pub some_next : (r : Result (Option Text) Refusal) {t : Text} → result_unwrap_or r None ≡ Some t → r ≡ Ok (Some t)
some_next (Ok o) e = ap Ok e
some_next (Err why) e = let z : ◌≡◌ {A = ℕ} 0 1 = cc in absurd (omega arith)

-- no answer is both
never {ℓ} : {A : Type ℓ} {l : List ℕ} {r : Refusal} → gives l ≡ refuses r → A
never e = let z : ◌≡◌ {A = ℕ} 0 1 = cc in absurd (omega arith)

module _ {e : Element} {old out : List ℕ} {c : Cursor} {size : ℕ} (w : FillAt e old out c size) where
  -- what is written so far is a front of the whole
  front : {acc : List ℕ} {c : Cursor} → JoinAt e acc c → length acc ≤ length old
  front {acc} {c} j = go (texts_from e c) (j.rest ∙ w.room.is)
    where
      go : (a : Answer (List ℕ)) → prepend acc a ≡ gives w.room.text → length acc ≤ length old
      go (gives l) q = let z : acc ++ l ≡ w.room.text = cc in omega (arith, ap length z, length-append acc l, w.room.fits)
      go (refuses r) q = never (sym q)

  pub fill_low : size ≤ length out
  fill_low = omega (arith, w.counted, w.same, front w.at)

  fill_done : {c' : Cursor} → NextText e c c' (Ok None) → out ≡ buffer_after (texts_of e) old
  fill_done x = rw (join_done w.at x) w.is

  fill_stop : {c' : Cursor} {why : Refusal} → NextText e c c' (Err why) → out ≡ buffer_after (texts_of e) old
  fill_stop x = never (sym w.room.is ∙ join_stop w.at x)

  pub fill_end : {c' : Cursor} (r : Result (Option Text) Refusal) → NextText e c c' r → result_unwrap_or r None ≡ None
      → out ≡ buffer_after (texts_of e) old
  fill_end (Ok o) x q = fill_done (rw q at x)
  fill_end (Err why) x q = fill_stop x

  module _ {c' : Cursor} {t : Text} (x : NextText e c c' (Ok (Some t))) where
    -- the text is no bad one
    text_good : (l : List ℕ) × (text_at t ≡ gives l)
    text_good = go (text_at t) refl
      where
        go : (a : Answer (List ℕ)) → text_at t ≡ a → (l : List ℕ) × (text_at t ≡ gives l)
        go (gives l) q = (l, q)
        go (refuses why) q = never (sym w.room.is ∙ join_bad w.at x q)

    module _ {ys : List ℕ} {r : Result ℕ Refusal}
        (y : CopyIs (onward (text_at t) (string_in (length (rest out size)))) (rest out size) ys r) where
      abbrev l : List ℕ
      l = text_good.0

      next : JoinAt e (w.acc ++ l) c'
      next = join_on w.at x l text_good.1

      fits : size + length l ≤ length out
      fits = omega (arith, w.counted, w.same, front next, length-append w.acc l)

      took : onward (text_at t) (string_in (length (rest out size))) ≡ gives l
      unfolding string_in
      took = rw (text_good.1, le-leb (length l) (length (rest out size)) (omega (arith, fits, rest_length out size)))

      fill_length : r ≡ Ok (length l)
      fill_length = go r (rw took at y.number)
        where
          go : (r : Result ℕ Refusal) → copied_as r ≡ gives (length l) → r ≡ Ok (length l)
          go (Ok n) q = let z : n ≡ length l = cc in ap Ok z
          go (Err f) q = let z : ◌≡◌ {A = ℕ} 0 1 = cc in absurd (omega arith)

      fill_on : FillAt e old (back out size ys) c' (size + length l)
      fill_on =
          let b = back_stored out size l fits (rw took at y.buffer) in
          record {
            acc = w.acc ++ l;
            at = next;
            room = w.room;
            counted = omega (arith, w.counted, length-append w.acc l);
            is = b ∙ sets_over old w.acc l w.is w.counted (front next);
            same = ap length b ∙ (length-sets out size l ∙ w.same);
          }

      module _ {n : ℕ} (z : n ≡ result_unwrap_or r 0) where
        took_size : n ≡ length l
        took_size = z ∙ ap (λ (r : Result ℕ Refusal). result_unwrap_or r 0) fill_length

        pub fill_next : FillAt e old (back out size ys) c' (size + n)
        fill_next = rw took_size fill_on

        pub fill_fits : length out < 2 ^ 64 → Fits w64 (size + n)
        fill_fits h = record { fits = omega (arith, h, fits, took_size) }

-- ---- measured, and written if it fits
module _ (a : Answer (List ℕ)) (old : List ℕ) where
  pub copy_refused : {why : Refusal} → refuses why ≡ length_in a → CopyIs (text_in (length old) a) old old (Err why)
  copy_refused {why} e = go a e
    where
      go : (a : Answer (List ℕ)) → refuses why ≡ length_in a → CopyIs (text_in (length old) a) old old (Err why)
      go (gives l) q = let z : ◌≡◌ {A = ℕ} 0 1 = cc in absurd (omega arith)
      go (refuses r) q = let k : why ≡ r = cc in rw k (record { number = refl; buffer = refl })

  module _ {n : ℕ} (e : gives n ≡ length_in a) where
    measured : (l : List ℕ) × (a ≡ gives l) × (length l ≡ n)
    measured = go a e
      where
        go : (a : Answer (List ℕ)) → gives n ≡ length_in a → (l : List ℕ) × (a ≡ gives l) × (length l ≡ n)
        go (gives l) e = let k : length l ≡ n = cc in (l, refl, k)
        go (refuses r) e = let z : ◌≡◌ {A = ℕ} 0 1 = cc in absurd (omega arith)

    pub copy_room : n ≤ length old → JoinRoom a (length old)
    copy_room h = let m = measured in record { text = m.0; is = m.1; fits = omega (arith, m.2) }

    pub copy_put : {new : List ℕ} → n ≤ length old → new ≡ buffer_after a old → CopyIs (text_in (length old) a) old new (Ok n)
    unfolding string_in
    copy_put {new} h q =
        let m = measured in
        let f : leb (length m.0) (length old) ≡ true = le-leb (length m.0) (length old) (omega (arith, m.2)) in
        record { number = rw (m.1, f, m.2); buffer = rw (m.1, f) (rw m.1 at q) }

    pub copy_none : length old < n → CopyIs (text_in (length old) a) old old (Err Refusal.NoRoom)
    unfolding string_in
    copy_none h =
        let m = measured in
        let f : leb (length m.0) (length old) ≡ false = lt-leb (length m.0) (length old) (omega (arith, m.2)) in
        record { number = rw (m.1, f); buffer = rw (m.1, f) }

-- ---- of a body: the strict view of one that passes the drain has all rows
no_table : {P : Type 0} (d : Dec P) (l : List Tok) → is_yes d ≡ false → drained_by d l ≡ Err DrainError.Table
no_table (yes p) l q = false_true (sym q)
no_table (no b) l q = refl

good_table : {P : Type 0} (d : Dec P) (l : List Tok) → is_yes d ≡ true → drained_by d l ≡ walked l
good_table (yes p) l q = refl
good_table (no b) l q = false_true q

texts_whole : (e : Element) → texts_of e ≡ whole_of (view_of e.view).rows (child_of e)
unfolding texts_from whole_of
texts_whole e = refl

module _ (u : Upload) where
  pub whole_table : is_yes (dec_table u.body u.rows u.end) ≡ false → (old : List ℕ)
      → CopyIs (whole_text u (length old)) old old (Err Refusal.Table)
  unfolding whole_text drained
  whole_table e old =
      rw (no_table (dec_table u.body u.rows u.end) (toks_of u.body (rows_of u.rows)) e) (record { number = refl; buffer = refl })

  module _ (v : ValidTable) (x : (v.body.now ≡ u.body) × (v.rows.now ≡ u.rows) × (v.end ≡ u.end)) {w : View}
      (y : ViewIs v (view true v.body.now (rows_of v.rows.now) v.end) w) where
    abbrev walk : Result (Unit {0}) DrainError
    walk = walked (toks_of u.body (rows_of u.rows))

    valid : drained u.body u.rows u.end ≡ walk
    unfolding drained
    valid =
        let q : is_yes (dec_table u.body u.rows u.end) ≡ true = rw (x.0, x.1, x.2) at v.obeys.is in
        good_table (dec_table u.body u.rows u.end) (toks_of u.body (rows_of u.rows)) q

    seen : view_of w ≡ strict_view u.body (rows_of u.rows) u.end walk
    unfolding view
    seen = rw (x.0, x.1, x.2) at y.same

    ill : (r : Result (Unit {0}) DrainError) → walk ≡ r → w.ill_formed ≡ true
        → (room : ℕ) → whole_text u room ≡ refuses Refusal.IllFormed
    unfolding whole_text
    ill (Ok o) q h room = false_true (sym (rw q at (ap (λ (s : doc.View). s.ill_formed) seen)) ∙ h)
    ill (Err DrainError.Table) q h room = false_true (sym (rw q at (ap (λ (s : doc.View). s.ill_formed) seen)) ∙ h)
    ill (Err (DrainError.IllFormed k cause)) q h room = rw (valid, q)

    pub whole_ill : w.ill_formed ≡ true → (old : List ℕ) → CopyIs (whole_text u (length old)) old old (Err Refusal.IllFormed)
    whole_ill h old = rw (ill walk refl h (length old)) (record { number = refl; buffer = refl })

    -- without a fault all rows are seen
    abbrev rest_of : ℕ → Answer (List ℕ)
    rest_of room =
        onward (present Refusal.NoRoot (root_of (toks_of u.body (view_of w).rows)))
        (λ (c : Child). onward (whole_of (view_of w).rows c) (string_in room))

    well : (r : Result (Unit {0}) DrainError) → walk ≡ r → w.ill_formed ≡ false → (room : ℕ) → whole_text u room ≡ rest_of room
    unfolding whole_text
    well (Ok o) q h room =
        let s : view_of w ≡ doc.whole (rows_of u.rows) u.end = rw q at seen in
        rw (valid, q, ap (λ (s : doc.View). s.rows) s)
    well (Err DrainError.Table) q h room = absurd (walk_not_table (toks_of u.body (rows_of u.rows)) q)
    well (Err (DrainError.IllFormed k cause)) q h room = false_true (sym h ∙ rw q at (ap (λ (s : doc.View). s.ill_formed) seen))

    body_is : w.table.body.now ≡ u.body
    body_is = y.body ∙ x.0

    module _ (h : w.ill_formed ≡ false) where
      pub whole_rootless : RootIs w None → (old : List ℕ) → CopyIs (whole_text u (length old)) old old (Err Refusal.NoRoot)
      whole_rootless z old =
          let q : math.none ≡ root_of (toks_of u.body (view_of w).rows) = rw body_is at z.is in
          rw (well walk refl h (length old), ← q) (record { number = refl; buffer = refl })

      pub whole_rooted : {e : Element} → RootIs w (Some e) → {old new : List ℕ} {r : Result ℕ Refusal}
          → CopyIs (text_in (length old) (texts_of e)) old new r → CopyIs (whole_text u (length old)) old new r
      whole_rooted {e} z {old} g =
          let q : math.some (child_of e) ≡ root_of (toks_of u.body (view_of w).rows) = rw body_is at z.is in
          let t : texts_of e ≡ whole_of (view_of w).rows (child_of e) =
          texts_whole e ∙ ap (λ (v : View). whole_of (view_of v).rows (child_of e)) z.view in
          rw (well walk refl h (length old), ← q) (rw t at g)
