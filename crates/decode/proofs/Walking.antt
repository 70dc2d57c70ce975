-- Laws of the walk of the drain over the rows of a flat table: the open names are kept as row numbers, and the attribute names of a start
-- tag are looked up in its rows.
use Prim.Native.Nat.{ℕ, zero, suc, ◌+◌, ◌-◌, ◌*◌, ◌/◌, ◌≤◌, ◌<◌}
use mathlib.Core.Path.{◌≡◌, refl, sym, ◌∙◌, ap}
use mathlib.Core.Bool.{Bool, true, false}
use mathlib.Core.List.{List, [], ◌∷◌}
use native.Mathlib.Numerals.{add-one}
use native.Mathlib.Omega.{arith}
use borrow.Author.Tests.{eqb-true, leb-true, leb-false}
use lib.Dec.{eqb, leb}
use lib.ListN.{length, get_or, set}
use lib.Seq.{get_or-set_same, get_or-set_other}
use Rattle.std.specs.Prelude.{Result, Ok, Err}
use Rattle.lists.specs.Tests.{pick}
use Rattle.lists.proofs.Tests.{false_true}
use Rattle.lists.specs.Decide.{is_yes}
use Rattle.reference.specs.Text.{validated}
use Rattle.reference.specs.declared.BadReference.{BadReference}
use Rattle.table.specs.Row.{Row, Name, Tok, references_in, bad, toks_of, rows_of}
use Rattle.table.specs.Rows.{InTable, Walkable, Obeys, name_at, value_at, tok_at}
use Rattle.table.proofs.Classes.{Kind, of_start, of_attr, of_gt, of_close, of_slash, of_matter, of_error, kind_of_lem}
use Rattle.table.specs.Rules.{closes_element, ends_tag, in_tag_only, may_be_in_tag, open_count, Place, at_first, after, RowRules, EachRow}
use Rattle.table.specs.Rules.{TableRules}
use Rattle.table.specs.Test.{dec_table}
use Rattle.table.proofs.Test.{first}
use Rattle.table.proofs.Valid.{all_rows, each_row}
use Rattle.table.specs.Flat.{row_at, rows_from}
use Rattle.table.proofs.Flat.{length_rows, unroll, rolled_out}
use Rattle.xml.specs.Drain.{same_name, has_name, drained_by, drained, State, going}
use Rattle.xml.specs.Drain.{failed, with_value, with_attribute, closed, popped, step}
use Rattle.xml.specs.Drain.{walk, verdict}
use Rattle.xml.specs.Drain.{walked}
use Rattle.xml.specs.Passed.{names_after}
use Rattle.xml.specs.declared.Cause.{Cause}
use Rattle.xml.specs.declared.DrainError.{DrainError}
use Rattle.decode.specs.Drain.{names_back, Fault, as_fault, value_fault, fault_of, FaultIs, WellPlaced, top_of, starts_after, Entered}

-- ---- the open elements, by the rows in which they start
abbrev pub stack_of : List ℕ → List ℕ → List ℕ → ℕ → List Name
stack_of body t starts zero = []
stack_of body t starts (suc d) = name_at body t (get_or starts d 0) ∷ stack_of body t starts d

-- a row number that is stored above the open ones leaves them
stack_set : (body t starts : List ℕ) (d i x : ℕ) → d ≤ i → stack_of body t (set starts i x) d ≡ stack_of body t starts d
stack_set body t starts zero i x h = refl
stack_set body t starts (suc d) i x h =
    rw (get_or-set_other starts i d x 0 (λ e. omega arith), stack_set body t starts d i x (omega arith))

starts_in : (starts : List ℕ) (d k kind : ℕ) → (kind ≡ 1 → d < length starts) → ((i : ℕ) → i < d → get_or starts i 0 < k) → (i : ℕ)
    → i < open_count d kind
    → get_or (starts_after starts d k kind) i 0 < k + 1
starts_in starts d k kind room f i = go (eqb kind 1) (closes_element kind) refl
  where
    under : d < length starts → (b : Bool) → leb d i ≡ b → i < suc d → get_or (set starts d k) i 0 < k + 1
    under h true q l = let e : i ≡ d = omega (arith, leb-true d i q) in rw (e, get_or-set_same starts d k 0 h) (omega arith)
    under h false q l =
        let m = leb-false d i q in rw (get_or-set_other starts d i k 0 (λ e. omega arith)) (omega (arith, f i m))

    go : (a b : Bool) → eqb kind 1 ≡ a → i < pick a (suc d) (pick b (d - 1) d) → get_or (pick a (set starts d k) starts) i 0 < k + 1
    go true b q l = under (room (eqb-true kind 1 q)) (leb d i) refl l
    go false true q l = let x = f i (omega arith) in omega arith
    go false false q l = let x = f i l in omega arith

-- ---- what a token does, by its fault
abbrev told : Fault → ℕ → State → State
told (Ok u) k st = st
told (Err c) k st = failed k c

told_value : (v : List ℕ) (k : ℕ) (st : State) → with_value (validated v) k st ≡ told (value_fault v) k st
told_value v k st = go (validated v)
  where
    go : (r : Result (Unit {0}) BadReference) → with_value r k st ≡ told (as_fault r) k st
    go (Ok u) = refl
    go (Err e) = refl

told_attribute : (u : Bool) (v : List ℕ) (k : ℕ) (st : State)
    → with_attribute u k (with_value (validated v) k st) ≡ told (pick u (Err Cause.RepeatedAttribute) (value_fault v)) k st
told_attribute true v k st = refl
told_attribute false v k st = told_value v k st

told_close : (u : Bool) (k : ℕ) (st : State)
    → pick u st (failed k Cause.MismatchedEnd) ≡ told (pick u (Ok tt) (Err Cause.MismatchedEnd)) k st
told_close true k st = refl
told_close false k st = refl

walk_failed : (j k : ℕ) (c : Cause) (l : List Tok) → walk j (failed k c) l ≡ failed k c
unfolding walk
walk_failed j k c [] = refl
walk_failed j k c (t ∷ l) = refl

-- ---- the rules at a row, by its kind
module _ {body : List ℕ} {p : Place} {r : Row} {rest : List Row} (o : RowRules body p r rest) where
  -- kinds 2, 3 and 5 stand in a start tag
  in_tag_lem : in_tag_only r.kind ≡ true → p.in_tag ≡ true
  in_tag_lem e = go p.in_tag refl
    where
      go : (b : Bool) → p.in_tag ≡ b → p.in_tag ≡ true
      go true h = h
      go false h = false_true (sym (o.tag_order.outside h) ∙ e)

names_first : (body t : List ℕ) (tag j : ℕ) → tag + 1 < j
    → names_back body t tag j ≡ name_at body t (j - 1) ∷ names_back body t tag (j - 1)
names_first body t tag j h = let e : j - (tag + 1) ≡ suc ((j - 1) - (tag + 1)) = omega arith in rw e

-- ---- in the start tag of row `top`: the attribute names of the rows after it
record TagAt (body t : List ℕ) (top k : ℕ) (names : List Name) : Type 0 where
  before : top < k
  are : names ≡ names_back body t top k

tag_first : (body t : List ℕ) (k : ℕ) → TagAt body t k (k + 1) []
tag_first body t k = record { before = omega arith; are = let z : k + 1 - (k + 1) ≡ 0 = omega arith in rw z }

tag_more : {body t : List ℕ} {top k : ℕ} {names : List Name} → TagAt body t top k names
    → TagAt body t top (k + 1) (name_at body t k ∷ names)
tag_more {body} {t} {top} {k} at =
    let z : k + 1 - 1 ≡ k = omega arith in
    let y = names_first body t top (k + 1) (omega (arith, at.before)) in
    record { before = omega (arith, at.before); are = rw (y, z, at.are) }

-- ---- what row k does, by its kind, where d elements are open
module _ (body t starts : List ℕ) (d k : ℕ) (v : List ℕ) (names : List Name) where
  more : d < length starts → name_at body t k ∷ stack_of body t starts d ≡ stack_of body t (set starts d k) (suc d)
  more room = rw (get_or-set_same starts d k 0 room, stack_set body t starts d d k (omega arith))

  less : popped (stack_of body t starts d) ≡ stack_of body t starts (d - 1)
  less = go d
    where
      go : (i : ℕ) → popped (stack_of body t starts i) ≡ stack_of body t starts (i - 1)
      go zero = refl
      go (suc i) = let z : suc i - 1 ≡ i = omega arith in rw z

  closes : 0 < d → closed (name_at body t k) (stack_of body t starts d) names k
      ≡ pick (same_name (name_at body t k) (name_at body t (top_of starts d))) (going (popped (stack_of body t starts d)) names)
      (failed k Cause.MismatchedEnd)
  closes h = go d h
    where
      go : (i : ℕ) → 0 < i → closed (name_at body t k) (stack_of body t starts i) names k
          ≡ pick (same_name (name_at body t k) (name_at body t (top_of starts i))) (going (popped (stack_of body t starts i)) names)
          (failed k Cause.MismatchedEnd)
      go zero h = absurd (omega arith)
      go (suc i) h = refl

  row_step : {kind : ℕ} {u : Tok} → Kind (name_at body t k) v kind u → (kind ≡ 1 → d < length starts)
      → (kind ≡ 2 → names ≡ names_back body t (top_of starts d) k)
      → (kind ≡ 4 → 0 < d)
      → step k (stack_of body t starts d) names u
      ≡ told (fault_of (name_at body t (top_of starts d)) (names_back body t (top_of starts d) k) u) k
      (going (stack_of body t (starts_after starts d k kind) (open_count d kind)) (names_after names u))
  row_step of_start m a o = rw (more (m refl))
  row_step of_attr m a o =
      rw (← a refl) (told_attribute (has_name (name_at body t k) names) v k (going (stack_of body t starts d) (name_at body t k ∷ names)))
  row_step of_gt m a o = refl
  row_step of_close m a o =
      closes (o refl)
      ∙ rw (← less)
      (told_close (same_name (name_at body t k) (name_at body t (top_of starts d))) k (going (popped (stack_of body t starts d)) names))
  row_step of_slash m a o = rw less
  row_step (of_matter {m = x} w) m a o =
      rw (w.loose.start, w.loose.closing) (told_value (references_in x) k (going (stack_of body t starts d) names))
  row_step (of_error w) m a o = refl

  -- inside a start tag after it: it starts the tag, or is an attribute of it
  tag_after : {b : Bool} {kind : ℕ} {u : Tok} → Kind (name_at body t k) v kind u → (u ≡ bad → ⊥) → (kind ≡ 1 → d < length starts)
      → (b ≡ true → may_be_in_tag kind ≡ true)
      → (b ≡ true → TagAt body t (top_of starts d) k names)
      → pick (eqb kind 1) true (pick (ends_tag kind) false b) ≡ true
      → TagAt body t (top_of (starts_after starts d k kind) (open_count d kind)) (k + 1) (names_after names u)
  tag_after of_start z m f a x = rw (get_or-set_same starts d k 0 (m refl)) (tag_first body t k)
  tag_after of_attr z m f a x = tag_more (a x)
  tag_after of_gt z m f a x = false_true x
  tag_after of_close z m f a x = false_true (f x)
  tag_after of_slash z m f a x = false_true x
  tag_after (of_matter w) z m f a x = false_true (sym w.outside ∙ f (rw (w.loose.start, w.loose.tag_end) at x))
  tag_after (of_error w) z m f a x = absurd (z refl)

-- ---- the walk
pub record WalkAt (body t : List ℕ) (starts : List ℕ) (depth k : ℕ) : Type 0 where
  pub within : k ≤ length t / 8
  place : Place
  each : EachRow body place (rows_from t k (length t / 8 - k))
  deep : place.nesting ≡ depth
  rows_in : (i : ℕ) → i < depth → get_or starts i 0 < k
  names : List Name
  tagged : place.in_tag ≡ true → TagAt body t (top_of starts depth) k names
  rest : walk k (going (stack_of body t starts depth) names) (toks_of body (rows_from t k (length t / 8 - k)))
      ≡ walk 0 (going [] []) (toks_of body (rows_of t))

pub walk_start : {body t : List ℕ} (starts : List ℕ) → Walkable body t → WalkAt body t starts 0 0
walk_start {body} {t} starts o =
    let z : length t / 8 - 0 ≡ length t / 8 = omega arith in
    record {
      within = omega arith;
      place = at_first;
      each = rw z (each_row o);
      deep = refl;
      rows_in = λ i l. absurd (omega arith);
      names = [];
      tagged = λ q. false_true q;
      rest = rw (z, all_rows o);
    }

module _ {body t : List ℕ} {starts : List ℕ} {depth k : ℕ} (w : WalkAt body t starts depth k) (h : k < length t / 8) where
  pub row_in : InTable t k
  row_in = record { row = omega arith }

  here : RowRules body w.place (row_at t k) (rows_from t (k + 1) (length t / 8 - (k + 1)))
  here = (first (rw (unroll t k (length t / 8) h) at w.each)).0

  after_here : EachRow body (after w.place (row_at t k)) (rows_from t (k + 1) (length t / 8 - (k + 1)))
  after_here = (first (rw (unroll t k (length t / 8) h) at w.each)).1

  pub row_room : get_or t (k * 8 + 0) 0 ≡ 1 → depth < 256
  row_room i = omega (arith, w.deep, here.open_limit i)

  top_in : InTable t (top_of starts depth)
  top_in = go depth w.rows_in
    where
      go : (d : ℕ) → ((i : ℕ) → i < d → get_or starts i 0 < k) → InTable t (top_of starts d)
      go zero f = record { row = omega arith }
      go (suc d) f = record { row = omega (arith, f d (omega arith)) }

  pub row_placed : WellPlaced t (top_of starts depth) k
  row_placed =
      record {
        row = row_in;
        start = top_in;
        in_tag = λ q. (w.tagged (in_tag_lem here (rw q))).before;
      }

  kind_here : Kind (name_at body t k) (value_at body t k) (get_or t (k * 8 + 0) 0) (tok_at body t k)
  kind_here = kind_of_lem (get_or t (k * 8 + 0) 0) (name_at body t k) (value_at body t k)

  -- one step of the walk
  stepped : walk (k + 1) (step k (stack_of body t starts depth) w.names (tok_at body t k))
      (toks_of body (rows_from t (k + 1) (length t / 8 - (k + 1))))
      ≡ walk 0 (going [] []) (toks_of body (rows_of t))
  unfolding walk
  stepped =
      rw (add-one k)
      (sym
      (ap (λ (l : List Row). walk k (going (stack_of body t starts depth) w.names) (toks_of body l))
      (rw (add-one k) at (unroll t k (length t / 8) h)))
      ∙ w.rest)

  module _ (size : length starts ≡ 256) {r : Fault} (q : FaultIs body t (top_of starts depth) k r) where
    turned : walk (k + 1)
        (told r k
        (going (stack_of body t (starts_after starts depth k (get_or t (k * 8 + 0) 0)) (open_count depth (get_or t (k * 8 + 0) 0)))
        (names_after w.names (tok_at body t k))))
        (toks_of body (rows_from t (k + 1) (length t / 8 - (k + 1))))
        ≡ walk 0 (going [] []) (toks_of body (rows_of t))
    turned =
        let x =
        row_step body t starts depth k (value_at body t k) w.names kind_here (λ i. rw size (row_room i))
        (λ i. (w.tagged (in_tag_lem here (rw i))).are)
        (λ i. omega (arith, w.deep, here.needs_open (rw i))) in
        rw (x, ← q.is) at stepped

    pub walk_fault : {c : Cause} → r ≡ Err c → Err (DrainError.IllFormed k c) ≡ walked (toks_of body (rows_of t))
    unfolding walked
    walk_fault {c} g = rw (← turned, g, walk_failed (k + 1) k c (toks_of body (rows_from t (k + 1) (length t / 8 - (k + 1)))))

    -- without a fault it goes on
    module _ (g : r ≡ (Ok tt)) where
      no_error_lem : tok_at body t k ≡ bad → ⊥
      no_error_lem i =
          let f : Err Cause.TokenError ≡ (Ok tt) = sym (rw i at q.is) ∙ g in
          let z : ◌≡◌ {A = ℕ} 0 1 = cc in absurd (omega arith)

      pub walk_next : {d : ℕ} {new : List ℕ} → Entered starts depth (get_or t (k * 8 + 0) 0) k new d → WalkAt body t new d (k + 1)
      walk_next o =
          rw (o.rows, o.count)
          (record {
            within = omega arith;
            place = after w.place (row_at t k);
            each = after_here;
            deep = rw w.deep;
            rows_in = starts_in starts depth k (get_or t (k * 8 + 0) 0) (λ i. rw size (row_room i)) w.rows_in;
            names = names_after w.names (tok_at body t k);
            tagged =
                tag_after body t starts depth k (value_at body t k) w.names kind_here no_error_lem (λ i. rw size (row_room i))
                here.tag_order.inside w.tagged;
            rest = rw g at turned;
          })

-- ---- the start rows after a row
module _ (starts : List ℕ) (depth k : ℕ) where
  pub enter_start : Entered starts depth 1 k (set starts depth k) (depth + 1)
  enter_start = record { rows = refl; count = add-one depth }

  pub enter_close : Entered starts depth 4 k starts (depth - 1)
  enter_close = record { rows = refl; count = refl }

  pub enter_slash : Entered starts depth 5 k starts (depth - 1)
  enter_slash = record { rows = refl; count = refl }

-- ---- the end of the rows
pub length_toks : (body : List ℕ) (l : List Row) → length (toks_of body l) ≡ length l
length_toks body [] = refl
length_toks body (r ∷ l) = ap suc (length_toks body l)

module _ {body t : List ℕ} {starts : List ℕ} {depth k : ℕ} (o : Walkable body t)
    (w : WalkAt body t starts depth k)
    (h : length t / 8 ≤ k) where
  ended : walk 0 (going [] []) (toks_of body (rows_of t)) ≡ going (stack_of body t starts depth) w.names
  unfolding walk
  ended = sym (rw (rolled_out t k (length t / 8) h) at w.rest)

  pub walk_passes : depth ≡ 0 → Ok tt ≡ walked (toks_of body (rows_of t))
  unfolding walked
  walk_passes e = rw (ended, e)

  rows_are : length (toks_of body (rows_of t)) ≡ length t / 8
  rows_are = length_toks body (rows_of t) ∙ rw (all_rows o, length_rows)

  pub walk_unclosed : (depth ≡ 0 → ⊥) → Err (DrainError.IllFormed (length t / 8) Cause.UnclosedElement) ≡ walked (toks_of body (rows_of t))
  unfolding walked
  walk_unclosed e = rw (ended, rows_are) (go depth e)
    where
      go : (d : ℕ) → (d ≡ 0 → ⊥)
          → Err (DrainError.IllFormed (length t / 8) Cause.UnclosedElement) ≡ verdict (length t / 8)
          (going (stack_of body t starts d) w.names)
      go zero e = absurd (e refl)
      go (suc d) e = refl

-- ---- the drain
module _ (body t : List ℕ) (final : ℕ) where
  pub drain_walked : Obeys body t final → {r : Result (Unit {0}) DrainError} → r ≡ walked (toks_of body (rows_of t))
      → r ≡ drained body t final
  unfolding drained
  drain_walked o {r} q = go (dec_table body t final) o.is
    where
      go : (d : Dec (TableRules body t final)) → is_yes d ≡ true → r ≡ drained_by d (toks_of body (rows_of t))
      go (yes x) p = q
      go (no x) p = false_true p

  pub drain_table : is_yes (dec_table body t final) ≡ false → Err DrainError.Table ≡ drained body t final
  unfolding drained
  drain_table h = go (dec_table body t final) h
    where
      go : (d : Dec (TableRules body t final)) → is_yes d ≡ false → Err DrainError.Table ≡ drained_by d (toks_of body (rows_of t))
      go (yes x) p = false_true (sym p)
      go (no x) p = refl
