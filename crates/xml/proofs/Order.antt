-- The order of kinds in a table (01, "Token table") as a machine over tokens; a table that obeys the rules is taken by it.
use Prim.Native.Nat.{ℕ, zero, suc, ◌≤◌, ◌<◌}
use mathlib.Core.Path.{◌≡◌, refl, sym, ap, ◌∙◌}
use mathlib.Core.Bool.{Bool, true, false, not}
use mathlib.Core.List.{List, [], ◌∷◌}
use native.Mathlib.Omega.{arith}
use lib.Dec.{eqb}
use lib.ListN.{length}
use Rattle.lists.specs.Tests.{pick}
use Rattle.lists.proofs.Tests.{false_true}
use Rattle.table.specs.Row.{Row, rows_of, Name, Tok, start, attr, gt, close, slash, Matter, matter, bad, name_of, value_of, toks_of}
use Rattle.table.proofs.Classes.{needs_open, Loose, OfError, Kind, of_start, of_attr, of_gt, of_close, of_slash, of_matter, of_error}
use Rattle.table.proofs.Classes.{kind_of_lem}
use Rattle.table.specs.Rules.{most_kind, ends_tag, in_tag_only, may_be_in_tag, may_follow_root}
use Rattle.table.specs.Rules.{needs_element, open_count, Place, RowRules, EachRow}
use Rattle.table.specs.Rules.{none, row, TableRules}

-- where a token stands: before the root; in a start tag, or in content, with d elements open around the innermost; after the root;
-- after a token error; or out of order
pub data Phase : Type 0 where
  before : Phase
  in_tag : ℕ → Phase
  within : ℕ → Phase
  behind : Phase
  ended : Phase
  broken : Phase

-- an element has closed, and d are open around it
abbrev pub back : ℕ → Phase
back zero = behind
back (suc d) = within d

-- outside of the root: "Kinds 4 and 6 need an open element."
abbrev outer : Phase → Matter → Phase
outer p m = pick (needs_open m) broken p

abbrev pub rule : Phase → Tok → Phase
rule before (start n) = in_tag zero
rule before (attr m v) = broken
rule before gt = broken
rule before (close n) = broken
rule before slash = broken
rule before (matter b) = outer before b
rule before bad = ended
rule (in_tag d) (start n) = broken
rule (in_tag d) (attr m v) = in_tag d
rule (in_tag d) gt = within d
rule (in_tag d) (close n) = broken
rule (in_tag d) slash = back d
rule (in_tag d) (matter b) = broken
rule (in_tag d) bad = ended
rule (within d) (start n) = in_tag (suc d)
rule (within d) (attr m v) = broken
rule (within d) gt = broken
rule (within d) (close n) = back d
rule (within d) slash = broken
rule (within d) (matter b) = within d
rule (within d) bad = ended
rule behind (start n) = broken
rule behind (attr m v) = broken
rule behind gt = broken
rule behind (close n) = broken
rule behind slash = broken
rule behind (matter b) = outer behind b
rule behind bad = ended
rule ended t = broken
rule broken t = broken

abbrev pub kept : Phase → Bool
kept before = true
kept (in_tag d) = true
kept (within d) = true
kept behind = true
kept ended = true
kept broken = false

-- the tokens keep the order from there on
unfoldable pub ruled : Phase → List Tok → Bool
ruled p [] = kept p
ruled p (t ∷ l) = ruled (rule p t) l

-- once broken, always broken
never : (l : List Tok) → ruled broken l ≡ false
unfolding ruled
never [] = refl
never (t ∷ l) = never l

pub not_broken {ℓ} : {A : Type ℓ} (l : List Tok) → ruled broken l ≡ true → A
not_broken l h = false_true (sym (never l) ∙ h)

-- ---- from the rules of a row to a step of the machine
-- what a place of the rules is to the machine
data Stands (p : Place) : Phase → Type 0 where
  at_before : p.in_tag ≡ false → p.nesting ≡ 0 → p.rooted ≡ false → Stands p before
  at_tag : {d : ℕ} → p.in_tag ≡ true → p.nesting ≡ suc d → p.rooted ≡ true → Stands p (in_tag d)
  at_within : {d : ℕ} → p.in_tag ≡ false → p.nesting ≡ suc d → p.rooted ≡ true → Stands p (within d)
  at_behind : p.in_tag ≡ false → p.nesting ≡ 0 → p.rooted ≡ true → Stands p behind

at_back : {p : Place} (d : ℕ) → p.in_tag ≡ false → p.nesting ≡ d → p.rooted ≡ true → Stands p (back d)
at_back zero i o r = at_behind i o r
at_back (suc d) i o r = at_within i o r

-- the rules on the order, for a row of kind k that has so many rows after it
record Ordered (p : Place) (k more : ℕ) : Type 0 where
  least : 1 ≤ k
  most : k ≤ most_kind
  inside : p.in_tag ≡ true → may_be_in_tag k ≡ true
  outside : p.in_tag ≡ false → in_tag_only k ≡ false
  needs_open : needs_element k ≡ true → 0 < p.nesting
  after_root : p.rooted ≡ true → p.nesting ≡ 0 → may_follow_root k ≡ true
  last : k ≡ 8 → more ≡ 0

-- `after`, by the kind alone
abbrev next : Place → ℕ → ℕ → Place
next p k at =
    record {
      position = at;
      in_tag = pick (eqb k 1) true (pick (ends_tag k) false p.in_tag);
      nesting = open_count p.nesting k;
      rooted = pick (eqb k 1) true p.rooted;
    }

ended_last : (l : List Tok) → length l ≡ 0 → ruled ended l ≡ true
unfolding ruled
ended_last [] e = refl
ended_last (t ∷ l) e = absurd (omega arith)

module _ (p : Place) (at : ℕ) (n : Name) (v : List ℕ) (l : List Tok) where
  -- from each place that the row leads to, the rest keeps the order
  Goes : ℕ → Type 0
  Goes k = (q : Phase) → Stands (next p k at) q → ruled q l ≡ true

  error_step : {k : ℕ} → OfError k → Ordered p k (length l) → ruled ended l ≡ true
  error_step w o = ended_last l (o.last (w.eight o.least o.most))

  -- a loose kind leaves the place as it is, but for the position
  loose_stands : {k : ℕ} {q : Phase} → Loose k → Stands p q → Stands (next p k at) q
  loose_stands w (at_before i c r) = at_before (rw (w.start, w.tag_end) i) (rw (w.start, w.closing) c) (rw w.start r)
  loose_stands w (at_tag {d = d} i c r) = at_tag {d = d} (rw (w.start, w.tag_end) i) (rw (w.start, w.closing) c) (rw w.start r)
  loose_stands w (at_within {d = d} i c r) = at_within {d = d} (rw (w.start, w.tag_end) i) (rw (w.start, w.closing) c) (rw w.start r)
  loose_stands w (at_behind i c r) = at_behind (rw (w.start, w.tag_end) i) (rw (w.start, w.closing) c) (rw w.start r)

  -- matter outside of the root does not need an open element
  outer_step : (q : Phase) (m : Matter) → needs_open m ≡ false → ruled q l ≡ true → ruled (outer q m) l ≡ true
  outer_step q m e h = rw e h

  before_step : {k : ℕ} {t : Tok} → Kind n v k t → p.in_tag ≡ false → p.nesting ≡ 0 → p.rooted ≡ false → Ordered p k (length l) → Goes k
      → ruled (rule before t) l ≡ true
  unfolding Goes
  before_step of_start i c r o g = g (in_tag zero) (at_tag refl (ap suc c) refl)
  before_step of_attr i c r o g = false_true (sym (o.outside i))
  before_step of_gt i c r o g = false_true (sym (o.outside i))
  before_step of_close i c r o g = absurd (omega (arith, o.needs_open refl))
  before_step of_slash i c r o g = false_true (sym (o.outside i))
  before_step (of_matter {m = m} w) i c r o g =
      outer_step before m (closed (needs_open m) refl) (g before (loose_stands w.loose (at_before i c r)))
    where
      closed : (b : Bool) → needs_open m ≡ b → b ≡ false
      closed true e = absurd (omega (arith, o.needs_open (w.within ∙ e)))
      closed false e = refl
  before_step (of_error w) i c r o g = error_step w o

  tag_step : {k : ℕ} {t : Tok} (d : ℕ) → Kind n v k t → p.in_tag ≡ true → p.nesting ≡ suc d → p.rooted ≡ true → Ordered p k (length l)
      → Goes k → ruled (rule (in_tag d) t) l ≡ true
  unfolding Goes
  tag_step d of_start i c r o g = false_true (o.inside i)
  tag_step d of_attr i c r o g = g (in_tag d) (at_tag i c r)
  tag_step d of_gt i c r o g = g (within d) (at_within refl c r)
  tag_step d of_close i c r o g = false_true (o.inside i)
  tag_step d of_slash i c r o g = g (back d) (at_back d refl (omega arith) r)
  tag_step d (of_matter w) i c r o g = false_true (sym w.outside ∙ o.inside i)
  tag_step d (of_error w) i c r o g = error_step w o

  within_step : {k : ℕ} {t : Tok} (d : ℕ) → Kind n v k t → p.in_tag ≡ false → p.nesting ≡ suc d → p.rooted ≡ true → Ordered p k (length l)
      → Goes k → ruled (rule (within d) t) l ≡ true
  unfolding Goes
  within_step d of_start i c r o g = g (in_tag (suc d)) (at_tag refl (ap suc c) refl)
  within_step d of_attr i c r o g = false_true (sym (o.outside i))
  within_step d of_gt i c r o g = false_true (sym (o.outside i))
  within_step d of_close i c r o g = g (back d) (at_back d i (omega arith) r)
  within_step d of_slash i c r o g = false_true (sym (o.outside i))
  within_step d (of_matter w) i c r o g = g (within d) (loose_stands w.loose (at_within i c r))
  within_step d (of_error w) i c r o g = error_step w o

  behind_step : {k : ℕ} {t : Tok} → Kind n v k t → p.in_tag ≡ false → p.nesting ≡ 0 → p.rooted ≡ true → Ordered p k (length l) → Goes k
      → ruled (rule behind t) l ≡ true
  unfolding Goes
  behind_step of_start i c r o g = false_true (o.after_root r c)
  behind_step of_attr i c r o g = false_true (o.after_root r c)
  behind_step of_gt i c r o g = false_true (o.after_root r c)
  behind_step of_close i c r o g = false_true (o.after_root r c)
  behind_step of_slash i c r o g = false_true (o.after_root r c)
  behind_step (of_matter {m = m} w) i c r o g =
      outer_step behind m (open_not (needs_open m) (sym w.behind ∙ o.after_root r c))
      (g behind (loose_stands w.loose (at_behind i c r)))
    where
      open_not : (b : Bool) → not b ≡ true → b ≡ false
      open_not true e = sym e
      open_not false e = refl
  behind_step (of_error w) i c r o g = error_step w o

  order_step : {k : ℕ} {t : Tok} {q : Phase} → Stands p q → Kind n v k t → Ordered p k (length l) → Goes k → ruled (rule q t) l ≡ true
  order_step (at_before i c r) w o g = before_step w i c r o g
  order_step (at_tag {d = d} i c r) w o g = tag_step d w i c r o g
  order_step (at_within {d = d} i c r) w o g = within_step d w i c r o g
  order_step (at_behind i c r) w o g = behind_step w i c r o g

toks_length : (body : List ℕ) (rows : List Row) → length (toks_of body rows) ≡ length rows
toks_length body [] = refl
toks_length body (r ∷ rows) = ap suc (toks_length body rows)

ordered : (body : List ℕ) {p : Place} {r : Row} (rest : List Row) → RowRules body p r rest → Ordered p r.kind (length (toks_of body rest))
ordered body rest h =
    record {
      least = h.known_kind.0;
      most = h.known_kind.1;
      inside = h.tag_order.inside;
      outside = h.tag_order.outside;
      needs_open = h.needs_open;
      after_root = h.after_root;
      last = λ e. toks_length body rest ∙ h.error_last e;
    }

rows_ruled : (body : List ℕ) {p : Place} {rows : List Row} → EachRow body p rows → {q : Phase} → Stands p q
    → ruled q (toks_of body rows) ≡ true
unfolding ruled Goes
rows_ruled body none (at_before i c r) = refl
rows_ruled body none (at_tag i c r) = refl
rows_ruled body none (at_within i c r) = refl
rows_ruled body none (at_behind i c r) = refl
rows_ruled body (row {p = p} {r = r} {rest = rest} h x) s =
    order_step p r.position _ _ (toks_of body rest) s (kind_of_lem r.kind (name_of body r) (value_of body r)) (ordered body rest h)
    (λ q s. rows_ruled body x s)

-- the tokens of a table that obeys the rules are in order
pub table_ruled : {body table : List ℕ} {final : ℕ} → TableRules body table final → ruled before (toks_of body (rows_of table)) ≡ true
table_ruled {body} h = rows_ruled body h.rules.each (at_before refl refl refl)
