-- Where start tags stand among tokens: an attribute, `>` and `/>` come only in a start tag, and nothing else but a token error does. So a
-- reader that stands outside of start tags meets each start element at the row of its own start. One that goes on anyhow need not: a search
-- that begins in a start tag finds an element without a start of its own.
use Prim.Native.Nat.{ℕ, suc, ◌≤◌, ◌<◌}
use mathlib.Core.Path.{◌≡◌, refl, sym, ◌∙◌}
use mathlib.Core.Bool.{Bool, true, false, not}
use mathlib.Core.List.{List, [], ◌∷◌}
use native.Mathlib.Omega.{arith}
use lib.Dec.{eqb}
use lib.ListN.{drop}
use Rattle.lists.specs.Tests.{pick}
use Rattle.lists.proofs.Tests.{pick_cases, false_true}
use Rattle.reference.specs.Text.{Out, bytes, unescaped}
use Rattle.reference.specs.Text as text
use Rattle.table.specs.Row.{Row, Name, Tok, start, attr, gt, close, slash, matter, bad, name_of, value_of, tok_of, toks_of}
use Rattle.table.proofs.Classes.{Kind, of_start, of_attr, of_gt, of_close, of_slash, of_matter, of_error, kind_of_lem}
use Rattle.table.specs.Rules.{ends_tag, in_tag_only, may_be_in_tag, Place, EachRow, none, row}
use Rattle.xml.proofs.Past.{at_next}
use Rattle.document.specs.declared.Depth.{Depth}
use Rattle.document.specs.Reader.{Reader, reader, depth_after, shallower, Scope, is_end, ends_at, Past, skip, StartEl, add_attribute}
use Rattle.document.specs.Reader.{as_closed, on_attribute, on_close, Next, found, gone, take_turn, next}
use Rattle.document.specs.Scope.{shut}
use Rattle.document.specs.Tags.{may_stand, in_tag_after, Tags, no_token, token}

-- ---- the order of tokens, as far as start tags go
is_inside : (b : Bool) → (b ≡ false → true ≡ false) → b ≡ true
is_inside true f = refl
is_inside false f = sym (f refl)

is_outside : (b : Bool) → (b ≡ true → false ≡ true) → not b ≡ true
is_outside true f = f refl
is_outside false f = refl

not_inside : (b : Bool) → not b ≡ true → b ≡ false
not_inside true e = sym e
not_inside false e = refl

-- by the rules of rows
module _ {n : Name} {v : List ℕ} where
  may_stand_lem : {k : ℕ} {t : Tok} → Kind n v k t → (b : Bool) → (b ≡ true → may_be_in_tag k ≡ true) → (b ≡ false → in_tag_only k ≡ false)
      → may_stand t b ≡ true
  may_stand_lem of_start b i o = is_outside b i
  may_stand_lem of_attr b i o = is_inside b o
  may_stand_lem of_gt b i o = is_inside b o
  may_stand_lem of_close b i o = is_outside b i
  may_stand_lem of_slash b i o = is_inside b o
  may_stand_lem (of_matter w) b i o = is_outside b (λ e. sym w.outside ∙ i e)
  may_stand_lem (of_error w) b i o = refl

  tag_after : {k : ℕ} {t : Tok} → Kind n v k t → (b : Bool) → in_tag_after t b ≡ pick (eqb k 1) true (pick (ends_tag k) false b)
  tag_after of_start b = refl
  tag_after of_attr b = refl
  tag_after of_gt b = refl
  tag_after of_close b = refl
  tag_after of_slash b = refl
  tag_after (of_matter w) b = rw (w.loose.start, w.loose.tag_end)
  tag_after (of_error w) b = rw (w.loose.start, w.loose.tag_end)

pub rows_tags : {body : List ℕ} {p : Place} {rows : List Row} → EachRow body p rows → Tags p.in_tag (toks_of body rows)
rows_tags none = no_token
rows_tags {body} (row {p = p} {r = r} {rest = rest} o t) =
    let k = kind_of_lem r.kind (name_of body r) (value_of body r) in
    token {b = p.in_tag} {t = tok_of body r} {l = toks_of body rest} (may_stand_lem k p.in_tag o.tag_order.inside o.tag_order.outside)
    (rw (tag_after k p.in_tag) (rows_tags t))

-- ---- the skip ends outside of start tags: after a close tag, or where the tokens run out
after_end : (s : Scope) (d : Depth) (t : Tok) (b : Bool) {l : List Tok} → ends_at s d t ≡ true → may_stand t b ≡ true
    → Tags (in_tag_after t b) l → Tags false l
after_end s d (start n) b e m g = false_true e
after_end s d (attr n v) b e m g = false_true e
after_end s d gt b e m g = false_true e
after_end s d (close n) b e m g = rw (not_inside b m) at g
after_end s d slash b e m g = false_true e
after_end s d (matter x) b e m g = false_true e
after_end s d bad b e m g = false_true e

pub skip_outside : (s : Scope) (d : Depth) (k : ℕ) {b : Bool} {l : List Tok} → Tags b l → Tags false (skip s d k l).reader.rest
unfolding skip
skip_outside s d k no_token = no_token
skip_outside s d k (token {b = b} {t = t} {l = l} m g) =
    let e = depth_after t d in
    pick_cases (λ (p : Past). Tags false p.reader.rest) (ends_at s e t) (shut (reader e (suc k) l)) (skip s e (suc k) l)
    (λ q. after_end s e t b q m g) (λ q. skip_outside s e (suc k) g)

-- ---- the search for a start element
-- the start of el stands in its row, which is one of those from a row on and before row k
pub record Begun (all : List Tok) (from k : ℕ) (el : StartEl) : Type 0 where
  pub later : List Tok
  pub at : drop el.row all ≡ start el.name ∷ later
  pub since : from ≤ el.row
  pub before : el.row < k

-- where a search ends: an element's own start was met, and the reader stands outside of start tags; or there is none, and the reader stands
-- outside if it read the scope's end
pub data Ends (all : List Tok) (from : ℕ) : Next → Type 0 where
  at_start : {el : StartEl} {r : Reader} → Begun all from r.row el → Tags false r.rest → Ends all from (found el r)
  at_none : {p : Past} {b : Bool} → Tags b p.reader.rest → (p.ended ≡ true → b ≡ false) → Ends all from (gone p)

module _ (all : List Tok) (from : ℕ) where
  -- o is what was met so far: in a start tag its start was
  abbrev SoFar : Bool → ℕ → StartEl → Type 0
  SoFar b k o = b ≡ true → Begun all from k o

  -- by one token more; with an attribute more; and ended in `/>`
  more : {k : ℕ} {o : StartEl} → Begun all from k o → Begun all from (suc k) o
  more w = record { later = w.later; at = w.at; since = w.since; before = omega (arith, w.before) }

  more_attribute : {k : ℕ} {o : StartEl} (n : Name) (v : List ℕ) → Begun all from k o → Begun all from (suc k) (add_attribute o n v)
  more_attribute n v w = record { later = w.later; at = w.at; since = w.since; before = omega (arith, w.before) }

  more_closed : {k : ℕ} {o : StartEl} → Begun all from k o → Begun all from (suc k) (as_closed o)
  more_closed w = record { later = w.later; at = w.at; since = w.since; before = omega (arith, w.before) }

  pub next_ends : (s : Scope) (o : StartEl) (d : Depth) (k : ℕ) (l : List Tok) {b : Bool} → from ≤ k → drop k all ≡ l → Tags b l
      → SoFar b k o → Ends all from (next s o d k l)
  unfolding next
  next_ends s o d k [] low h g f = at_none g (λ e. false_true e)
  next_ends s o d k (start n ∷ l) low h (token m g) f =
      next_ends s _ _ (suc k) l (omega (arith, low)) (at_next all k h) g
      (λ e. record { later = l; at = h; since = low; before = omega arith })
  next_ends s o d k (attr n v ∷ l) {b} low h (token m g) f =
      go (unescaped v) (λ (x : List ℕ). next_ends s (add_attribute o n x) d (suc k) l (omega (arith, low)) (at_next all k h) g
      (λ e. more_attribute n x (f e)))
    where
      go : (u : Out) → ((x : List ℕ) → Ends all from (next s (add_attribute o n x) d (suc k) l))
          → Ends all from (take_turn (on_attribute o n u) (reader d (suc k) l) (λ (o' : StartEl). next s o' d (suc k) l))
      go (bytes x) ih = ih x
      go (text.bad at) ih = at_none g (λ e. false_true e)
  next_ends s o d k (gt ∷ l) low h (token m g) f = at_start (more (f m)) g
  next_ends s o d k (close n ∷ l) {b} low h (token m g) f =
      go (is_end s (shallower d) n) (next_ends s o (shallower d) (suc k) l (omega (arith, low)) (at_next all k h) g (λ e. more (f e)))
    where
      go : (ends : Bool) → Ends all from (next s o (shallower d) (suc k) l)
          → Ends all from (take_turn (on_close o ends) (reader (shallower d) (suc k) l)
          (λ (o' : StartEl). next s o' (shallower d) (suc k) l))
      go true ih = at_none g (λ e. not_inside b m)
      go false ih = ih
  next_ends s o d k (slash ∷ l) low h (token m g) f = at_start (more_closed (f m)) g
  next_ends s o d k (matter x ∷ l) low h (token m g) f =
      next_ends s o d (suc k) l (omega (arith, low)) (at_next all k h) g (λ e. more (f e))
  next_ends s o d k (bad ∷ l) low h (token m g) f = next_ends s o d (suc k) l (omega (arith, low)) (at_next all k h) g (λ e. more (f e))
