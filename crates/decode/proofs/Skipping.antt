-- Laws of the skip to the end of a scope, and of an element that is dropped or left by it.
use Prim.Native.Nat.{ℕ, suc, ◌+◌, ◌*◌, ◌≤◌, ◌<◌}
use mathlib.Core.Path.{◌≡◌, refl, sym, ◌∙◌, ap}
use mathlib.Core.Bool.{Bool, true, false}
use mathlib.Core.List.{List}
use native.Mathlib.Numerals.{add-one}
use native.Mathlib.Omega.{arith}
use lib.ListN.{length, get_or}
use Rattle.lists.specs.Tests.{pick}
use Rattle.table.specs.Row.{Tok}
use Rattle.table.specs.Rules.{open_count}
use Rattle.table.specs.Rows.{name_at, value_at, tok_at}
use Rattle.table.proofs.Classes.{kind_of_lem}
use Rattle.document.specs.Reader.{reader, depth, depth_after, Scope, ends_at, skip}
use Rattle.document.specs.Reader as doc
use Rattle.document.specs.Scope.{shut}
use Rattle.document.proofs.Laws.Steps.{skip_token, skip_end}
use Rattle.document.proofs.Laws.Tags.{skip_outside}
use Rattle.decode.specs.declared.place.Cursor.{Cursor}
use Rattle.decode.specs.declared.place.Past.{Past}
use Rattle.decode.specs.declared.place.Scope.{Scope as ScopeAt}
use Rattle.decode.specs.declared.place.Start.{Start}
use Rattle.decode.specs.Place.{toks_from, HasRow, StartIn, Tagged, Outside, EndedAt, over_at}
use Rattle.decode.specs.Reader.{past_at, scope_at, PastIs, DropIs, LeaveIs}
use Rattle.decode.proofs.Known.{toks_next, toks_none, depth_open, open_low, outside, row_seen}

-- the definition's answer, in a scope, from depth d and row k of the first n
abbrev skipped : List ℕ → List ℕ → ℕ → Scope → ℕ → ℕ → doc.Past
skipped body t n s d k = skip s (depth d) k (toks_from body t n k)

-- ---- the loop: at depth d and row k what is left gives the whole
pub record SkipAt (body t : List ℕ) (n : ℕ) (sc : ScopeAt) (c : Cursor) (d k : ℕ) : Type 0 where
  pub since : c.row ≤ k
  pub high : k ≤ n
  pub low : d ≤ k
  pub rest : skipped body t n (scope_at body t sc) d k ≡ skipped body t n (scope_at body t sc) c.depth.0 c.row

pub skip_start : {body t : List ℕ} {n : ℕ} (sc : ScopeAt) {c : Cursor} → Tagged body t n c → SkipAt body t n sc c c.depth.0 c.row
skip_start sc g = record { since = omega arith; high = g.at.high; low = g.at.low; rest = refl }

-- the depth after row k, by its kind
pub depth_here : (body t : List ℕ) (d k : ℕ) {kind : ℕ} → kind ≡ get_or t (k * 8 + 0) 0 → {d' : ℕ} → d' ≡ open_count d kind
    → depth_after (tok_at body t k) (depth d) ≡ depth d'
depth_here body t d k f e =
    rw (e, f) (depth_open (kind_of_lem (get_or t (k * 8 + 0) 0) (name_at body t k) (value_at body t k)) d)

module _ {body t : List ℕ} {n : ℕ} {sc : ScopeAt} {c : Cursor} (g : Tagged body t n c) {d k : ℕ}
    (w : SkipAt body t n sc c d k) where
  abbrev s : Scope
  s = scope_at body t sc

  -- the definition's answer stands outside of start tags
  past_is : (p : Past) → past_at body t n p ≡ skipped body t n s c.depth.0 c.row → p.at.row ≤ n → p.at.depth.0 ≤ p.at.row
      → c.row ≤ p.at.row → PastIs body t n sc c p
  past_is p x h l u =
      record {
        is = x;
        stands = outside (record { high = h; low = l; tags = rw (← x) at (skip_outside s (depth c.depth.0) c.row g.tags) });
        later = u;
      }

  pub skip_done : n ≤ k → PastIs body t n sc c (over_at false n d)
  skip_done h =
      let i : k ≡ n = omega (arith, w.high) in
      let v = rw i at w in
      let z = toks_none body t n n (omega arith) in
      past_is (over_at false n d) (rw z (sym (skip_end s (depth d) n) ∙ rw z at v.rest)) (omega arith) v.low v.since

  module _ (h : k < n) {kind : ℕ} (f : kind ≡ get_or t (k * 8 + 0) 0) {d' : ℕ} (x : d' ≡ open_count d kind) {r : Bool}
      (q : r ≡ ends_at s (depth d') (tok_at body t k)) where
    -- what one row does
    turned : pick r (shut (reader (depth d') (k + 1) (toks_from body t n (k + 1)))) (skipped body t n s d' (k + 1))
        ≡ skipped body t n s c.depth.0 c.row
    turned =
        rw (depth_here body t d k f x, ← q, ← add-one k) at
        (sym (skip_token s (depth d) k (tok_at body t k) (toks_from body t n (suc k)))
        ∙ (ap (λ (l : List Tok). skip s (depth d) k l) (sym (rw (add-one k) at (toks_next body t n k h))) ∙ w.rest))

    low_here : d' ≤ k + 1
    low_here = rw x (open_low d kind k w.low)

    pub skip_on : r ≡ false → SkipAt body t n sc c d' (k + 1)
    skip_on e = record { since = omega (arith, w.since); high = omega arith; low = low_here; rest = rw e at turned }

    pub skip_ended : r ≡ true → PastIs body t n sc c (over_at true (k + 1) d')
    skip_ended e = past_is (over_at true (k + 1) d') (rw e at turned) (omega arith) low_here (omega (arith, w.since))

-- ---- an element: its row is one of the table's
module _ {body t : List ℕ} {n : ℕ} {st : Start} (o : StartIn body t n st) where
  pub start_row : n * 8 ≤ length t → HasRow t (ScopeAt.Element st.depth st.row)
  start_row h = row_seen h (omega (arith, o.low, o.high))

-- one that is dropped
module _ {body t : List ℕ} {n : ℕ} (st : Start) {c : Cursor} where
  pub drop_closed : Outside body t n c → st.closed ≡ true → DropIs body t n st c (record { ended = true; at = c })
  drop_closed o q = record { is = rw q; stands = o; later = omega arith }

  pub drop_inside : {r : Past} → st.closed ≡ false → PastIs body t n (ScopeAt.Element st.depth st.row) c r → DropIs body t n st c r
  drop_inside q x = record { is = rw q x.is; stands = x.stands; later = x.later }

-- one that is left
module _ {body t : List ℕ} {n : ℕ} (st : Start) {p : Past} where
  pub leave_ended : EndedAt body t n p → p.ended ≡ true → LeaveIs body t n st p p.at
  leave_ended w q = record { is = λ c. rw q; stands = w.out q; later = omega arith }

  pub leave_inside : {r : Past} → p.ended ≡ false → PastIs body t n (ScopeAt.Element st.depth st.row) p.at r → LeaveIs body t n st p r.at
  leave_inside q x = record { is = λ c. rw q (ap (λ i. i.reader) x.is); stands = x.stands; later = x.later }
