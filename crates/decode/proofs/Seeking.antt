-- Laws of the search for the next start element in a scope, for the root, and for the next child of an element.
use Prim.Native.Nat.{ℕ, suc, ◌+◌, ◌-◌, ◌*◌, ◌≤◌, ◌<◌}
use mathlib.Core.Path.{◌≡◌, refl, sym, ◌∙◌, ap}
use mathlib.Core.Bool.{Bool, true, false}
use mathlib.Core.List.{List}
use native.Mathlib.Numerals.{add-one}
use native.Mathlib.Omega.{arith}
use lib.ListN.{get_or}
use Rattle.std.specs.Prelude.{Result, Ok, Err, Some, None}
use Rattle.std.specs.Result.{result_ok}
use Rattle.table.specs.Row.{Name, Tok}
use Rattle.table.specs.Kinds.{DepthIs}
use Rattle.table.specs.Rows.{name_at, value_at, tok_at}
use Rattle.table.proofs.Classes.{Kind, of_start, of_attr, of_gt, of_close, of_slash, of_matter, of_error, kind_of_lem}
use Rattle.document.specs.Reader.{reader, depth, depth_after, ends_at, Scope, document, StartEl, blank, on_close, take_turn, turn, found}
use Rattle.document.specs.Reader.{gone, next}
use Rattle.document.specs.Reader as doc
use Rattle.document.specs.declared.Depth.{Depth}
use Rattle.document.specs.Scope.{root_of, on_root}
use Rattle.document.proofs.Laws.Steps.{next_token, next_end}
use Rattle.document.specs.Tags.{may_stand, in_tag_after}
use Rattle.lists.proofs.Tests.{false_true}
use Rattle.decode.specs.declared.place.Cursor.{Cursor}
use Rattle.decode.specs.declared.place.Found.{Found}
use Rattle.decode.specs.declared.place.Past.{Past}
use Rattle.decode.specs.declared.place.Scope.{Scope as ScopeAt}
use Rattle.decode.specs.declared.view.View.{View}
use Rattle.decode.specs.declared.element.Element.{Element}
use Rattle.decode.specs.Place.{toks_from, Outside, at_first, over_at}
use Rattle.decode.specs.Reader.{scope_at, MetFrom, GoneFrom, SoughtIs, FirstIs, StartsAt, TagIs}
use Rattle.decode.specs.Element.{RootIs, NextIs, FoundAt}
use Rattle.decode.proofs.Known.{Stands, stands, outside, tagged, toks_next, toks_none, tags_next}
use Rattle.decode.proofs.Skipping.{depth_here}

-- the definition's answer, in a scope, from depth d and row k of the first n
abbrev sought : List ℕ → List ℕ → ℕ → Scope → ℕ → ℕ → doc.Next
sought body t n s d k = next s blank (depth d) k (toks_from body t n k)

-- ---- the loop: at depth d and row k, outside of start tags, what is left gives the whole
pub record SeekAt (body t : List ℕ) (n : ℕ) (sc : ScopeAt) (c : Cursor) (d k : ℕ) : Type 0 where
  pub since : c.row ≤ k
  pub at : Stands body t n d k
  pub rest : sought body t n (scope_at body t sc) d k ≡ sought body t n (scope_at body t sc) c.depth.0 c.row

pub seek_start : {body t : List ℕ} {n : ℕ} (sc : ScopeAt) {c : Cursor} → Outside body t n c → SeekAt body t n sc c c.depth.0 c.row
seek_start sc o = record { since = omega arith; at = stands o; rest = refl }

met_later : (body t : List ℕ) (n : ℕ) {k j : ℕ} → k ≤ j → (r : Result Found Past) → MetFrom body t n j r → MetFrom body t n k r
met_later body t n h (Ok c) m = record { start = m.start; stands = m.stands; since = omega (arith, m.since); past = m.past }
met_later body t n h (Err p) m = record { ended = m.ended; since = omega (arith, m.since) }

-- what is no start and stands outside of start tags ends the scope, or the search goes on after it
does : {m : Name} {l : List ℕ} {kind : ℕ} {u : Tok} → Kind m l kind u → (kind ≡ 1 → ⊥) → may_stand u false ≡ true
    → (s : Scope) (o : StartEl) (d : Depth) (k : ℕ)
    → (turn s o d k u ≡ on_close o (ends_at s (depth_after u d) u)) × (in_tag_after u false ≡ false)
does of_start a e s o d k = absurd (a refl)
does of_attr a e s o d k = false_true e
does of_gt a e s o d k = false_true e
does of_close a e s o d k = (refl, refl)
does of_slash a e s o d k = false_true e
does (of_matter w) a e s o d k = (refl, refl)
does (of_error w) a e s o d k = (refl, refl)

module _ {body t : List ℕ} {n : ℕ} {sc : ScopeAt} {c : Cursor} {d k : ℕ} (w : SeekAt body t n sc c d k) where
  abbrev s : Scope
  s = scope_at body t sc

  gone_out : (ended : Bool) {j e : ℕ} → c.row ≤ j → Stands body t n e j → GoneFrom body t n c.row (over_at ended j e)
  gone_out ended l o =
      let x = outside o in
      record { ended = record { at = tagged x; out = λ z. x }; since = l }

  pub seek_done : n ≤ k → SoughtIs body t n sc c (Err (over_at false n d))
  seek_done h =
      let i : k ≡ n = omega (arith, w.at.high) in
      let x = rw i at w in
      let z = toks_none body t n n (omega arith) in
      record { is = rw z (sym (next_end s blank (depth d) n) ∙ rw z at x.rest); met = gone_out false x.since x.at }

  pub seek_found : {r : Result Found Past} → TagIs body t n d k r → SoughtIs body t n sc c r
  seek_found {r} x = record { is = x.is s ∙ w.rest; met = met_later body t n w.since r x.met }

  module _ (h : k < n) where
    pub seek_tag : get_or t (k * 8 + 0) 0 ≡ 1 → StartsAt body t n d k
    seek_tag e = record { at = outside w.at; here = h; starts = e }

    module _ {kind : ℕ} (f : kind ≡ get_or t (k * 8 + 0) 0) (a : (kind ≡ 1 → ⊥)) {e : ℕ} (x : DepthIs kind d e) {r : Bool}
        (g : r ≡ ends_at s (depth e) (tok_at body t k)) where
      turned : take_turn (on_close blank r) (reader (depth e) (k + 1) (toks_from body t n (k + 1)))
          (λ (o : StartEl). next s o (depth e) (k + 1) (toks_from body t n (k + 1)))
          ≡ sought body t n s c.depth.0 c.row
      turned =
          let i = kind_of_lem (get_or t (k * 8 + 0) 0) (name_at body t k) (value_at body t k) in
          let y = does i (rw f at a) (tags_next body t n k w.at.tags h).0 s blank (depth d) k in
          rw (y.0, depth_here body t d k f (x.is a), ← g, ← add-one k) at
          (sym (next_token s blank (depth d) k (tok_at body t k) (toks_from body t n (suc k)))
          ∙ (ap (λ (l : List Tok). next s blank (depth d) k l) (sym (rw (add-one k) at (toks_next body t n k h))) ∙ w.rest))

      out_here : Stands body t n e (k + 1)
      out_here =
          let i = kind_of_lem (get_or t (k * 8 + 0) 0) (name_at body t k) (value_at body t k) in
          let y = does i (rw f at a) (tags_next body t n k w.at.tags h).0 s blank (depth d) k in
          record {
            high = omega arith;
            low = omega (arith, x.low, w.at.low);
            tags = rw y.1 at (tags_next body t n k w.at.tags h).1;
          }

      pub seek_on : r ≡ false → SeekAt body t n sc c e (k + 1)
      seek_on q = record { since = omega (arith, w.since); at = out_here; rest = rw q at turned }

      pub seek_ended : r ≡ true → SoughtIs body t n sc c (Err (over_at true (k + 1) e))
      seek_ended q = record { is = rw q at turned; met = gone_out true (omega (arith, w.since)) out_here }

-- ---- the root: the first of the whole document
pub first_is : {body t : List ℕ} {n : ℕ} {r : Result Found Past} → SoughtIs body t n ScopeAt.Document at_first r → FirstIs body t n r
unfolding root_of
first_is {n = n} x = let z : n - 0 ≡ n = omega arith in record { sought = x; root = rw z at (ap on_root x.is) }

-- ---- as elements of a view
module _ {v : View} where
  root_none : {p : Past} → FirstIs v.table.body.now v.table.rows.now v.count (Err p) → RootIs v None
  root_none x = record { is = x.root; view = tt }

  pub root_some : {f : Found} {e : Element} → FirstIs v.table.body.now v.table.rows.now v.count (Ok f) → FoundAt v f.start f.at e
      → RootIs v (Some e)
  root_some x m = record { is = rw (m.view, m.start, m.at) x.root; view = m.view }

  pub root_gone : (r : Result Found Past) → FirstIs v.table.body.now v.table.rows.now v.count r → result_ok r ≡ None → RootIs v None
  root_gone (Ok f) x q = absurd cc
  root_gone (Err p) x q = root_none x

-- ---- the children of an element
pub child_none : (e : Element) → e.start.closed ≡ true → NextIs e (Err (record { ended = true; at = e.at }))
child_none e q =
    record { is = rw q; met = record { ended = record { at = tagged e.outside; out = λ z. e.outside }; since = omega arith } }

module _ (e : Element) (i : e.start.closed ≡ false) where
  abbrev ChildIs : Result Found Past → Type 0
  ChildIs r = SoughtIs e.view.table.body.now e.view.table.rows.now e.view.count (ScopeAt.Element e.start.depth e.start.row) e.at r

  pub child_gone : {p : Past} → ChildIs (Err p) → NextIs e (Err p)
  child_gone x = record { is = rw i x.is; met = x.met }

  pub child_found : {f : Found} {r : Element} → ChildIs (Ok f) → FoundAt e.view f.start f.at r → NextIs e (Ok r)
  child_found x m =
      record {
        is = rw i (rw (m.view, m.start, m.at) x.is);
        met = record { view = m.view; since = rw m.start x.met.since; past = rw (m.start, m.at) x.met.past };
      }
