-- Laws of the children of an element, as `next_tag` meets them: none, or one and those from the place after it on.
use Prim.Native.Nat.{ℕ}
use mathlib.Core.Path.{◌≡◌, refl, sym, ◌∙◌, ap}
use mathlib.Core.Bool.{Bool, true, false}
use mathlib.Core.List.{List, [], ◌∷◌}
use native.Mathlib.Omega.{arith}
use Rattle.std.specs.Prelude.{Ok, Err}
use Rattle.lists.specs.Tests.{pick}
use Rattle.document.specs.Reader.{Reader, StartEl, Past, Next, found, gone}
use Rattle.document.specs.Scope.{Child, scope_of, shut, done, on_next, next_from, children, children_of, level_from, dropping}
use Rattle.document.proofs.Laws.Fuel.{level_step, dropping_shortens}
use Rattle.decode.specs.declared.place.Past.{Past as PastAt}
use Rattle.decode.specs.declared.view.View.{View}
use Rattle.decode.specs.declared.element.Element.{Element}
use Rattle.decode.specs.Element.{child_at, child_of, reader_of, NextIs, DroppedIs}

-- those of an element that ended in `/>` or not, from a reader on
abbrev kids : Bool → StartEl → Reader → List Child
kids closed el r = children (pick closed (done (shut r)) (level_from dropping (scope_of el) r))

abbrev first : Bool → StartEl → Reader → Next
first closed el r = pick closed (gone (shut r)) (next_from (scope_of el) r)

turn : (el : StartEl) (r : Reader) {x : Next} → next_from (scope_of el) r ≡ x
    → level_from dropping (scope_of el) r ≡ on_next dropping (level_from dropping (scope_of el)) x
turn el r e = level_step dropping dropping_shortens (scope_of el) r ∙ ap (on_next dropping (level_from dropping (scope_of el))) e

kids_none : (b : Bool) (el : StartEl) (r : Reader) {p : Past} → first b el r ≡ gone p → kids b el r ≡ []
unfolding children
kids_none true el r e = refl
kids_none false el r e = ap children (turn el r e)

kids_one : (b : Bool) (el : StartEl) (r : Reader) {c : Child} → first b el r ≡ found c.start c.inner
    → kids b el r ≡ c ∷ kids b el (dropping c)
unfolding children
kids_one true el r e = let z : ◌≡◌ {A = ℕ} 0 1 = cc in absurd (omega arith)
kids_one false el r e = ap children (turn el r e)

-- ---- as the code reads them
module _ {scope : Element} where
  pub no_more : {p : PastAt} → NextIs scope (Err p) → children_of (child_of scope) ≡ []
  unfolding children_of
  no_more n = let c = child_of scope in kids_none c.start.closed c.start c.inner (sym n.is)

  pub one_more : {child : Element} {past : PastAt} → NextIs scope (Ok child) → DroppedIs child past
      → children_of (child_of scope) ≡ child_of child ∷ children_of (child_at scope.view scope.start past.at)
  unfolding children_of
  one_more {child} {past} n d =
      let c = child_of scope in
      let y : reader_of scope.view past.at ≡ dropping (child_of child) =
      ap (λ (v : View). reader_of v past.at) (sym n.met.view) ∙ ap (λ (q : Past). q.reader) d.is in
      kids_one c.start.closed c.start c.inner {c = child_of child} (sym n.is)
      ∙ ap (λ (r : Reader). child_of child ∷ kids c.start.closed c.start r) (sym y)
