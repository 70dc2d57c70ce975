-- Laws of the children of a root one after another, whatever is made of a child.
use Prim.Native.Nat.{ℕ, ◌-◌, ◌<◌}
use mathlib.Core.Path.{◌≡◌, refl, sym, ◌∙◌, ap}
use mathlib.Core.Bool.{Bool, true, false}
use mathlib.Core.List.{List}
use native.Mathlib.Omega.{arith}
use Rattle.std.specs.Prelude.{Result, Ok, Err}
use Rattle.lists.specs.Tests.{pick}
use Rattle.refusal.specs.declared.Refusal.{Refusal}
use Rattle.document.specs.View.{View as Seen}
use Rattle.document.specs.Reader.{Reader, StartEl, Next, gone}
use Rattle.document.specs.Scope.{Child, Level, scope_of, shut, done, meets, on_next, next_from, children, level_from, level_in}
use Rattle.document.proofs.Laws.Fuel.{Shortens, level_step}
use Rattle.readings.specs.Plan.{Plan, end, followed_by, one_by_one}
use Rattle.decode.specs.declared.place.Past.{Past as PastAt}
use Rattle.decode.specs.declared.place.Cursor.{Cursor}
use Rattle.decode.specs.declared.place.Start.{Start}
use Rattle.decode.specs.declared.view.View.{View}
use Rattle.decode.specs.declared.element.Element.{Element}
use Rattle.decode.specs.Place.{Outside}
use Rattle.decode.specs.View.{view_of}
use Rattle.decode.specs.Reader.{start_at}
use Rattle.decode.specs.Element.{child_of, reader_of, past_of, FoundAt, NextIs}
use Rattle.decode.proofs.Known.{outside_later}
use Rattle.output.specs.declared.Output.{Output}
use Rattle.output.specs.Held.{Does}
use Rattle.output.proofs.Then.{does_as, Midway, midway_start, midway_ends, midway_goes, midway_stops}
use Rattle.opening.specs.Opening.{body_of}
use Rattle.opening.specs.Wanted.{last_of}
use Rattle.opening.proofs.Last.{last_does}
use Rattle.list.specs.Children.{StandsAt, ChildRead, each_plan, all_plan}

-- ---- the children of an element that ended in `/>` or not, from a reader on: none, or one and those from the place after it on
module _ (after : Child → Reader) (short : Shortens after) (el : StartEl) where
  abbrev level_at : Bool → Reader → Level
  level_at closed r = pick closed (done (shut r)) (level_from after (scope_of el) r)

  abbrev first : Bool → Reader → Next
  first closed r = pick closed (gone (shut r)) (next_from (scope_of el) r)

  turn : (b : Bool) (r : Reader) {x : Next} → first b r ≡ x → level_at b r ≡ on_next after (level_at b) x
  turn true r e = ap (on_next after (level_at true)) e
  turn false r e = level_step after short (scope_of el) r ∙ ap (on_next after (level_from after (scope_of el))) e

-- ---- where the reader stands after a child, start tags are in order
pub outside_stands : {meant : Reader} {e : Element} {c : Cursor} → StandsAt meant e c
    → Outside e.view.table.body.now e.view.table.rows.now e.view.count c
outside_stands {e = e} s = outside_later e.view.sees e.outside s.later s.stands

-- ---- as the code meets them: those of `scope` are still to come
abbrev pub child_at : View → Start → Cursor → Child
child_at v s c = record { start = start_at v.table.body.now v.table.rows.now s; inner = reader_of v c }

module _ (after : Child → Reader) (short : Shortens after) {scope : Element} where
  pub level_none : {p : PastAt} → NextIs scope (Err p) → level_in after (child_of scope) ≡ done (past_of scope.view p)
  level_none n = let c = child_of scope in turn after short c.start c.start.closed c.inner (sym n.is)

  pub level_one : {child : Element} {at : Cursor} → NextIs scope (Ok child) → StandsAt (after (child_of child)) child at
      → level_in after (child_of scope) ≡ meets (child_of child) (level_in after (child_at scope.view scope.start at))
  level_one {child} {at} n s =
      let c = child_of scope in
      let y : reader_of scope.view at ≡ after (child_of child) = ap (λ (v : View). reader_of v at) (sym n.met.view) ∙ s.is in
      turn after short c.start c.start.closed c.inner (sym n.is)
      ∙ ap (λ (r : Reader). meets (child_of child) (level_at after short c.start c.start.closed r)) (sym y)

-- ---- the loop over the children of a root
module _ (f : Child → Plan) (after : Child → Reader) (short : Shortens after) {scope : Element} where
  no_more : {p : PastAt} → NextIs scope (Err p) → each_plan f after (child_of scope) ≡ end
  unfolding each_plan one_by_one children
  no_more n = ap (λ (l : Level). one_by_one f (children l)) (level_none after short n)

  one_more : {child : Element} {at : Cursor} → NextIs scope (Ok child) → StandsAt (after (child_of child)) child at
      → each_plan f after (child_of scope)
      ≡ followed_by (f (child_of child)) (each_plan f after (child_at scope.view scope.start at))
  unfolding each_plan one_by_one children
  one_more n s = ap (λ (l : Level). one_by_one f (children l)) (level_one after short n s)

  -- whatever comes then
  first_of_all : {child : Element} → NextIs scope (Ok child)
      → each_plan f after (child_of scope)
      ≡ followed_by (f (child_of child))
      (one_by_one f (children (level_at after short (child_of scope).start (child_of scope).start.closed (after (child_of child)))))
  unfolding each_plan one_by_one children
  first_of_all {child} n =
      let c = child_of scope in
      ap (λ (l : Level). one_by_one f (children l)) (turn after short c.start c.start.closed c.inner (sym n.is))

module _ (plan : List ℕ → Seen → Child → Plan) (after : Child → Reader) (root : Element) where
  -- what is planned with a child
  abbrev step : Child → Plan
  step = plan (body_of root) (view_of root.view)

  pub record ChildrenAt (scope : Element) (b b₁ : Output) : Type 0 where
    pub view : scope.view ≡ root.view
    pub start : scope.start ≡ root.start
    pub midway : Midway (each_plan step after (child_of root)) (each_plan step after (child_of scope)) b b₁

  pub children_start : (b : Output) → ChildrenAt root b b
  children_start b = record { view = refl; start = refl; midway = midway_start (each_plan step after (child_of root)) b }

  module _ (short : Shortens after) {scope : Element} {b b₁ : Output} (a : ChildrenAt scope b b₁) where
    pub children_done : {p : PastAt} → NextIs scope (Err p) → Does (each_plan step after (child_of root)) b b₁ (Ok tt)
    children_done n = midway_ends a.midway (no_more step after short n)

    module _ {child : Element} (n : NextIs scope (Ok child)) where
      in_root : child.view ≡ root.view
      in_root = n.met.view ∙ a.view

      same_step : step (child_of child) ≡ plan (body_of child) (view_of child.view) (child_of child)
      same_step = sym (ap (λ (v : View). plan v.table.body.now (view_of v) (child_of child)) in_root)

      module _ {b₂ : Output} {c : Cursor} (x : ChildRead plan after child b₁ b₂ (Ok c)) where
        pub children_less : root.view.count - c.row < root.view.count - scope.at.row
        children_less =
            let m = n.met in
            let s = child.start_in in
            let r = x.reached in
            omega (arith, m.since, s.low, s.high, m.past, r.later, ap (λ (v : View). v.count) in_root)

        pub children_stands : Outside root.view.table.body.now root.view.table.rows.now root.view.count c
        children_stands = rw in_root at (outside_stands {meant = after (child_of child)} {e = child} x.reached)

        pub children_on : {next : Element} → FoundAt root.view root.start c next → ChildrenAt next b b₂
        children_on {next} m =
            let here : child_at scope.view scope.start c ≡ child_of next = rw (m.view, m.start, m.at, a.view, a.start) in
            let begins =
            one_more step after short n x.reached ∙ ap (followed_by (step (child_of child))) (ap (each_plan step after) here) in
            record {
              view = m.view;
              start = m.start;
              midway = midway_goes a.midway (each_plan step after (child_of next)) begins (does_as same_step x.does);
            }

      pub children_stop : {b₂ : Output} {r : Refusal} → ChildRead plan after child b₁ b₂ (Err r)
          → Does (each_plan step after (child_of root)) b b₂ (Err r)
      children_stop x = midway_stops a.midway _ (first_of_all step after short n) (does_as same_step x.does)

-- ---- "9 last"
pub all_does : (plan : List ℕ → Seen → Child → Plan) (after : Child → Reader) (root : Element) {b b₁ : Output}
    {got : Result (Unit {0}) Refusal} → Does (each_plan (step plan after root) after (child_of root)) b b₁ got
    → Does (all_plan plan after root) b b₁ (last_of root.view.ill_formed got)
unfolding all_plan
all_does plan after root d = last_does (each_plan (step plan after root) after (child_of root)) root.view.ill_formed d
