-- Laws of a whole structure: its parts one after another.
use mathlib.Core.Path.{◌≡◌, refl, sym, ◌∙◌, ap}
use mathlib.Core.Bool.{Bool, true, false}
use mathlib.Core.List.{List, []}
use mathlib.Core.Option as math
use Rattle.std.specs.Prelude.{ℕ, Option, Some, None, Result, Ok, Err}
use Rattle.refusal.specs.declared.Refusal.{Refusal}
use Rattle.document.specs.declared.part.Piece.{Piece}
use Rattle.table.specs.Names.{name_matches}
use Rattle.document.specs.Scope.{Child, children_of}
use Rattle.sheet.specs.declared.ShapeDepth.{ShapeDepth}
use Rattle.sheet.specs.declared.Settings.{Settings}
use Rattle.sheet.specs.Settings.{tests_root_name}
use Rattle.sheet.specs.Sheet.{Structure}
use Rattle.sheet.specs.Names.{root_name, Indexed, members_of, resolve}
use Rattle.readings.specs.Output.{piece_entry}
use Rattle.readings.specs.Plan.{Plan, end, stop, perform, one, followed_by, one_by_one, end_test}
use Rattle.readings.specs.Structure.{attribute_plan, child_plan, group_plan, members_plan, root_plan, root_piece, unwrapped_plan}
use Rattle.readings.specs.Structure.{opened_plan}
use Rattle.decode.specs.View.{view_of}
use Rattle.decode.specs.declared.element.Element.{Element}
use Rattle.decode.specs.Element.{child_of}
use Rattle.codec.specs.Members.{found_in}
use Rattle.output.specs.declared.kept.Kept.{Kept}
use Rattle.output.specs.declared.Output.{Output}
use Rattle.output.specs.Plans.{put_piece}
use Rattle.output.specs.Held.{Does, Enters}
use Rattle.output.proofs.Writing.{same_buffers, enters_stop}
use Rattle.output.proofs.Then.{does_then, does_stop, tested_well, tested_ill}
use Rattle.opening.specs.Opening.{body_of, opened_of, asked_of}
use Rattle.structure.specs.Structure.{root_or_members}
use Rattle.structure.specs.Children.{ChildrenTaken}

-- ---- attributes, children, 9, groups
module _ (root : Element) (s : Structure) where
  abbrev kids : List Child
  kids = children_of (child_of root)

  abbrev attributes : Plan
  attributes = one_by_one (attribute_plan (child_of root).start.attributes) (members_of s)

  abbrev children : Plan
  children = one_by_one (child_plan (body_of root) (view_of root.view) s) kids

  abbrev groups : Plan
  groups = one_by_one (group_plan (body_of root) (view_of root.view) s kids) (members_of s)

  abbrev after : Plan
  after = followed_by (end_test root.view.ill_formed) groups

  abbrev all : Plan
  all = members_plan (body_of root) s (opened_of root)

  module _ {b b₁ : Output} where
    pub attributes_refused : {why : Refusal} → Does attributes b b₁ (Err why) → Does all b b₁ (Err why)
    unfolding members_plan
    attributes_refused d = does_stop attributes (followed_by children after) d

    module _ (d : Does attributes b b₁ (Ok tt)) {l : List Kept} {b₂ : Output} where
      pub children_refused : {why : Refusal} → ChildrenTaken root s l b₁ b₂ (Err why) → Does all b b₂ (Err why)
      unfolding members_plan
      children_refused k = does_then attributes (followed_by children after) d (does_stop children after k.does)

      module _ {n : ℕ} (k : ChildrenTaken root s l b₁ b₂ (Ok n)) where
        pub all_ill : root.view.ill_formed ≡ true → Does all b b₂ (Err Refusal.IllFormed)
        unfolding members_plan
        all_ill q =
            does_then attributes (followed_by children after) d
            (does_then children after k.does (does_stop (end_test root.view.ill_formed) groups (tested_ill b₂ q)))

        pub all_groups : {b₃ : Output} {r : Result (Unit {0}) Refusal} → root.view.ill_formed ≡ false → Does groups b₂ b₃ r
            → Does all b b₃ r
        unfolding members_plan
        all_groups q g =
            does_then attributes (followed_by children after) d
            (does_then children after k.does (does_then (end_test root.view.ill_formed) groups (tested_well b₂ q) g))

-- ---- the root alone
module _ (root : Element) (s : Structure) where
  abbrev alone : Plan
  alone = unwrapped_plan (body_of root) s (opened_of root)

  pub alone_ill : (b : Output) → root.view.ill_formed ≡ true → Does alone b b (Err Refusal.IllFormed)
  unfolding unwrapped_plan
  alone_ill b q = does_stop (end_test root.view.ill_formed) _ (tested_ill b q)

  pub alone_left : (b : Output) → root.view.ill_formed ≡ true → Enters alone b b (Err Refusal.IllFormed)
  unfolding unwrapped_plan followed_by
  alone_left b q = rw q (enters_stop b Refusal.IllFormed)

  module _ (o : Option ℕ) (q : root.view.ill_formed ≡ false)
      (y : resolve s (child_of root).start.name.local ≡ found_in s.members o) where
    as_root : {m : math.Option Indexed} → found_in s.members o ≡ m → alone ≡ root_plan (root_piece (body_of root) (opened_of root)) m
    unfolding unwrapped_plan followed_by
    as_root p = rw (q, y, p)

    pub alone_none : o ≡ None → alone ≡ end
    alone_none p = as_root (ap (found_in s.members) p)

    pub alone_piece : {i : ℕ} {p : Piece} → o ≡ Some i → p ≡ root_piece (body_of root) (opened_of root) → alone ≡ put_piece i p
    unfolding put_piece
    alone_piece {i} e p = as_root (ap (found_in s.members) e) ∙ ap (λ (x : Piece). one (piece_entry i x) []) (sym p)

-- ---- either
module _ (root : Element) (s : Structure) where
  abbrev either : Plan
  either = root_or_members (body_of root) s (opened_of root)

  pub either_alone : s.unwrapped ≡ true → either ≡ unwrapped_plan (body_of root) s (opened_of root)
  unfolding root_or_members
  either_alone u = rw u

  pub either_members : s.unwrapped ≡ false → either ≡ members_plan (body_of root) s (opened_of root)
  unfolding root_or_members
  either_members u = rw u

-- ---- after 5
module _ (root : Element) (s : Structure) (settings : Settings) (depth : ShapeDepth) where
  abbrev opened : Plan
  opened = opened_plan (body_of root) settings depth (asked_of s root)

  abbrev matches : Bool
  matches = name_matches (child_of root).start.name (root_name s)

  pub other_name : tests_root_name settings depth ≡ true → matches ≡ false → opened ≡ stop Refusal.RootName
  unfolding opened_plan
  other_name t m = rw (t, m)

  pub right_name : tests_root_name settings depth ≡ true → matches ≡ true → opened ≡ root_or_members (body_of root) s (opened_of root)
  unfolding opened_plan root_or_members
  right_name t m = rw (t, m)

  pub no_name : tests_root_name settings depth ≡ false → opened ≡ root_or_members (body_of root) s (opened_of root)
  unfolding opened_plan root_or_members
  no_name t = rw t

pub does_refuse : (b : Output) (why : Refusal) → Does (stop why) b b (Err why)
unfolding perform
does_refuse b why = record { is = λ h. record { is = refl; holds = h }; same = same_buffers b }
