-- Laws of the groups of a root: those of the children that are kept, one after another by rising member index.
use Prim.Native.Nat.{ℕ, suc, ◌+◌, ◌-◌, ◌≤◌, ◌<◌}
use mathlib.Core.Path.{◌≡◌, refl, sym, ◌∙◌, ap}
use mathlib.Core.Bool.{Bool, true, false}
use mathlib.Core.List.{List, [], ◌∷◌}
use native.Mathlib.Numerals.{add-one}
use native.Mathlib.Omega.{arith}
use lib.ListN.{length}
use Rattle.std.specs.Prelude.{Ok, Err}
use Rattle.lists.specs.Tests.{pick}
use Rattle.refusal.specs.declared.Refusal.{Refusal}
use Rattle.document.specs.Scope.{Child, children_of}
use Rattle.sheet.specs.Sheet.{Member, Structure}
use Rattle.sheet.specs.Names.{indexed, members_of}
use Rattle.readings.specs.Plan.{Plan, end, followed_by, one_by_one}
use Rattle.readings.specs.Structure.{group_plan}
use Rattle.decode.specs.View.{view_of}
use Rattle.decode.specs.declared.element.Element.{Element}
use Rattle.decode.specs.Element.{child_of}
use Rattle.output.specs.declared.Output.{Output}
use Rattle.output.specs.declared.kept.Kept.{Kept}
use Rattle.output.specs.Kept.{is_kept, flat}
use Rattle.output.specs.Plans.{put_group}
use Rattle.output.specs.Held.{Does}
use Rattle.output.proofs.Then.{Midway, midway_start, each_goes, each_stops, each_ends}
use Rattle.opening.specs.Opening.{body_of}
use Rattle.structure.specs.Structure.{indexed_as}
use Rattle.structure.specs.Children.{KeepsAll}
use Rattle.structure.specs.Groups.{flat_plan, kept_from}

-- ---- the members that have a group, from i on
module _ (kept : List Kept) {n i : ℕ} where
  from_more : i < n → n - i ≡ suc (n - (i + 1))
  from_more h = omega arith

  from_with : i < n → is_kept kept i ≡ true → kept_from kept i (n - i) ≡ i ∷ kept_from kept (i + 1) (n - (i + 1))
  unfolding kept_from
  from_with h e = rw (from_more h, add-one i, e)

  from_without : i < n → is_kept kept i ≡ false → kept_from kept i (n - i) ≡ kept_from kept (i + 1) (n - (i + 1))
  unfolding kept_from
  from_without h e = rw (from_more h, add-one i, e)

  from_end : n ≤ i → kept_from kept i (n - i) ≡ []
  unfolding kept_from
  from_end h = let z : n - i ≡ 0 = omega arith in rw z

-- ---- one after another
pub record GroupsAt (body : List ℕ) (kept : List Kept) (n : ℕ) (b b₁ : Output) (i : ℕ) : Type 0 where
  pub mid : Midway (one_by_one (flat_plan body kept) (kept_from kept 0 n))
      (one_by_one (flat_plan body kept) (kept_from kept i (n - i))) b b₁

pub groups_start : (body : List ℕ) (kept : List Kept) (n : ℕ) (b : Output) → GroupsAt body kept n b b 0
groups_start body kept n b =
    let z : n - 0 ≡ n = omega arith in
    record { mid = rw z (midway_start (one_by_one (flat_plan body kept) (kept_from kept 0 n)) b) }

module _ {body : List ℕ} {kept : List Kept} {n : ℕ} {b b₁ : Output} {i : ℕ} (a : GroupsAt body kept n b b₁ i) where
  pub groups_end : n ≤ i → Does (one_by_one (flat_plan body kept) (kept_from kept 0 n)) b b₁ (Ok tt)
  groups_end h = each_ends (flat_plan body kept) (rw (from_end kept h) at a.mid)

  module _ (h : i < n) where
    pub groups_without : is_kept kept i ≡ false → GroupsAt body kept n b b₁ (i + 1)
    groups_without e = record { mid = rw (from_without kept h e) at a.mid }

    module _ (e : is_kept kept i ≡ true) where
      here : Midway (one_by_one (flat_plan body kept) (kept_from kept 0 n))
          (one_by_one (flat_plan body kept) (i ∷ kept_from kept (i + 1) (n - (i + 1)))) b b₁
      here = rw (from_with kept h e) at a.mid

      pub groups_on : {b₂ : Output} → Does (put_group i (flat body kept i)) b₁ b₂ (Ok tt) → GroupsAt body kept n b b₂ (i + 1)
      unfolding flat_plan
      groups_on d = record { mid = each_goes (flat_plan body kept) _ _ here d }

      pub groups_stop : {b₂ : Output} {why : Refusal} → Does (put_group i (flat body kept i)) b₁ b₂ (Err why)
          → Does (one_by_one (flat_plan body kept) (kept_from kept 0 n)) b b₂ (Err why)
      unfolding flat_plan
      groups_stop d = each_stops (flat_plan body kept) _ _ here d

-- ---- so these are the definition's, of the children that were kept
module _ {root : Element} {s : Structure} {kept : List Kept} (k : KeepsAll root s kept) where
  abbrev kids : List Child
  kids = children_of (child_of root)

  plans_from : (l : List Member) (i : ℕ) → one_by_one (group_plan (body_of root) (view_of root.view) s kids) (indexed i l)
      ≡ one_by_one (flat_plan (body_of root) kept) (kept_from kept i (length l))
  unfolding one_by_one followed_by group_plan flat_plan put_group kept_from indexed
  plans_from [] i = refl
  plans_from (m ∷ l) i = rw (← k.has i, ← k.flat i) (go (is_kept kept i) (kept_from kept (suc i) (length l)) (plans_from l (suc i)))
    where
      go : (b : Bool) {p : Plan} (more : List ℕ) → p ≡ one_by_one (flat_plan (body_of root) kept) more
          → followed_by (pick b (flat_plan (body_of root) kept i) end) p
          ≡ one_by_one (flat_plan (body_of root) kept) (pick b (i ∷ more) more)
      go true more e = ap (followed_by (flat_plan (body_of root) kept i)) e
      go false more e = e

  pub plans_are : {n : ℕ} → n ≡ length s.members → one_by_one (group_plan (body_of root) (view_of root.view) s kids) (members_of s)
      ≡ one_by_one (flat_plan (body_of root) kept) (kept_from kept 0 n)
  plans_are e = rw e (plans_from s.members 0)

-- of one member
module _ {root : Element} {s : Structure} {kept : List Kept} (k : KeepsAll root s kept) (i : ℕ) (m : Member) where
  abbrev plan : Plan
  plan = group_plan (body_of root) (view_of root.view) s (children_of (child_of root)) (indexed_as i m)

  pub group_none : is_kept kept i ≡ false → plan ≡ end
  unfolding group_plan
  group_none q = rw (sym (k.has i) ∙ q)

  pub group_some : is_kept kept i ≡ true → plan ≡ put_group i (flat (body_of root) kept i)
  unfolding group_plan put_group
  group_some q = rw (sym (k.has i) ∙ q, k.flat i)
