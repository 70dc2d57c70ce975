-- Laws of a plan for each member of a sheet, in sheet order.
use Prim.Native.Nat.{ℕ, ◌+◌, ◌<◌, ◌≤◌}
use mathlib.Core.Path.{◌≡◌}
use mathlib.Core.List.{◌∷◌}
use lib.ListN.{length, get_or, drop}
use Rattle.std.specs.Prelude.{Ok, Err}
use Rattle.refusal.specs.declared.Refusal.{Refusal}
use Rattle.sheet.specs.Sheet.{Member, Structure}
use Rattle.sheet.specs.Names.{Indexed, members_of}
use Rattle.readings.specs.Plan.{Plan, one_by_one}
use Rattle.codec.specs.Members.{nameless}
use Rattle.codec.proofs.Resolving.{members_next, members_end}
use Rattle.output.specs.declared.Output.{Output}
use Rattle.output.specs.Held.{Does}
use Rattle.output.proofs.Then.{Midway, each_goes, each_stops, each_ends}
use Rattle.structure.specs.Structure.{indexed_as}

-- the members from i on are still to come
pub record MembersAt (f : Indexed → Plan) (s : Structure) (b b₁ : Output) (i : ℕ) : Type 0 where
  pub mid : Midway (one_by_one f (members_of s)) (one_by_one f (drop i (members_of s))) b b₁

module _ {f : Indexed → Plan} {s : Structure} {b b₁ : Output} {i : ℕ} (a : MembersAt f s b b₁ i) where
  pub members_done : length s.members ≤ i → Does (one_by_one f (members_of s)) b b₁ (Ok tt)
  members_done h = each_ends f (rw (members_end s.members i h) at a.mid)

  module _ (h : i < length s.members) {m : Member} (e : m ≡ get_or s.members i nameless) where
    here : Midway (one_by_one f (members_of s)) (one_by_one f (indexed_as i m ∷ drop (i + 1) (members_of s))) b b₁
    here = rw e (rw (members_next s.members i h) at a.mid)

    pub members_goes : {b₂ : Output} → Does (f (indexed_as i m)) b₁ b₂ (Ok tt) → MembersAt f s b b₂ (i + 1)
    members_goes d = record { mid = each_goes f _ _ here d }

    pub members_stops : {b₂ : Output} {why : Refusal} → Does (f (indexed_as i m)) b₁ b₂ (Err why)
        → Does (one_by_one f (members_of s)) b b₂ (Err why)
    members_stops d = each_stops f _ _ here d
