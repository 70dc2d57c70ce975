-- 01, "Find": the part that is found is a filled part of the body; "An empty part means 1 or 13". On every input.
use Prim.Native.Nat.{ℕ, ◌+◌, ◌≤◌, ◌<◌}
use mathlib.Core.Path.{◌≡◌, refl, sym, subst}
use mathlib.Core.Bool.{false}
use mathlib.Core.List.{List, [], ◌∷◌, Memᴰ}
use mathlib.Core.Option.{Option, none, some}
use native.Mathlib.Omega.{arith}
use lib.ListN.{length}
use Rattle.lists.proofs.Tests.{pick_all}
use Rattle.refusal.specs.declared.Refusal.{Refusal}
use Rattle.refusal.specs.Answer.{Answer, gives, refuses, onward}
use Rattle.table.specs.Row.{Row, rows_of, toks_of}
use Rattle.table.specs.Rules.{TableRules}
use Rattle.table.specs.Test.{dec_table}
use Rattle.document.specs.View.{View, view}
use Rattle.document.specs.declared.part.Piece.{Piece}
use Rattle.document.specs.Scope.{Child, root_of, children_of, piece_of}
use Rattle.document.proofs.Laws.Tags.{rows_tags}
use Rattle.document.proofs.Laws.Placed.{Placed, children_placed, root_placed}
use Rattle.document.proofs.Laws.Inside.{ViewIn, view_in, piece_inside}
use Rattle.readings.specs.Call.{Upload}
use Rattle.readings.specs.Opening.{with_table, present}
use Rattle.readings.specs.Find.{has_local, first_child, whole_body, find_in, find, part_of}
use Rattle.readings.proofs.Conditions.Answers.{given_refused, gives_same}
use Rattle.readings.proofs.Conditions.Find.{FindRefused, find_refusal}

-- a filled part of the body
pub record PartIn (body : List ℕ) (p : Piece) : Type 0 where
  pub filled : 0 < p.len
  pub within : p.start + p.len ≤ length body

-- where there is one
data Found (body : List ℕ) : Answer Piece → Type 0 where
  found : {p : Piece} → PartIn body p → Found body (gives p)
  not_found : {r : Refusal} → Found body (refuses r)

-- a child that is found is one of those searched
data Among {A : Type 0} (P : A → Type 0) : Option A → Type 0 where
  one : {x : A} → P x → Among P (some x)
  no_one : Among P none

first_among : {P : Child → Type 0} (name : List ℕ) (l : List Child) → ((c : Child) → Memᴰ c l → P c) → Among P (first_child name l)
unfolding first_child
first_among name [] f = no_one
first_among {P} name (c ∷ l) f =
    pick_all (Among P) (has_local name c) (some c) (first_child name l) (one (f c (Memᴰ.head refl)))
    (first_among name l (λ x i. f x (Memᴰ.tail i)))

module _ {body : List ℕ} {rows : List Row} {final : ℕ} {v : View} (w : ViewIn body rows final v) (name : List ℕ) where
  child_found : {o : Option Child} → Among (Placed (toks_of body v.rows)) o
      → Found body (onward (present Refusal.NoSuchElement o) (λ (c : Child). gives (piece_of body v c)))
  child_found (one {x = c} h) = let p = piece_inside w c h in found (record { filled = p.filled; within = p.within })
  child_found no_one = not_found

  -- the whole body is filled: the root's piece is in it
  in_found : (root : Child) → Placed (toks_of body v.rows) root → Found body (find_in body v name root)
  unfolding find_in
  in_found root h =
      let p = piece_inside w root h in
      pick_all (Found body) (has_local name root) (gives (whole_body body)) _
      (found (record { filled = omega (arith, p.filled, p.within); within = omega arith }))
      (child_found (first_among name (children_of root) (children_placed (toks_of body v.rows) root h)))

  root_found : (o : Option Child) → root_of (toks_of body v.rows) ≡ o
      → Found body (onward (present Refusal.NoSuchElement o) (find_in body v name))
  root_found none e = not_found
  root_found (some c) e = in_found c (root_placed (toks_of body v.rows) (rows_tags w.each) c e)

module _ (u : Upload) (name : List ℕ) where
  all_found : Found u.body (find u name)
  unfolding find
  all_found = go (dec_table u.body u.rows u.end)
    where
      go : (d : Dec (TableRules u.body u.rows u.end))
          → Found u.body (with_table d
          (onward (present Refusal.NoSuchElement (root_of (toks_of u.body (view false u.body (rows_of u.rows) u.end).rows)))
          (find_in u.body (view false u.body (rows_of u.rows) u.end) name)))
      go (yes t) = root_found (view_in t false) name
          (root_of (toks_of u.body (view false u.body (rows_of u.rows) u.end).rows)) refl
      go (no broken) = not_found

  -- THE LAW: what is found is a filled part of the body
  pub find_part : (p : Piece) → find u name ≡ gives p → PartIn u.body p
  find_part p = go all_found
    where
      go : {a : Answer Piece} → Found u.body a → a ≡ gives p → PartIn u.body p
      go (found h) e = subst (PartIn u.body) (gives_same e) h
      go not_found e = given_refused (sym e)

  -- "It answers a part of the body": always
  pub part_within : (part_of (find u name)).start + (part_of (find u name)).len ≤ length u.body
  part_within = go all_found
    where
      go : {a : Answer Piece} → Found u.body a → (part_of a).start + (part_of a).len ≤ length u.body
      go (found h) = h.within
      go not_found = omega arith

  -- "An empty part means 1 or 13"
  pub empty_part : (part_of (find u name)).len ≡ 0 → (r : Refusal) × FindRefused u name r
  empty_part = go (find u name) refl all_found
    where
      go : (a : Answer Piece) → find u name ≡ a → Found u.body a → (part_of a).len ≡ 0 → (r : Refusal) × FindRefused u name r
      go (gives p) e (found h) z = absurd (omega (arith, h.filled, z))
      go (refuses r) e not_found z = (r, (find_refusal u name r).0 e)
