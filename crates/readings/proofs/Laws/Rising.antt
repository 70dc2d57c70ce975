-- "Flattened groups are to come by rising member index" (change request 2), on every input: in what a structure reading writes, finished or
-- refused, the groups stand behind all other entries, and come by strictly rising member index. And which members have one: those that a
-- child is kept for.
use Prim.Native.Nat.{ℕ, suc, ◌≤◌}
use mathlib.Core.Path.{◌≡◌, refl, sym, ◌∙◌, subst⁻¹}
use mathlib.Core.Logic.{◌↔◌}
use mathlib.Core.Bool.{Bool, true, false}
use mathlib.Core.List.{List, [], ◌∷◌, ◌++◌, append_assoc, append-nil, Memᴰ}
use mathlib.Core.Option.{Option, none, some}
use native.Mathlib.Omega.{arith}
use borrow.Author.Tests.{eqb-true, eq-eqb}
use lib.ListN.{length}
use Rattle.lists.specs.Tests.{pick}
use Rattle.lists.proofs.Tests.{pick_all, false_true}
use Rattle.refusal.specs.declared.Refusal.{Refusal}
use Rattle.table.specs.Names.{name_matches}
use Rattle.document.specs.declared.part.Piece.{Piece}
use Rattle.document.specs.Scope.{Child, children_of}
use Rattle.sheet.specs.declared.ShapeDepth.{ShapeDepth}
use Rattle.sheet.specs.declared.Settings.{Settings}
use Rattle.sheet.specs.Settings.{tests_root_name}
use Rattle.sheet.specs.Sheet.{Member, Structure}
use Rattle.sheet.specs.Names.{root_name, Indexed, indexed, members_of, resolve}
use Rattle.readings.specs.Call.{Upload, Call}
use Rattle.readings.specs.Output.{Entry, group_kind, Room, Output, nothing, Reading, output, fits, appended}
use Rattle.readings.specs.Plan.{Plan, put, end, stop, perform, followed_by, one_by_one, end_test}
use Rattle.readings.specs.Opening.{Opened, Asked}
use Rattle.readings.specs.Structure.{attribute_plan, child_plan, flat_member, is_index, in_group, has_group, group_plan, members_plan}
use Rattle.readings.specs.Structure.{root_piece, root_plan, unwrapped_plan, with_root_name, opened_plan, structure_reading}
use Rattle.readings.specs.Shape.{structure}
use Rattle.readings.proofs.Plans.Made.{Made, made_put, made_end, made_stop, made_last}
use Rattle.readings.proofs.Plans.Sources.{Source, of_text_lem, of_failed, of_piece, of_group, of_key_text, of_key_piece, Anything}
use Rattle.readings.proofs.Plans.Readings.{attributes_made, children_made, output_carried}
use Rattle.readings.proofs.Conditions.Readings.{any_source}

-- groups alone, by strictly rising member index, from i on
pub data Rising : ℕ → List Entry → Type 0 where
  no_more : {i : ℕ} → Rising i []
  group : {i : ℕ} {e : Entry} {l : List Entry} → e.kind ≡ group_kind → i ≤ e.member → Rising (suc e.member) l → Rising i (e ∷ l)

-- entries of other kinds, and behind them the groups
pub data GroupsLast : List Entry → Type 0 where
  groups : {l : List Entry} → Rising 0 l → GroupsLast l
  other : {e : Entry} {l : List Entry} → (e.kind ≡ group_kind → ⊥) → GroupsLast l → GroupsLast (e ∷ l)

-- from a lower index on as well
from_lower : {i : ℕ} {l : List Entry} → Rising (suc i) l → Rising i l
from_lower no_more = no_more
from_lower {i} (group {e = e} k h r) = group {i = i} {e = e} k (omega (arith, h)) r

-- ---- what is written behind what was written before: entries of which R holds
record Adds (R : List Entry → Type 0) (before after : List Entry) : Type 0 where
  added : List Entry
  is : after ≡ before ++ added
  so : R added

-- a plan writes such entries behind any output, in any room
record Puts (R : List Entry → Type 0) (p : Plan) : Type 0 where
  does : (room : Room) (out : Output) → Adds R out.entries (output (perform room p out)).entries

-- nothing more
idle : {R : List Entry → Type 0} (before : List Entry) → R [] → Adds R before before
idle before r = record { added = []; is = sym (append-nil before); so = r }

puts_end : {R : List Entry → Type 0} → R [] → Puts R end
unfolding perform
puts_end r = record { does = λ room out. idle out.entries r }

puts_stop : {R : List Entry → Type 0} {refusal : Refusal} → R [] → Puts R (stop refusal)
unfolding perform
puts_stop r = record { does = λ room out. idle out.entries r }

-- an entry, and what comes then; or nothing, where there is no room for it
puts_more : {Q R : List Entry → Type 0} {entry : ℕ → Entry} {bytes : List ℕ} {p : Plan} → R []
    → ((at : ℕ) (l : List Entry) → Q l → R (entry at ∷ l)) → Puts Q p → Puts R (put entry bytes p)
unfolding perform
puts_more {R = R} {entry = entry} {bytes = bytes} r f t = record {
  does = λ room out.
      let a = t.does room (appended entry bytes out) in
      pick_all (λ (x : Reading). Adds R out.entries (output x).entries) (fits room bytes out) _ _
      (record {
        added = entry (length out.texts) ∷ a.added;
        is = a.is ∙ append_assoc out.entries (entry (length out.texts) ∷ []) a.added;
        so = f (length out.texts) a.added a.so;
      })
      (idle out.entries r);
}

-- what follows from it
puts_so : {Q R : List Entry → Type 0} {p : Plan} → ((l : List Entry) → Q l → R l) → Puts Q p → Puts R p
puts_so f t = record {
  does = λ room out. let a = t.does room out in record { added = a.added; is = a.is; so = f a.added a.so };
}

-- ---- plans that put no group
abbrev NoGroup : (ℕ → Entry) → List ℕ → Type 0
NoGroup = Source Anything Anything Anything (λ (i : ℕ) (b : List ℕ). ⊥) Anything

another_kind : {entry : ℕ → Entry} {bytes : List ℕ} → NoGroup entry bytes → (at : ℕ) → (entry at).kind ≡ group_kind → ⊥
another_kind (of_text_lem m t) at e = omega (arith, e)
another_kind (of_failed m r) at e = omega (arith, e)
another_kind (of_piece m p) at e = omega (arith, e)
another_kind (of_group m g) at e = g
another_kind (of_key_text k t) at e = omega (arith, e)
another_kind (of_key_piece k p) at e = omega (arith, e)

-- they may stand before groups
before_groups : {n : ℕ} {p q : Plan} → Made NoGroup Anything n p → Puts GroupsLast q → Puts GroupsLast (followed_by p q)
unfolding followed_by
before_groups (made_put f t) u = puts_more (groups no_more) (λ at l r. other (another_kind f at) r) (before_groups t u)
before_groups made_end u = u
before_groups (made_stop s) u = puts_stop (groups no_more)

root : (piece : Piece) (m : Option Indexed) → Puts GroupsLast (root_plan piece m)
root piece none = puts_end (groups no_more)
root piece (some m) = puts_more (groups no_more) (λ at l r. other (λ e. omega (arith, e)) r) (puts_end (groups no_more))

module _ (body : List ℕ) (s : Structure) (o : Opened) where
  attributes : Made NoGroup Anything (length (members_of s)) (one_by_one (attribute_plan o.root.start.attributes) (members_of s))
  attributes = attributes_made s o (λ m i. tt {0}) (λ name v e. tt {0})

  children : Made NoGroup Anything (length (children_of o.root)) (one_by_one (child_plan body o.seen s) (children_of o.root))
  children = children_made s (any_source body o) (λ m i. tt {0})

  -- the test that the body is well-formed puts nothing
  tested : Made NoGroup Anything 0 (end_test o.seen.ill_formed)
  tested = made_last o.seen.ill_formed (λ e. tt {0})

  -- the groups of the members, indexed from i on
  abbrev groups_from : ℕ → List Member → Plan
  groups_from i l = one_by_one (group_plan body o.seen s (children_of o.root)) (indexed i l)

  rising : (i : ℕ) (l : List Member) → Puts (Rising i) (groups_from i l)
  unfolding one_by_one followed_by indexed group_plan
  rising i [] = puts_end no_more
  rising i (m ∷ l) =
      pick_all (λ (p : Plan). Puts (Rising i) (followed_by p (groups_from (suc i) l))) (has_group s i (children_of o.root)) _ _
      (puts_more no_more (λ at l r. group refl (omega arith) r) (rising (suc i) l))
      (puts_so (λ l r. from_lower r) (rising (suc i) l))

  -- the members: attributes, children, the test, and the groups last
  wrapped : Puts GroupsLast (members_plan body s o)
  unfolding members_plan
  wrapped = before_groups attributes (before_groups children (before_groups tested (puts_so (λ l r. groups r) (rising 0 s.members))))

  -- or the root alone
  unwrapped : Puts GroupsLast (unwrapped_plan body s o)
  unfolding unwrapped_plan
  unwrapped = before_groups tested (root (root_piece body o) (resolve s o.root.start.name.local))

named : (tests matches : Bool) {p : Plan} → Puts GroupsLast p → Puts GroupsLast (with_root_name tests matches p)
named false matches t = t
named true true t = t
named true false t = puts_stop (groups no_more)

opened : (body : List ℕ) (settings : Settings) (depth : ShapeDepth) (a : Asked Structure)
    → Puts GroupsLast (opened_plan body settings depth a)
unfolding opened_plan
opened body settings depth a =
    named (tests_root_name settings depth) (name_matches a.opened.root.start.name (root_name a.sheet))
    (pick_all (Puts GroupsLast) a.sheet.unwrapped _ _ (unwrapped body a.sheet a.opened) (wrapped body a.sheet a.opened))

-- THE LAW
pub groups_rise : (u : Upload) (call : Call) (room : Room) → GroupsLast (output (structure_reading u call room)).entries
groups_rise u call room =
    output_carried u call room structure (λ (out : Output). GroupsLast out.entries) (groups no_more) (λ a w.
    let x = (opened u.body call.settings call.depth a).does room nothing in
    subst⁻¹ GroupsLast x.is x.so)

-- ---- which members have a group
-- a child is kept for member i: its local name resolves to that member, and it is a flattened aggregate
pub record KeptFor (s : Structure) (i : ℕ) (c : Child) : Type 0 where
  pub member : Indexed
  pub resolved : resolve s c.start.name.local ≡ some member
  pub index : member.index ≡ i
  pub aggregate : member.member.aggregate ≡ true
  pub flattened : member.member.flattened ≡ true

pub in_group_is : (s : Structure) (i : ℕ) (c : Child) → (in_group s i c ≡ true) ↔ KeptFor s i c
unfolding in_group
in_group_is s i c = (go (resolve s c.start.name.local) refl, back)
  where
    kept : (m : Indexed) → resolve s c.start.name.local ≡ some m → (a f : Bool) → m.member.aggregate ≡ a → m.member.flattened ≡ f
        → is_index (pick a (pick f (some m.index) none) none) i ≡ true → KeptFor s i c
    kept m r true true a f e = record { member = m; resolved = r; index = eqb-true m.index i e; aggregate = a; flattened = f }
    kept m r true false a f e = false_true e
    kept m r false f a q e = false_true e

    go : (o : Option Indexed) → resolve s c.start.name.local ≡ o → is_index (flat_member o) i ≡ true → KeptFor s i c
    go none r e = false_true e
    go (some m) r e = kept m r m.member.aggregate m.member.flattened refl refl e

    back : KeptFor s i c → is_index (flat_member (resolve s c.start.name.local)) i ≡ true
    back k = rw (k.resolved, k.aggregate, k.flattened) (eq-eqb k.member.index i k.index)

-- a member has a group exactly where one of the children is in it
module _ (s : Structure) (i : ℕ) where
  a_child : (l : List Child) → has_group s i l ≡ true → (c : Child) × (Memᴰ c l × (in_group s i c ≡ true))
  unfolding has_group
  a_child [] e = false_true e
  a_child (c ∷ l) e = go (in_group s i c) refl e (a_child l)
    where
      go : (t : Bool) → in_group s i c ≡ t → pick t true (has_group s i l) ≡ true
          → (has_group s i l ≡ true → (c : Child) × (Memᴰ c l × (in_group s i c ≡ true)))
          → (x : Child) × (Memᴰ x (c ∷ l) × (in_group s i x ≡ true))
      go true q e ih = (c, (Memᴰ.head refl, q))
      go false q e ih = let x = ih e in (x.0, (Memᴰ.tail x.1.0, x.1.1))

  has_child : (c : Child) (l : List Child) → Memᴰ c l → in_group s i c ≡ true → has_group s i l ≡ true
  unfolding has_group
  has_child c l (Memᴰ.head q) e = rw (← q, e)
  has_child c l (Memᴰ.tail {x = x} m) e = go (in_group s i x) (has_child c _ m e)
    where
      go : (t : Bool) {u : Bool} → u ≡ true → pick t true u ≡ true
      go true e = refl
      go false e = e

  pub has_group_is : (l : List Child) → (has_group s i l ≡ true) ↔ ((c : Child) × (Memᴰ c l × (in_group s i c ≡ true)))
  has_group_is l = (a_child l, λ x. has_child x.0 l x.1.0 x.1.1)
