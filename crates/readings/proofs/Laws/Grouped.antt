-- How many bytes the plan of a structure has, whether the rows obey the rules of a table or not. Pieces may overlap there; but each child
-- is kept for one member at most, so the groups of all members together have no more bytes than the pieces of the children, and their tags.
use Prim.Native.Nat.{ℕ, zero, suc, ◌+◌, ◌*◌, ◌^◌, ◌≤◌, ◌<◌}
use mathlib.Core.Path.{◌≡◌, refl}
use mathlib.Core.Bool.{Bool, true, false}
use mathlib.Core.List.{List, [], ◌∷◌, ◌++◌}
use mathlib.Core.Option.{Option, none, some}
use native.Mathlib.Omega.{arith}
use borrow.Author.Tests.{leb-true, leb-false, eqb-true}
use lib.Dec.{eqb, leb}
use lib.ListN.{length, length-append}
use Rattle.lists.specs.Tests.{pick}
use Rattle.lists.specs.Every.{Every}
use Rattle.lists.proofs.Tests.{pick_all}
use Rattle.table.specs.Row.{cut}
use Rattle.table.specs.Rules.{most_bytes}
use Rattle.table.specs.Names.{name_matches}
use Rattle.document.specs.View.{View}
use Rattle.document.specs.Scope.{Child, children_of, piece_of}
use Rattle.document.specs.declared.part.Piece.{Piece}
use Rattle.document.proofs.Laws.Short.{cut_short, ShortAttribute}
use Rattle.sheet.specs.declared.ShapeDepth.{ShapeDepth}
use Rattle.sheet.specs.declared.Settings.{Settings}
use Rattle.sheet.specs.Settings.{tests_root_name}
use Rattle.sheet.specs.Sheet.{most_members, Member, Structure}
use Rattle.sheet.specs.Names.{root_name, Indexed, indexed, members_of, resolve}
use Rattle.readings.specs.Plan.{Plan, followed_by, one_by_one, end_test}
use Rattle.readings.specs.Opening.{Opened, Asked}
use Rattle.readings.specs.Structure.{attribute_plan, child_plan, flat_member, is_index, in_group, siblings, has_group, group_plan}
use Rattle.readings.specs.Structure.{members_plan, root_piece, root_plan, unwrapped_plan, with_root_name, opened_plan}
use Rattle.readings.proofs.Laws.Bounds.{attribute_short, length_indexed}
use Rattle.readings.proofs.Laws.Few.{FewIn, few_sources, few_kids, bytes_made}
use Rattle.readings.proofs.Laws.Siblings.{group_length}
use Rattle.readings.proofs.Plans.Bytes.{bytes_in, bytes_followed}
use Rattle.readings.proofs.Plans.Readings.{attributes_made, children_made}

-- ---- groups
-- a child is kept for a member from i on
abbrev is_from : ℕ → Option ℕ → Bool
is_from i none = false
is_from i (some j) = leb i j

module _ (body : List ℕ) (v : View) (s : Structure) where
  -- the member that a child is kept for
  abbrev member_of : Child → Option ℕ
  member_of c = flat_member (resolve s c.start.name.local)

  -- the bytes of its piece
  abbrev bytes_of : Child → List ℕ
  bytes_of c = cut body (piece_of body v c).start (piece_of body v c).len

  -- how many bytes the children have that are kept for members from i on
  unfoldable kept_from : ℕ → List Child → ℕ
  kept_from i [] = 0
  kept_from i (c ∷ l) = pick (is_from i (member_of c)) (length (bytes_of c)) 0 + kept_from i l

  kept_short : (i : ℕ) (l : List Child) → length body ≤ most_bytes → kept_from i l ≤ length l * most_bytes
  unfolding kept_from
  kept_short i [] h = omega arith
  kept_short i (c ∷ l) h =
      let short = cut_short body (piece_of body v c).start (piece_of body v c).len in
      pick_all (λ (n : ℕ). n + kept_from i l ≤ suc (length l) * most_bytes) (is_from i (member_of c)) (length (bytes_of c)) 0
      (omega (arith, kept_short i l h, short, h)) (omega (arith, kept_short i l h))

  -- those of member i, and those of the members after it
  siblings_kept : (i : ℕ) (l : List Child) → length (siblings body v s i l) + kept_from (suc i) l ≤ kept_from i l
  unfolding siblings kept_from in_group
  siblings_kept i [] = omega arith
  siblings_kept i (c ∷ l) = go (member_of c) (siblings_kept i l)
    where
      more : List ℕ
      more = siblings body v s i l

      n : ℕ
      n = length (bytes_of c)

      go : (m : Option ℕ) → length more + kept_from (suc i) l ≤ kept_from i l
          → length (pick (is_index m i) (bytes_of c ++ more) more) + (pick (is_from (suc i) m) n 0 + kept_from (suc i) l)
          ≤ pick (is_from i m) n 0 + kept_from i l
      go none h = omega (arith, h)
      go (some j) h = by (eqb j i) (leb (suc i) j) (leb i j) refl refl refl
        where
          by : (t u w : Bool) → eqb j i ≡ t → leb (suc i) j ≡ u → leb i j ≡ w
              → length (pick t (bytes_of c ++ more) more) + (pick u n 0 + kept_from (suc i) l) ≤ pick w n 0 + kept_from i l
          by true true w p q r = absurd (omega (arith, eqb-true j i p, leb-true (suc i) j q))
          by true false true p q r = omega (arith, h, length-append (bytes_of c) more)
          by true false false p q r = absurd (omega (arith, eqb-true j i p, leb-false i j r))
          by false true true p q r = omega (arith, h)
          by false true false p q r = absurd (omega (arith, leb-true (suc i) j q, leb-false i j r))
          by false false true p q r = omega (arith, h)
          by false false false p q r = omega (arith, h)

  group_bytes : (kids : List Child) (m : Indexed)
      → bytes_in (group_plan body v s kids m) ≤ length (siblings body v s m.index kids) + 17
  unfolding group_plan bytes_in
  group_bytes kids m =
      pick_all (λ (p : Plan). bytes_in p ≤ length (siblings body v s m.index kids) + 17) (has_group s m.index kids) _ _
      (omega (arith, group_length body v s kids m.index)) (omega arith)

  groups_bytes : (kids : List Child) (i : ℕ) (l : List Member)
      → bytes_in (one_by_one (group_plan body v s kids) (indexed i l)) ≤ kept_from i kids + length l * 17
  unfolding one_by_one indexed bytes_in
  groups_bytes kids i [] = omega arith
  groups_bytes kids i (m ∷ l) =
      let first : Indexed = record { index = i; member = m } in
      omega (
        arith,
        bytes_followed (group_plan body v s kids first) (one_by_one (group_plan body v s kids) (indexed (suc i) l)),
        group_bytes kids first,
        siblings_kept i kids,
        groups_bytes kids (suc i) l,
      )

-- ---- the whole
-- what is opened, by a sheet of at most 64 members, and the root's attributes are short
pub record FewOf (body : List ℕ) (s : Structure) (o : Opened) : Type 0 where
  pub seen : FewIn body o
  pub attributes : Every (ShortAttribute most_bytes) o.root.start.attributes
  pub members : length s.members ≤ most_members

tested : (ill : Bool) → bytes_in (end_test ill) ≡ 0
unfolding bytes_in
tested true = refl
tested false = refl

alone : (piece : Piece) (m : Option Indexed) → bytes_in (root_plan piece m) ≡ 0
unfolding bytes_in
alone piece none = refl
alone piece (some m) = refl

module _ {body : List ℕ} {s : Structure} {o : Opened} (w : FewOf body s o) where
  members_few : bytes_in (members_plan body s o) < 2 ^ 32
  unfolding members_plan
  members_few =
      let kids = children_of o.root in
      let attributes = one_by_one (attribute_plan o.root.start.attributes) (members_of s) in
      let children = one_by_one (child_plan body o.seen s) kids in
      let groups = one_by_one (group_plan body o.seen s kids) (members_of s) in
      let test = end_test o.seen.ill_formed in
      omega (
        arith,
        bytes_followed attributes (followed_by children (followed_by test groups)),
        bytes_followed children (followed_by test groups),
        bytes_followed test groups,
        tested o.seen.ill_formed,
        bytes_made (attributes_made s o (λ m i. tt {0}) (λ key v e. attribute_short w.attributes key v e)),
        bytes_made (children_made s (few_sources w.seen) (λ m i. tt {0})),
        groups_bytes body o.seen s kids zero s.members,
        kept_short body o.seen s zero kids w.seen.bytes,
        few_kids w.seen,
        length_indexed zero s.members,
        w.members,
      )

  unwrapped_few : bytes_in (unwrapped_plan body s o) < 2 ^ 32
  unfolding unwrapped_plan
  unwrapped_few =
      let test = end_test o.seen.ill_formed in
      let root = root_plan (root_piece body o) (resolve s o.root.start.name.local) in
      omega (arith, bytes_followed test root, tested o.seen.ill_formed, alone (root_piece body o) (resolve s o.root.start.name.local))

pub opened_few : (body : List ℕ) (settings : Settings) (depth : ShapeDepth) (a : Asked Structure) → FewOf body a.sheet a.opened
    → bytes_in (opened_plan body settings depth a) < 2 ^ 32
unfolding opened_plan bytes_in
opened_few body settings depth a w =
    let either = pick a.sheet.unwrapped (unwrapped_plan body a.sheet a.opened) (members_plan body a.sheet a.opened) in
    named (tests_root_name settings depth) (name_matches a.opened.root.start.name (root_name a.sheet)) either
    (pick_all (λ (p : Plan). bytes_in p < 2 ^ 32) a.sheet.unwrapped _ _ (unwrapped_few w) (members_few w))
  where
    named : (tests matches : Bool) (p : Plan) → bytes_in p < 2 ^ 32 → bytes_in (with_root_name tests matches p) < 2 ^ 32
    named false matches p h = h
    named true true p h = h
    named true false p h = omega arith
