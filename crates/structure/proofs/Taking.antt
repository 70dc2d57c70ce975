-- Laws of the children of a root: what is taken of one, and the loop over all.
use Prim.Native.Nat.{ℕ, ◌+◌, ◌*◌, ◌<◌, ◌≤◌}
use mathlib.Core.Path.{◌≡◌, refl, sym, ◌∙◌, ap, subst}
use mathlib.Core.Bool.{true, false}
use mathlib.Core.List.{List, [], ◌∷◌, ◌++◌, append-nil}
use mathlib.Core.Option.{Option, none, some}
use native.Mathlib.Omega.{arith}
use lib.ListN.{length, take, set, length-take}
use Rattle.std.specs.Prelude.{Result, Ok, Err}
use Rattle.std.proofs.lemmas.List.{take_more_set}
use Rattle.lists.specs.Every.{Every}
use Rattle.refusal.specs.declared.Refusal.{Refusal}
use Rattle.document.specs.declared.part.Piece.{Piece}
use Rattle.document.specs.declared.part.Text.{Text}
use Rattle.document.specs.View.{View as Seen}
use Rattle.document.specs.Scope.{Child, children_of, piece_of}
use Rattle.document.specs.Part.{given}
use Rattle.document.specs.Text.{text_of}
use Rattle.sheet.specs.Sheet.{Member, Structure}
use Rattle.sheet.specs.Names.{Indexed, resolve}
use Rattle.readings.specs.Output.{piece_entry}
use Rattle.readings.specs.Plan.{Plan, end, one, one_by_one}
use Rattle.readings.specs.Structure.{scalar_plan, member_plan, child_plan, flat_member}
use Rattle.decode.specs.declared.place.Cursor.{Cursor}
use Rattle.decode.specs.declared.place.Past.{Past}
use Rattle.decode.specs.declared.view.View.{View}
use Rattle.decode.specs.declared.element.Element.{Element}
use Rattle.decode.specs.View.{view_of}
use Rattle.decode.specs.Element.{child_at, child_of, FoundAt, NextIs, DroppedIs, PieceIs}
use Rattle.output.specs.declared.kept.Kept.{Kept}
use Rattle.output.specs.declared.Output.{Output}
use Rattle.output.specs.Kept.{InBody}
use Rattle.output.specs.Plans.{put_piece, put_scalar}
use Rattle.output.proofs.Then.{does_nothing, Midway, midway_start, each_goes, each_stops, each_ends}
use Rattle.opening.specs.Opening.{body_of}
use Rattle.structure.specs.Structure.{some_member}
use Rattle.output.proofs.Siblings.{KeepsSiblings, keeps_start, keeps_other, keeps_more, keeps_flat, keeps_has}
use Rattle.structure.specs.Children.{waiting, KeptMore, Taken, ChildrenTaken}
use Rattle.decode.proofs.Scope.{no_more, one_more}

-- ---- what is kept of one child
module _ (v : View) (c : Child) (m : Option Indexed) (l : List Kept) (count : ℕ) where
  pub not_kept : flat_member m ≡ none → KeptMore v c m l count l count
  not_kept q = record { is = rw q (sym (append-nil (take count l))); inside = rw q Every.none; few = omega arith }

  pub one_kept : {i : ℕ} {p : Piece} → flat_member m ≡ some i → p ≡ piece_of v.table.body.now (view_of v) c
      → p.start + p.len ≤ length v.table.body.now → count < length l
      → KeptMore v c m l count (set l count (record { member = i; piece = p })) (count + 1)
  one_kept {i} {p} q e w h =
      record {
        is = rw (q, ← e) (take_more_set l count (record { member = i; piece = p }) h);
        inside = rw (q, ← e) (Every.and (record { within = w }) Every.none);
        few = omega arith;
      }

-- by the member that its name resolves to
module _ {v : View} {c : Child} (s : Structure) (name : List ℕ) {l : List Kept} {count : ℕ} where
  pub taken_as : {m : Option Indexed} {l' : List Kept} {b b' : Output} {r : Result ℕ Refusal} → resolve s name ≡ m
      → Taken v c m l count l' b b' r → Taken v c (resolve s name) l count l' b b' r
  taken_as {l' = l'} {b} {b'} {r} e t = subst (λ m. Taken v c m l count l' b b' r) (sym e) t

  pub none_taken : (b : Output) → resolve s name ≡ none → Taken v c (resolve s name) l count l b b (Ok count)
  none_taken b e = taken_as e (record { does = does_nothing b; keeps = not_kept v c none l count refl })

-- and so of all so far
keeps_next : {body : List ℕ} {v : Seen} {s : Structure} {l l' : List Kept} {c : Child} {left all : List Child}
    → KeepsSiblings body v s l (c ∷ left) all → (o : Option ℕ) → flat_member (resolve s c.start.name.local) ≡ o
    → l' ≡ l ++ waiting o (piece_of body v c) → Every (InBody body) (waiting o (piece_of body v c))
    → KeepsSiblings body v s l' left all
keeps_next {l = l} k none q e i = rw (e ∙ append-nil l) (keeps_other k q)
keeps_next k (some j) q e (Every.and w i) = rw e (keeps_more k q refl w)

-- ---- one child of a member
module _ (e : Element) (i : ℕ) (m : Member) where
  abbrev plan : Plan
  plan = member_plan (body_of e) (view_of e.view) (child_of e) (some_member i m)

  pub plan_text : (t : Result Text Refusal) → m.aggregate ≡ false
      → given t ≡ text_of (view_of e.view) (child_of e) → plan ≡ put_scalar i t
  unfolding put_scalar
  plan_text t q y = rw q (ap (scalar_plan i) (sym y))

  pub plan_kept : m.aggregate ≡ true → m.flattened ≡ true → plan ≡ end
  plan_kept q f = rw (q, f)

  pub plan_piece : {p : Piece} → m.aggregate ≡ true → m.flattened ≡ false → PieceIs e p → plan ≡ put_piece i p
  unfolding put_piece
  plan_piece q f y = rw (q, f) (ap (λ (p : Piece). one (piece_entry i p) []) (sym y.is))

  pub flat_text : m.aggregate ≡ false → flat_member (some_member i m) ≡ none
  flat_text q = rw q

  pub flat_piece : m.aggregate ≡ true → m.flattened ≡ false → flat_member (some_member i m) ≡ none
  flat_piece q f = rw (q, f)

  pub flat_kept : m.aggregate ≡ true → m.flattened ≡ true → flat_member (some_member i m) ≡ some i
  flat_kept q f = rw (q, f)

-- ---- the loop over the children of a root: those of `scope` are still to come
module _ (root : Element) (s : Structure) where
  abbrev all : List Child
  all = children_of (child_of root)

  abbrev steps : Child → Plan
  steps = child_plan (body_of root) (view_of root.view) s

  pub record ChildrenAt (scope : Element) (l : List Kept) (count : ℕ) (b b₁ : Output) : Type 0 where
    pub view : scope.view ≡ root.view
    pub room : root.view.count ≤ length l * 2
    pub few : count * 2 ≤ scope.at.row
    pub mid : Midway (one_by_one steps all) (one_by_one steps (children_of (child_of scope))) b b₁
    pub keeps : KeepsSiblings (body_of root) (view_of root.view) s (take count l) (children_of (child_of scope)) all

  pub children_start : (l : List Kept) (b : Output) → root.view.count ≤ length l * 2 → ChildrenAt root l 0 b b
  children_start l b h =
      record {
        view = refl;
        room = h;
        few = omega arith;
        mid = midway_start (one_by_one steps all) b;
        keeps = keeps_start (body_of root) (view_of root.view) s all;
      }

  module _ {scope : Element} {l : List Kept} {count : ℕ} {b b₁ : Output} (a : ChildrenAt scope l count b b₁) where
    same_count : scope.view.count ≡ root.view.count
    same_count = ap (λ (v : View). v.count) a.view

    pub children_done : {p : Past} → NextIs scope (Err p) → ChildrenTaken root s l b b₁ (Ok count)
    children_done n =
        let none = no_more n in
        let high = scope.outside.at.high in
        let k = subst (λ x. KeepsSiblings (body_of root) (view_of root.view) s (take count l) x all) none a.keeps in
        record {
          does = each_ends steps (subst (λ x. Midway (one_by_one steps all) (one_by_one steps x) b b₁) none a.mid);
          keeps =
              record {
                room = omega (arith, a.few, a.room, high, same_count);
                all =
                    record {
                      flat = keeps_flat k;
                      has = keeps_has k;
                      inside = k.inside;
                      few = omega (arith, length-take count l, a.few, high, scope.view.seen, scope.view.few);
                    };
              };
        }

    module _ {child : Element} {past : Past} (n : NextIs scope (Ok child)) (d : DroppedIs child past) where
      -- a child has two rows or more
      two_rows : scope.at.row + 2 ≤ past.at.row
      two_rows =
          let f = n.met in
          omega (arith, f.since, child.start_in.low, f.past, d.later)

      in_root : child.view ≡ root.view
      in_root = n.met.view ∙ a.view

      pub children_stop : {l' : List Kept} {b₂ : Output} {why : Refusal}
          → Taken child.view (child_of child) (resolve s (child_of child).start.name.local) l count l' b₁ b₂ (Err why)
          → ChildrenTaken root s l' b b₂ (Err why)
      unfolding child_plan
      children_stop {l'} {b₂} {why} t =
          let mid = subst (λ x. Midway (one_by_one steps all) (one_by_one steps x) b b₁) (one_more n d) a.mid in
          let name = (child_of child).start.name.local in
          let x = subst (λ (v : View). Taken v (child_of child) (resolve s name) l count l' b₁ b₂ (Err why)) in_root t in
          record { does = each_stops steps _ _ mid x.does; keeps = tt }

      module _ {after : Element} (re : FoundAt scope.view scope.start past.at after) where
        next_is : child_of after ≡ child_at scope.view scope.start past.at
        next_is = rw (re.view, re.start, re.at)

        later : children_of (child_of scope) ≡ child_of child ∷ children_of (child_of after)
        later = one_more n d ∙ ap (λ (c : Child). child_of child ∷ children_of c) (sym next_is)

        pub children_goes : {l' : List Kept} {b₂ : Output} {m : ℕ}
            → Taken child.view (child_of child) (resolve s (child_of child).start.name.local) l count l' b₁ b₂ (Ok m)
            → length l' ≡ length l → ChildrenAt after l' m b b₂
        unfolding child_plan
        children_goes {l'} {b₂} {m} t same =
            let mid = subst (λ x. Midway (one_by_one steps all) (one_by_one steps x) b b₁) later a.mid in
            let name = (child_of child).start.name.local in
            let x = subst (λ (v : View). Taken v (child_of child) (resolve s name) l count l' b₁ b₂ (Ok m)) in_root t in
            let kept = subst (λ y. KeepsSiblings (body_of root) (view_of root.view) s (take count l) y all) later a.keeps in
            record {
              view = re.view ∙ a.view;
              room = rw same a.room;
              few = omega (arith, a.few, x.keeps.few, two_rows, ap (λ (c : Cursor). c.row) re.at);
              mid = each_goes steps _ _ mid x.does;
              keeps = keeps_next kept (flat_member (resolve s name)) refl x.keeps.is x.keeps.inside;
            }
