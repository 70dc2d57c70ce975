-- THE ONE INDUCTION over the readings: each of the four, on every input, is a plan made of what there is to be written, which stops where
-- it may.
use Prim.Native.Nat.{ℕ, ◌+◌}
use mathlib.Core.Path.{◌≡◌, refl, subst⁻¹}
use mathlib.Core.Bool.{Bool, true, false}
use mathlib.Core.List.{List, Memᴰ}
use mathlib.Core.Option.{Option, none, some}
use native.Mathlib.Omega.{arith}
use lib.ListN.{length}
use Rattle.lists.specs.Tests.{pick}
use Rattle.lists.proofs.Tests.{pick_cases, pick_all}
use Rattle.refusal.specs.declared.Refusal.{Refusal}
use Rattle.refusal.specs.Answer.{Answer, gives, refuses}
use Rattle.table.specs.Names.{name_matches}
use Rattle.document.specs.declared.part.Piece.{Piece}
use Rattle.document.specs.Scope.{Child, children_of}
use Rattle.document.specs.Text.{text_of}
use Rattle.sheet.specs.declared.ShapeDepth.{ShapeDepth}
use Rattle.sheet.specs.declared.Settings.{Settings}
use Rattle.sheet.specs.Settings.{tests_root_name}
use Rattle.sheet.specs.Sheet.{Structure}
use Rattle.sheet.specs.Names.{root_name, attribute_name, Indexed, members_of, resolve, item_name, entry_name}
use Rattle.readings.specs.Call.{Upload, Call}
use Rattle.readings.specs.Output.{Room, Output, nothing, Reading, output}
use Rattle.readings.specs.Plan.{Plan, stop, perform, one_by_one, end_test}
use Rattle.readings.specs.Opening.{Opened, Asked, asked, asking}
use Rattle.readings.specs.Structure.{attribute_of, found_plan, attribute_plan, scalar_plan}
use Rattle.readings.specs.Structure.{member_plan, child_plan, group_plan, members_plan}
use Rattle.readings.specs.Structure.{has_group, root_piece, root_plan, unwrapped_plan, with_root_name, opened_plan, structure_plan}
use Rattle.readings.specs.Structure.{structure_reading}
use Rattle.readings.specs.Collection.{is_wanted, item_plan, items_plan, list_plan, list_reading, text_plan, string_plan, strings_plan}
use Rattle.readings.specs.Collection.{string_list_plan, string_list_reading, MapValue, Fields}
use Rattle.readings.specs.Collection.{no_fields, fields_plan, read_plan, entry_plan}
use Rattle.readings.specs.Collection.{entries_of, entries_plan, map_plan, map_reading}
use Rattle.readings.specs.Shape.{Shape, structure, list, map, strings, SheetOf, sheet_of, plan_of, read}
use Rattle.readings.specs.Demand.{RootDiffers, differs, TextWanted, of_item, of_field}
use Rattle.readings.proofs.Laws.Members.{named_in}
use Rattle.readings.proofs.Conditions.Answers.{Is, is_given_lem, is_refused}
use Rattle.readings.proofs.Conditions.Opening.{AskedRefused, AskedAs, asked_is}
use Rattle.readings.proofs.Plans.Made.{Made, made_put, made_end, made_stop, made_more, made_followed, made_each, made_last}
use Rattle.readings.proofs.Plans.Sources.{Source, of_text_lem, of_failed, of_piece, of_group, of_key_text, of_key_piece, Anything}
use Rattle.readings.proofs.Plans.Sources.{Sources, ShapeSources}
use Rattle.readings.proofs.Plans.Fields.{FieldsFrom, fields, no_text, KeyFrom, no_key, key, ValueFrom, no_value, text_value}
use Rattle.readings.proofs.Plans.Fields.{piece_value, fields_from}

-- ---- a reading is its plan, performed
pub read_is : (shape : Shape) (u : Upload) (call : Call) (room : Room)
    → read shape u call room ≡ perform room (plan_of shape u call) nothing
unfolding structure_reading list_reading map_reading string_list_reading
read_is structure u call room = refl
read_is list u call room = refl
read_is map u call room = refl
read_is strings u call room = refl

-- ---- what is planned once 1, 2, 3 and 4 are past
abbrev pub asked_plan : (shape : Shape) → List ℕ → Settings → ShapeDepth → Asked (SheetOf shape) → Plan
asked_plan structure body settings depth a = opened_plan body settings depth a
asked_plan list body settings depth a = items_plan body settings a
asked_plan map body settings depth a = entries_plan body settings a
asked_plan strings body settings depth a = strings_plan settings a

module _ (u : Upload) (call : Call) (shape : Shape) where
  -- a plan stops before it reads anything, or it goes on with what was asked
  pub data PlanIs : Plan → Type 0 where
    before : {r : Refusal} → AskedRefused u (sheet_of shape call.sheet) call.settings call.depth r → PlanIs (stop r)
    while : {a : Asked (SheetOf shape)} → AskedAs u (sheet_of shape call.sheet) call.settings call.depth a
        → PlanIs (asked_plan shape u.body call.settings call.depth a)

plan_as : (u : Upload) (call : Call) (shape : Shape) → plan_of shape u call
    ≡ asking (asked u (sheet_of shape call.sheet) call.settings call.depth)
    (asked_plan shape u.body call.settings call.depth) stop
unfolding structure_plan list_plan map_plan string_list_plan
plan_as u call structure = refl
plan_as u call list = refl
plan_as u call map = refl
plan_as u call strings = refl

pub plan_is : (u : Upload) (call : Call) (shape : Shape) → PlanIs u call shape (plan_of shape u call)
plan_is u call shape = subst⁻¹ (PlanIs u call shape) (plan_as u call shape)
    (go (asked_is u (sheet_of shape call.sheet) call.settings call.depth))
  where
    go : {g : Answer (Asked (SheetOf shape))}
        → Is (AskedAs u (sheet_of shape call.sheet) call.settings call.depth)
        (AskedRefused u (sheet_of shape call.sheet) call.settings call.depth) g
        → PlanIs u call shape (asking g (asked_plan shape u.body call.settings call.depth) stop)
    go (is_given_lem w) = while w
    go (is_refused w) = before w

-- so what is said of nothing, and of the output of each such plan, is said of the output of the reading
pub output_carried : (u : Upload) (call : Call) (room : Room) (shape : Shape) (R : Output → Type 0) → R nothing
    → ((a : Asked (SheetOf shape)) → AskedAs u (sheet_of shape call.sheet) call.settings call.depth a
    → R (output (perform room (asked_plan shape u.body call.settings call.depth a) nothing)))
    → R (output (read shape u call room))
unfolding perform
output_carried u call room shape R base f =
    subst⁻¹ (λ (x : Reading). R (output x)) (read_is shape u call room) (go (plan_is u call shape))
  where
    go : {p : Plan} → PlanIs u call shape p → R (output (perform room p nothing))
    go (before r) = base
    go (while {a = a} w) = f a w

-- ---- how many entries are put at most; of a structure: the root alone, or attributes, children and groups
abbrev pub most_entries : Settings → (shape : Shape) → Asked (SheetOf shape) → ℕ
most_entries settings structure a =
    let members = length (members_of a.sheet) in
    1 + (members + (length (children_of a.opened.root) + members))
most_entries settings list a = length (children_of a.opened.root)
most_entries settings map a = length (entries_of (entry_name settings a.sheet) a.opened.root)
most_entries settings strings a = length (children_of a.opened.root)

-- ---- where a plan may stop: at its end, at the root's name, and where a text that is wanted has none
pub record MayStop (settings : Settings) (depth : ShapeDepth) (Here : Child → Type 0) (S : Refusal → Type 0) (shape : Shape)
    (a : Asked (SheetOf shape)) : Type 0 where
  pub ill_formed : a.opened.seen.ill_formed ≡ true → S Refusal.IllFormed
  pub root_name : RootDiffers settings depth shape a → S Refusal.RootName
  pub text : (c : Child) → Here c → TextWanted settings shape a c → (r : Refusal) → text_of a.opened.seen c ≡ refuses r → S r

-- nothing is said of where it stops
pub may_stop : {Here : Child → Type 0} (settings : Settings) (depth : ShapeDepth) (shape : Shape) (a : Asked (SheetOf shape))
    → MayStop settings depth Here Anything shape a
may_stop settings depth shape a = record { ill_formed = λ e. tt {0}; root_name = λ d. tt {0}; text = λ c h w r e. tt {0} }

module _ {M : ℕ → Type 0} {T : List ℕ → Type 0} {F : Refusal → Type 0} {G : ℕ → List ℕ → Type 0} {P : Piece → Type 0}
    {S : Refusal → Type 0} where
  -- a structure's attributes
  pub attributes_made : (s : Structure) (o : Opened) → ((m : Indexed) → Memᴰ m (members_of s) → M m.index)
      → ((name v : List ℕ) → attribute_of o.root.start.attributes name ≡ some v → T v)
      → Made (Source M T F G P) S (length (members_of s)) (one_by_one (attribute_plan o.root.start.attributes) (members_of s))
  unfolding attribute_plan
  attributes_made s o f g =
      made_each _ (members_of s) (λ m i. pick_all (Made (Source M T F G P) S 1) m.member.attribute _ _
      (found m i (attribute_of o.root.start.attributes (attribute_name m.member)) refl) made_end)
    where
      found : (m : Indexed) → Memᴰ m (members_of s) → (v : Option (List ℕ))
          → attribute_of o.root.start.attributes (attribute_name m.member) ≡ v → Made (Source M T F G P) S 1 (found_plan m.index v)
      found m i none e = made_end
      found m i (some v) e = made_put (of_text_lem (f m i) (g _ v e)) made_end

module _ {Here : Child → Type 0} {M : ℕ → Type 0} {T : List ℕ → Type 0} {F : Refusal → Type 0} {G : ℕ → List ℕ → Type 0}
    {P : Piece → Type 0} {S : Refusal → Type 0} {body : List ℕ} where
  text_made : {o : Opened} → Sources Here T F P body o → M 0 → (c : Child) → Here c
      → ((r : Refusal) → text_of o.seen c ≡ refuses r → S r)
      → Made (Source M T F G P) S 1 (text_plan (text_of o.seen c))
  text_made {o} x m c h stops = go (text_of o.seen c) refl
    where
      go : (a : Answer (List ℕ)) → text_of o.seen c ≡ a → Made (Source M T F G P) S 1 (text_plan a)
      go (gives b) e = made_put (of_text_lem m (x.text c h b e)) made_end
      go (refuses r) e = made_stop (stops r e)

  member_made : {o : Opened} → Sources Here T F P body o → (c : Child) → Here c → (m : Option Indexed)
      → ((y : Indexed) → m ≡ some y → M y.index)
      → Made (Source M T F G P) S 1 (member_plan body o.seen c m)
  member_made x c h none f = made_end
  member_made {o} x c h (some m) f =
      pick_all (Made (Source M T F G P) S 1) m.member.aggregate _ _
      (pick_all (Made (Source M T F G P) S 1) m.member.flattened _ _ made_end
      (made_put (of_piece (f m refl) (x.piece c h)) made_end))
      (go (text_of o.seen c) refl)
    where
      go : (a : Answer (List ℕ)) → text_of o.seen c ≡ a → Made (Source M T F G P) S 1 (scalar_plan m.index a)
      go (gives b) e = made_put (of_text_lem (f m refl) (x.text c h b e)) made_end
      go (refuses r) e = made_put (of_failed (f m refl) (x.failed c h r e)) made_end

  entry_made : {settings : Settings} {depth : ShapeDepth} {a : Asked (SheetOf map)} → Sources Here T F P body a.opened
      → MayStop settings depth Here S map a → (c : Child) → Here c
      → Memᴰ c (entries_of (entry_name settings a.sheet) a.opened.root) → is_wanted (entry_name settings a.sheet) c ≡ true
      → {f : Answer Fields} → FieldsFrom body a.opened.seen a.sheet (children_of c) f → Made (Source M T F G P) S 1 (read_plan f)
  entry_made {a = a} x st c h j wanted (no_text {c = d} {r = r} i w e) =
      made_stop (st.text d (x.children c h d i) (of_field a j wanted i w) r e)
  entry_made {a = a} x st c h j wanted (fields k v) = go k v
    where
      go : {k : Option (List ℕ)} {v : Option MapValue} → KeyFrom body a.opened.seen a.sheet (children_of c) k
          → ValueFrom body a.opened.seen a.sheet (children_of c) v → Made (Source M T F G P) S 1 (fields_plan k v)
      go no_key v = made_end
      go (key i e) no_value = made_end
      go (key {c = d} {k = k} i e) (text_value {c = y} {t = t} j q) =
          made_put (of_key_text (x.text d (x.children c h d i) k e) (x.text y (x.children c h y j) t q)) made_end
      go (key {c = d} {k = k} i e) (piece_value {c = y} j) =
          made_put (of_key_piece (x.text d (x.children c h d i) k e) (x.piece y (x.children c h y j))) made_end

  -- what it puts of its children as they are met
  pub children_made : (s : Structure) {o : Opened} → Sources Here T F P body o
      → ((m : Indexed) → Memᴰ m (members_of s) → M m.index)
      → Made (Source M T F G P) S (length (children_of o.root)) (one_by_one (child_plan body o.seen s) (children_of o.root))
  unfolding child_plan
  children_made s {o} x f = made_each _ (children_of o.root) (λ c i. member_made x c (x.children o.root x.root c i)
      (resolve s c.start.name.local) (λ m e. f m (named_in (members_of s) c.start.name.local m e)))

  -- THE INDUCTION
  pub plan_made : (settings : Settings) (depth : ShapeDepth) (shape : Shape) (a : Asked (SheetOf shape))
      → Sources Here T F P body a.opened → ShapeSources M T G P body shape a
      → MayStop settings depth Here S shape a
      → Made (Source M T F G P) S (most_entries settings shape a) (asked_plan shape body settings depth a)
  unfolding items_plan item_plan strings_plan string_plan entries_plan entry_plan opened_plan members_plan attribute_plan child_plan
      group_plan
      unwrapped_plan
  plan_made settings depth list a x y st =
      let kids = children_of a.opened.root in
      made_more _ (omega arith)
      (made_followed (made_each _ kids (λ c i. pick_all (Made (Source M T F G P) S 1) (is_wanted (item_name settings a.sheet) c) _ _
      (made_put (of_piece y (x.piece c (x.children a.opened.root x.root c i))) made_end) made_end))
      (made_last {n = 0} a.opened.seen.ill_formed st.ill_formed))
  plan_made settings depth strings a x y st =
      let kids = children_of a.opened.root in
      made_more _ (omega arith)
      (made_followed (made_each _ kids
      (λ c i. pick_cases (Made (Source M T F G P) S 1) (is_wanted (item_name settings a.sheet) c) _ _
      (λ e. let h = x.children a.opened.root x.root c i in text_made x y c h (st.text c h (of_item a i e))) (λ e. made_end)))
      (made_last {n = 0} a.opened.seen.ill_formed st.ill_formed))
  plan_made settings depth map a x y st =
      let name = entry_name settings a.sheet in
      made_more _ (omega arith)
      (made_followed (made_each _ (entries_of name a.opened.root)
      (λ c i. pick_cases (Made (Source M T F G P) S 1) (is_wanted name c) _ _
      (λ e. entry_made x st c (x.entries name a.opened.root x.root c i) i e
      (fields_from body a.opened.seen a.sheet (children_of c) (children_of c) (λ z j. j) no_fields no_key no_value))
      (λ e. made_end)))
      (made_last {n = 0} a.opened.seen.ill_formed st.ill_formed))
  plan_made settings depth structure a x y st =
      named (tests_root_name settings depth) (name_matches a.opened.root.start.name (root_name a.sheet)) refl refl
    where
      o : Opened
      o = a.opened

      kids : List Child
      kids = children_of o.root

      at_root : (m : Option Indexed) → resolve a.sheet o.root.start.name.local ≡ m
          → Made (Source M T F G P) S 1 (root_plan (root_piece body o) m)
      at_root none e = made_end
      at_root (some m) e = made_put (of_piece (y.member m (named_in (members_of a.sheet) _ m e)) y.root) made_end

      groups : Made (Source M T F G P) S (length (members_of a.sheet))
          (one_by_one (group_plan body o.seen a.sheet kids) (members_of a.sheet))
      groups = made_each (group_plan body o.seen a.sheet kids) (members_of a.sheet)
          (λ m i. pick_all (Made (Source M T F G P) S 1) (has_group a.sheet m.index kids) _ _
          (made_put (of_group (y.member m i) (y.group m.index)) made_end) made_end)

      -- the test that the body is well-formed puts nothing
      tested : Made (Source M T F G P) S 0 (end_test o.seen.ill_formed)
      tested = made_last o.seen.ill_formed st.ill_formed

      either : Made (Source M T F G P) S (most_entries settings structure a)
          (pick a.sheet.unwrapped (unwrapped_plan body a.sheet o) (members_plan body a.sheet o))
      either =
          pick_all (Made (Source M T F G P) S (most_entries settings structure a)) a.sheet.unwrapped _ _
          (made_more _ (omega arith) (made_followed tested (at_root (resolve a.sheet o.root.start.name.local) refl)))
          (made_more _ (omega arith) (made_followed (attributes_made a.sheet o y.member y.attribute)
          (made_followed (children_made a.sheet x y.member) (made_followed tested groups))))

      named : (tests matches : Bool) → tests_root_name settings depth ≡ tests
          → name_matches o.root.start.name (root_name a.sheet) ≡ matches
          → Made (Source M T F G P) S (most_entries settings structure a)
          (with_root_name tests matches (pick a.sheet.unwrapped (unwrapped_plan body a.sheet o) (members_plan body a.sheet o)))
      named false matches p q = either
      named true true p q = either
      named true false p q = made_stop (st.root_name (differs a p q))
