-- The texts and groups of a structure come to few bytes, so it ends in the whole room.
use Prim.Native.Nat.{ℕ, zero, suc, ◌≤◌}
use mathlib.Core.Path.{◌≡◌, refl}
use mathlib.Core.List.{List}
use native.Mathlib.Omega.{arith}
use lib.ListN.{length, length-map, length-take, take}
use Rattle.std.specs.Prelude.{Result}
use Rattle.lists.specs.Every.{Every, none, and}
use Rattle.refusal.specs.declared.Refusal.{Refusal}
use Rattle.reference.specs.Text.{Out, bytes, bad, unescaped, meaning}
use Rattle.reference.proofs.Result.{unescaped_shorter}
use Rattle.table.specs.Rules.{most_bytes}
use Rattle.table.specs.Flat.{row_at}
use Rattle.table.specs.Rows.{value_at}
use Rattle.document.proofs.Laws.Short.{ShortAttribute, cut_short}
use Rattle.sheet.specs.declared.ShapeDepth.{ShapeDepth}
use Rattle.sheet.specs.declared.Settings.{Settings}
use Rattle.sheet.specs.Sheet.{most_members}
use Rattle.codec.specs.Members.{member_at}
use Rattle.codec.specs.Structure.{members_of, structure_said}
use Rattle.codec.specs.declared.members.Members.{Members}
use Rattle.codec.specs.declared.structure.StructureSheet.{StructureSheet}
use Rattle.readings.specs.Structure.{opened_plan}
use Rattle.readings.proofs.Laws.Grouped.{FewOf, opened_few}
use Rattle.decode.specs.declared.element.Element.{Element}
use Rattle.decode.specs.Reader.{attributes_from}
use Rattle.output.specs.declared.Output.{Output}
use Rattle.output.specs.Held.{Does, Whole}
use Rattle.output.proofs.Called.{does_whole}
use Rattle.opening.specs.Opening.{body_of, opened_of, asked_of}
use Rattle.opening.proofs.Few.{few_in}

-- ---- the root's attributes
meaning_short : (v : List ℕ) → length (meaning (unescaped v)) ≤ length v
meaning_short v = go (unescaped v) refl
  where
    go : (u : Out) → unescaped v ≡ u → length (meaning u) ≤ length v
    go (bytes x) e = unescaped_shorter v x e
    go (bad at) e = omega arith

attributes_short : (body t : List ℕ) (k m : ℕ) → length body ≤ most_bytes → Every (ShortAttribute most_bytes) (attributes_from body t k m)
attributes_short body t k zero h = none
attributes_short body t k (suc m) h =
    let r = row_at t k in
    and (omega (arith, meaning_short (value_at body t k), cut_short body r.value_start r.value_len, h))
    (attributes_short body t (suc k) m h)

few_said : (m : Members) → length (members_of m) ≤ most_members
few_said m =
    let places = take m.count m.places in
    omega (arith, length-map places (member_at m.bytes.now), length-take m.count m.places, m.are.few)

-- ---- the whole
few_of : (sheet : StructureSheet) (root : Element) → FewOf (body_of root) (structure_said sheet) (opened_of root)
few_of sheet root =
    record {
      seen = few_in root;
      attributes = attributes_short (body_of root) root.view.table.rows.now _ _ root.view.small;
      members = few_said sheet.members;
    }

pub structure_whole : (sheet : StructureSheet) (settings : Settings) (depth : ShapeDepth) (root : Element) {b b' : Output}
    {r : Result (Unit {0}) Refusal}
    → Does (opened_plan (body_of root) settings depth (asked_of (structure_said sheet) root)) b b' r
    → Whole (opened_plan (body_of root) settings depth (asked_of (structure_said sheet) root)) b b' r
structure_whole sheet settings depth root d =
    does_whole d (opened_few (body_of root) settings depth (asked_of (structure_said sheet) root) (few_of sheet root))
