-- Laws of the attribute that a member asks for.
use Prim.Native.Nat.{ℕ}
use mathlib.Core.Path.{◌≡◌, refl, sym, ◌∙◌, ap}
use mathlib.Core.Bool.{true, false}
use mathlib.Core.List.{List, [], ◌∷◌}
use mathlib.Core.Option as math
use Rattle.std.specs.Prelude.{Some, None}
use Rattle.lists.specs.Tests.{pick}
use Rattle.table.specs.Names.{name_matches}
use Rattle.document.specs.Reader.{Attribute}
use Rattle.document.specs.declared.part.Text.{Text}
use Rattle.document.specs.Text.{unescaped_from}
use Rattle.sheet.specs.Sheet.{Member}
use Rattle.sheet.specs.Names.{attribute_name}
use Rattle.readings.specs.Plan.{Plan, end}
use Rattle.readings.specs.Structure.{attribute_of, found_plan, attribute_plan}
use Rattle.decode.specs.declared.element.Element.{Element}
use Rattle.decode.specs.Element.{child_of, first_named, AttributeIs}
use Rattle.output.specs.Plans.{put_text, text_or}
use Rattle.structure.specs.Structure.{indexed_as}

-- the first that matches, by both definitions
same_first : (key : List ℕ) (l : List Attribute) → first_named key l ≡ attribute_of l key
unfolding first_named attribute_of
same_first key [] = refl
same_first key (a ∷ l) = ap (λ o. pick (name_matches a.name key) (math.some a.value) o) (same_first key l)

module _ (e : Element) (i : ℕ) (m : Member) where
  abbrev plan : Plan
  plan = attribute_plan (child_of e).start.attributes (indexed_as i m)

  pub plan_other : m.attribute ≡ false → plan ≡ end
  unfolding attribute_plan
  plan_other q = rw q

  found_is : m.attribute ≡ true → {o : math.Option (List ℕ)} → o ≡ first_named (attribute_name m) (child_of e).start.attributes
      → plan ≡ found_plan i o
  unfolding attribute_plan
  found_is q p = rw (q, p, same_first (attribute_name m) (child_of e).start.attributes)

  pub plan_none : m.attribute ≡ true → AttributeIs e (attribute_name m) None → plan ≡ end
  plan_none q a = found_is q a.is

  pub plan_text : {t : Text} → m.attribute ≡ true → AttributeIs e (attribute_name m) (Some t) → plan ≡ put_text i t
  unfolding put_text
  plan_text {t} q a = found_is q a.is ∙ ap (λ o. text_or i (unescaped_from t.from o)) (sym a.value)
