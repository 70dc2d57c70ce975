-- Which children are wanted.
use mathlib.Core.Path.{◌≡◌, refl}
use mathlib.Core.Bool.{Bool, true}
use Rattle.std.specs.Prelude.{Option, Some, None}
use Rattle.table.specs.Row.{Name}
use Rattle.table.specs.Names.{name_matches}
use Rattle.table.specs.declared.patterns.Pattern.{Pattern}
use Rattle.readings.specs.Collection.{is_wanted}
use Rattle.decode.specs.declared.element.Element.{Element}
use Rattle.decode.specs.Element.{child_of}
use Rattle.opening.specs.Wanted.{asked_by, wanted}

-- a child is by its name
pub child_wanted : (e : Element) (name : Option Pattern) {r : Bool} → r ≡ wanted (asked_by name) (child_of e).start.name
    → r ≡ is_wanted (asked_by name) (child_of e)
unfolding is_wanted
child_wanted e None q = q
child_wanted e (Some p) q = q

module _ (m : Name) {name : Option Pattern} where
  pub wanted_named : {p : Pattern} {r : Bool} → name ≡ Some p → r ≡ name_matches m p.whole.now → r ≡ wanted (asked_by name) m
  wanted_named q x = rw q x

  pub wanted_any : name ≡ None → true ≡ wanted (asked_by name) m
  wanted_any q = rw q refl
