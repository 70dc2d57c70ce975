-- The children before those of `scope` are read.
use Prim.Native.Nat.{◌-◌}
use Rattle.codec.specs.Collection.{map_said}
use Rattle.map.proofs.Reading.{FieldsAt}
use Rattle.map.proofs.entries.read_fields.Given as goal

abbrev pub invariant-loop-child : goal.invariant-loop-child
invariant-loop-child l = FieldsAt (map_said l.sheet) l.entry l.scope l.fields

abbrev pub decreases-loop-child : goal.decreases-loop-child
decreases-loop-child l = l.entry.view.count - l.scope.at.row
