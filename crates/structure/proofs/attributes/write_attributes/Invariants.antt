-- The attributes of the members before i are written; the others are still to come.
use Rattle.readings.specs.Structure.{attribute_plan}
use Rattle.codec.specs.Structure.{structure_said}
use Rattle.decode.specs.Element.{child_of}
use Rattle.structure.proofs.Members.{MembersAt}
use Rattle.structure.proofs.attributes.write_attributes.Given as goal

abbrev pub invariant-loop-i : goal.invariant-loop-i
invariant-loop-i l = MembersAt (attribute_plan (child_of l.root).start.attributes) (structure_said l.sheet) l.initial.out l.out l.i
