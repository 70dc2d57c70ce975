-- As a child of the member that is found, or as one of none.
use Rattle.codec.specs.Structure.{structure_said}
use Rattle.decode.specs.Element.{child_of}
use Rattle.structure.proofs.Taking.{none_taken}
use Rattle.structure.proofs.children.take_child.Goals as goal

pub returns-in-None : goal.returns-in-None
returns-in-None c =
    none_taken (structure_said c.args.sheet.now) (child_of c.args.child.now).start.name.local c.args.out.now
    (rw (← c.local.ensures) c.in-None.ensures.resolved)
