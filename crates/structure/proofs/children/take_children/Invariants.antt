-- The children before those of `scope` are taken.
use Prim.Native.Nat.{◌-◌}
use Rattle.codec.specs.Structure.{structure_said}
use Rattle.structure.proofs.Taking.{ChildrenAt}
use Rattle.structure.proofs.children.take_children.Given as goal

abbrev pub invariant-loop-child : goal.invariant-loop-child
invariant-loop-child l = ChildrenAt l.root (structure_said l.sheet) l.scope l.kept l.count l.initial.out l.out

abbrev pub decreases-loop-child : goal.decreases-loop-child
decreases-loop-child l = l.root.view.count - l.scope.at.row
