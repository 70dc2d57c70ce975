-- The children before those of `scope` do not have the name.
use Prim.Native.Nat.{◌-◌}
use Rattle.scalar.proofs.Searching.{FindAt}
use Rattle.scalar.proofs.find.child_in.Given as goal

abbrev pub invariant-loop-child : goal.invariant-loop-child
invariant-loop-child l = FindAt l.root l.name l.scope

abbrev pub decreases-loop-child : goal.decreases-loop-child
decreases-loop-child l = l.root.view.count - l.scope.at.row
