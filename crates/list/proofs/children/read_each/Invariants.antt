-- The children before those of `scope` are read.
use Prim.Native.Nat.{◌-◌}
use Rattle.list.proofs.Each.{ChildrenAt}
use Rattle.list.proofs.children.read_each.Given as goal

abbrev pub invariant-loop-child : goal.invariant-loop-child
invariant-loop-child g l = ChildrenAt (g.S.ReadChild.plan l.step) (g.S.ReadChild.after l.step) l.root l.scope l.initial.out l.out

abbrev pub decreases-loop-child : goal.decreases-loop-child
decreases-loop-child g l = l.root.view.count - l.scope.at.row
