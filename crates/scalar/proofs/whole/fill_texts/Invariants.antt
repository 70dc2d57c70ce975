-- The texts before the place stand at the front; all together fit and none is refused, so the next has its room.
use Prim.Native.Nat.{◌-◌}
use Rattle.scalar.proofs.Joining.{FillAt}
use Rattle.scalar.proofs.whole.fill_texts.Given as goal

abbrev pub invariant-loop-text : goal.invariant-loop-text
invariant-loop-text l = FillAt l.element l.initial.out l.out l.at l.size

abbrev pub decreases-loop-text : goal.decreases-loop-text
decreases-loop-text l = l.element.view.count - l.at.row
