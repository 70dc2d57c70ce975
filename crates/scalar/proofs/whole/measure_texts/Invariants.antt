-- `size` is what the texts before the place come to: at most 2 ^ 32 bytes a row, so the sum fits.
use Prim.Native.Nat.{◌-◌}
use Rattle.scalar.proofs.Joining.{MeasureAt}
use Rattle.scalar.proofs.whole.measure_texts.Given as goal

abbrev pub invariant-loop-text : goal.invariant-loop-text
invariant-loop-text l = MeasureAt l.element l.at l.size

abbrev pub decreases-loop-text : goal.decreases-loop-text
decreases-loop-text l = l.element.view.count - l.at.row
