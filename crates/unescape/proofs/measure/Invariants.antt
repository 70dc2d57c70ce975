-- The text before i comes to `size` bytes, at most i; from `seek` up to i no `&` stands, so none is missed.
use Rattle.lists.specs.Find.{Clear}
use Prim.Native.Nat.{◌-◌}
use lib.ListN.{length}
use Rattle.unescape.proofs.Loops.{MeasureAt}
use Rattle.unescape.proofs.measure.Given as goal

abbrev pub invariant-loop-i : goal.invariant-loop-i
invariant-loop-i l = MeasureAt l.text l.size l.i × Clear l.text 38 l.seek l.i

abbrev pub decreases-loop-i : goal.decreases-loop-i
decreases-loop-i l = length l.text - l.i
