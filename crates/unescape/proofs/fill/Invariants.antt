-- The text before i stands unescaped at the front; the whole has room, so each front of it has.
use Rattle.lists.specs.Find.{Clear}
use Prim.Native.Nat.{◌-◌}
use lib.ListN.{length}
use Rattle.unescape.proofs.Filling.{FillAt}
use Rattle.unescape.proofs.fill.Given as goal

abbrev pub invariant-loop-i : goal.invariant-loop-i
invariant-loop-i l = FillAt l.text l.initial.out l.out l.n l.i × Clear l.text 38 l.seek l.i

abbrev pub decreases-loop-i : goal.decreases-loop-i
decreases-loop-i l = length l.text - l.i
