-- Every reference before i is right, and from `seek` up to i no `&` stands, so the next found is the next to test.
use Rattle.lists.specs.Find.{Clear}
use Prim.Native.Nat.{◌-◌}
use lib.ListN.{length}
use Rattle.unescape.proofs.Loops.{ValidAt}
use Rattle.unescape.proofs.validate_references.Given as goal

abbrev pub invariant-loop-i : goal.invariant-loop-i
invariant-loop-i l = ValidAt l.text l.i × Clear l.text 38 l.seek l.i

abbrev pub decreases-loop-i : goal.decreases-loop-i
decreases-loop-i l = length l.text - l.i
