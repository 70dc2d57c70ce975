-- The groups of the members before i are written; those of the others are still to come.
use Rattle.structure.proofs.Gathering.{GroupsAt}
use Rattle.structure.proofs.groups.write_kept.Given as goal

abbrev pub invariant-loop-i : goal.invariant-loop-i
invariant-loop-i l = GroupsAt l.body l.kept l.n l.initial.out l.out l.i
