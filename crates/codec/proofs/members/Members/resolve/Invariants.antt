use Rattle.codec.specs.Structure.{members_of}
use Rattle.codec.proofs.Resolving.{Looking}
use Rattle.codec.proofs.members.Members.resolve.Given as goal

abbrev pub invariant-loop-i : goal.invariant-loop-i
invariant-loop-i l = Looking (members_of l.self) l.local l.i
