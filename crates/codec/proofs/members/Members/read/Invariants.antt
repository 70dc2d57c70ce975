use Rattle.codec.proofs.Gathering.{Gathered}
use Rattle.codec.proofs.members.Members.read.Given as goal

abbrev pub invariant-loop-i : goal.invariant-loop-i
invariant-loop-i l = Gathered l.count l.bytes l.places l.i l.reader
