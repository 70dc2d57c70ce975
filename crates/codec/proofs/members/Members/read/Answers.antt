use Rattle.codec.proofs.Gathering.{gathered_more}
use Rattle.codec.proofs.members.Members.read.Goals as goal

pub loop-i-preserved : goal.loop-i-preserved
loop-i-preserved c =
    gathered_more c.loop-i.invariant c.loop-i-test.true c.if-count-gt64.false c.in_ok-_member.ensures _ c.rest.ensures
