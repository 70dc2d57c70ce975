use Rattle.std.proofs.Common.{◌∙◌, arith}
use Rattle.codec.proofs.Gathering.{member_kept}
use Rattle.codec.proofs.members.Members.child_name.Goals as goal

pub returns : goal.returns
returns c =
    let a = c.args.self.now in
    member_kept a.bytes.now a.places a.count c.args.i c.requires (omega (arith, a.are.few, a.are.wide)) c.from.result c.from.ensures
    ∙ c.front_name.ensures
