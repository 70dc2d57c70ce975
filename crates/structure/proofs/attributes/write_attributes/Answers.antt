use Rattle.std.proofs.Common.{arith}
use Rattle.std.proofs.lemmas.Result.{err_from_is_err_and}
use Rattle.structure.proofs.Members.{members_goes, members_stops, members_done}
use Rattle.structure.proofs.attributes.write_attributes.Goals as goal

pub returns-in_err-write_attribute : goal.returns-in_err-write_attribute
returns-in_err-write_attribute c =
    let p = err_from_is_err_and c.from_residual.result c.from_residual.ensures.1 in
    rw (p.1, p.2) (members_stops c.loop-i.invariant (omega (arith, c.loop-i-test.true, c.len-i-end.ensures.size)) c.member.ensures
    c.in_err-write_attribute.ensures)

pub loop-i-preserved : goal.loop-i-preserved
loop-i-preserved c =
    members_goes c.loop-i.invariant (omega (arith, c.loop-i-test.true, c.len-i-end.ensures.size)) c.member.ensures
    c.in_ok-write_attribute.ensures

pub returns : goal.returns
returns c = members_done c.loop-i.invariant (omega (arith, c.loop-i-test.false, c.len-i-end.ensures.size))
