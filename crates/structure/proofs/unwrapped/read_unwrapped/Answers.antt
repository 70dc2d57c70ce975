-- 9, or the piece of a member, or nothing: the definition's three cases.
use Rattle.codec.specs.Structure.{structure_said}
use Rattle.output.proofs.Writing.{enters_as, enters_nothing}
use Rattle.output.proofs.Then.{does_as, does_nothing}
use Rattle.structure.proofs.Whole.{alone_ill, alone_left, alone_piece, alone_none}
use Rattle.structure.proofs.unwrapped.read_unwrapped.Goals as goal

pub returns-then-root : goal.returns-then-root
returns-then-root c =
    record {
      does = alone_ill c.args.root.now (structure_said c.args.sheet.now) c.args.out.now c.if-root.true;
      enters = alone_left c.args.root.now (structure_said c.args.sheet.now) c.args.out.now c.if-root.true;
    }

pub returns-in-Some : goal.returns-in-Some
returns-in-Some c =
    let q = alone_piece c.args.root.now (structure_said c.args.sheet.now) c.resolve_member.result c.if-root.false
    (rw c.local.ensures at c.resolve_member.ensures.resolved) c.in-Some.is c.root_piece.ensures in
    record { does = does_as q c.write_piece.ensures.does; enters = enters_as q c.write_piece.ensures.enters }

pub returns-in-None : goal.returns-in-None
returns-in-None c =
    let q = alone_none c.args.root.now (structure_said c.args.sheet.now) c.resolve_member.result c.if-root.false
    (rw c.local.ensures at c.resolve_member.ensures.resolved) c.in-None.is in
    record { does = does_as q (does_nothing c.args.out.now); enters = enters_as q (enters_nothing c.args.out.now) }
