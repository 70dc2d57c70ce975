-- By its flags: a text, or kept, which writes nothing yet, or a piece.
use Rattle.std.proofs.Common.{sym}
use Rattle.std.proofs.lemmas.Result.{err_from_is_err_and}
use Rattle.codec.specs.Structure.{member_said}
use Rattle.output.proofs.Then.{does_as, does_nothing}
use Rattle.decode.specs.Element.{child_of}
use Rattle.structure.specs.Structure.{some_member}
use Rattle.structure.proofs.Taking.{not_kept, one_kept, plan_text, plan_kept, plan_piece, flat_text, flat_piece, flat_kept}
use Rattle.structure.proofs.children.take_member.Goals as goal

pub returns-in_err-write_scalar : goal.returns-in_err-write_scalar
returns-in_err-write_scalar c =
    let m = member_said c.args.member.now in
    let p = err_from_is_err_and c.from_residual.result c.from_residual.ensures.1 in
    let q = plan_text c.args.child.now c.args.index m c.try_data-text.result (sym c.if-not-is_aggregate.ensures)
    c.try_data-text.ensures.same in
    rw (p.1, p.2) (record { does = does_as q c.in_err-write_scalar.ensures; keeps = tt })

pub returns-then-not-is_aggregate : goal.returns-then-not-is_aggregate
returns-then-not-is_aggregate c =
    let m = member_said c.args.member.now in
    let e = c.args.child.now in
    let a = sym c.if-not-is_aggregate.ensures in
    let q = plan_text e c.args.index m c.try_data-text.result a c.try_data-text.ensures.same in
    record {
      does = does_as q c.in_ok-write_scalar.ensures;
      keeps = not_kept e.view (child_of e) (some_member c.args.index m) c.args.kept.now c.args.count
          (flat_text e c.args.index m a);
    }

pub returns-then-is_flattened : goal.returns-then-is_flattened
returns-then-is_flattened c =
    let m = member_said c.args.member.now in
    let e = c.args.child.now in
    let a = sym c.if-not-is_aggregate.ensures in
    let f = sym c.if-is_flattened.ensures in
    record {
      does = does_as (plan_kept e c.args.index m a f) (does_nothing c.args.out.now);
      keeps = one_kept e.view (child_of e) (some_member c.args.index m) c.args.kept.now c.args.count
          (flat_kept e c.args.index m a f) c.piece-piece.ensures.is c.piece-piece.ensures.inside c.requires.room;
    }

pub returns-in_err-write_piece : goal.returns-in_err-write_piece
returns-in_err-write_piece c =
    let m = member_said c.args.member.now in
    let p = err_from_is_err_and c.from_residual-in_err-write_piece.result c.from_residual-in_err-write_piece.ensures.1 in
    let q = plan_piece c.args.child.now c.args.index m (sym c.if-not-is_aggregate.ensures) (sym c.if-is_flattened.ensures)
    c.piece-piece.ensures in
    rw (p.1, p.2) (record { does = does_as q c.in_err-write_piece.ensures.does; keeps = tt })

pub returns : goal.returns
returns c =
    let m = member_said c.args.member.now in
    let e = c.args.child.now in
    let a = sym c.if-not-is_aggregate.ensures in
    let f = sym c.if-is_flattened.ensures in
    record {
      does = does_as (plan_piece e c.args.index m a f c.piece-piece.ensures) c.in_ok-write_piece.ensures.does;
      keeps = not_kept e.view (child_of e) (some_member c.args.index m) c.args.kept.now c.args.count
          (flat_piece e c.args.index m a f);
    }
