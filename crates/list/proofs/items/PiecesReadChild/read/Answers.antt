use Rattle.std.proofs.Common.{sym, ◌∙◌}
use Rattle.std.proofs.lemmas.Result.{err_from_is_err_and}
use Rattle.list.proofs.ItemLaws.{item_not, item_done, item_full}
use Rattle.list.proofs.items.PiecesReadChild.read.Goals as goal

pub returns-then-not-is_wanted : goal.returns-then-not-is_wanted
returns-then-not-is_wanted c =
    item_not c.args.self.now.name c.args.child.now c.drain-past.ensures c.args.out.now (sym c.is_wanted.ensures ∙ c.if-not-is_wanted.true)

pub returns-in_err-write_piece : goal.returns-in_err-write_piece
returns-in_err-write_piece c =
    let p = err_from_is_err_and c.from_residual.result c.from_residual.ensures.1 in
    rw (p.1, p.2)
    (item_full c.args.self.now.name c.args.child.now c.drain-past.ensures (sym c.is_wanted.ensures ∙ c.if-not-is_wanted.false)
    c.piece.ensures
    c.in_err-write_piece.ensures.does)

pub returns : goal.returns
returns c =
    item_done c.args.self.now.name c.args.child.now c.drain-past.ensures (sym c.is_wanted.ensures ∙ c.if-not-is_wanted.false)
    c.piece.ensures
    c.in_ok-write_piece.ensures.does
