use Rattle.std.proofs.Common.{sym, ◌∙◌}
use Rattle.std.proofs.lemmas.Result.{err_from_is_err_and}
use Rattle.list.proofs.ItemLaws.{string_not, string_refused, string_done, string_full}
use Rattle.list.proofs.items.TextsReadChild.read.Goals as goal

pub returns-then-not-is_wanted : goal.returns-then-not-is_wanted
returns-then-not-is_wanted c =
    string_not c.args.self.now.name c.args.child.now c.drain-past.ensures c.args.out.now (sym c.is_wanted.ensures ∙ c.if-not-is_wanted.true)

pub returns-in_err-text : goal.returns-in_err-text
returns-in_err-text c =
    let p = err_from_is_err_and c.from_residual.result c.from_residual.ensures.1 in
    rw (p.1, p.2)
    (string_refused c.args.self.now.name c.args.child.now c.drain-past.ensures (sym c.is_wanted.ensures ∙ c.if-not-is_wanted.false)
    c.args.out.now
    c.in_err-text.ensures.same)

pub returns-in_err-write_text : goal.returns-in_err-write_text
returns-in_err-write_text c =
    let p = err_from_is_err_and c.from_residual-in_err-write_text.result c.from_residual-in_err-write_text.ensures.1 in
    rw (p.1, p.2)
    (string_full c.args.self.now.name c.args.child.now c.drain-past.ensures (sym c.is_wanted.ensures ∙ c.if-not-is_wanted.false)
    c.in_ok-text.text
    c.in_ok-text.ensures.same c.in_err-write_text.ensures)

pub returns : goal.returns
returns c =
    string_done c.args.self.now.name c.args.child.now c.drain-past.ensures (sym c.is_wanted.ensures ∙ c.if-not-is_wanted.false)
    c.in_ok-text.text
    c.in_ok-text.ensures.same c.in_ok-write_text.ensures
