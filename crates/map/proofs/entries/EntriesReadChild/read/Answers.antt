use Rattle.std.proofs.Common.{sym, ◌∙◌}
use Rattle.std.proofs.lemmas.Result.{err_from_is_err_and}
use Rattle.codec.specs.Collection.{map_said}
use Rattle.map.proofs.EntryLaws.{entry_not, entry_refused, entry_done, entry_full}
use Rattle.map.proofs.entries.EntriesReadChild.read.Goals as goal

pub returns-then-not-is_wanted : goal.returns-then-not-is_wanted
returns-then-not-is_wanted c =
    entry_not (map_said c.args.self.now.sheet.now) c.args.self.now.name c.args.child.now c.args.out.now
    (sym c.is_wanted.ensures ∙ c.if-not-is_wanted.true) c.drain.ensures

pub returns-in_err-read : goal.returns-in_err-read
returns-in_err-read c =
    let p = err_from_is_err_and c.from_residual.result c.from_residual.ensures.1 in
    rw (p.1, p.2)
    (entry_refused (map_said c.args.self.now.sheet.now) c.args.self.now.name c.args.child.now
    (sym c.is_wanted.ensures ∙ c.if-not-is_wanted.false) c.args.out.now c.in_err-read.ensures)

pub returns-in_err-write : goal.returns-in_err-write
returns-in_err-write c =
    let p = err_from_is_err_and c.from_residual-in_err-write.result c.from_residual-in_err-write.ensures.1 in
    rw (p.1, p.2)
    (entry_full (map_said c.args.self.now.sheet.now) c.args.self.now.name c.args.child.now
    (sym c.is_wanted.ensures ∙ c.if-not-is_wanted.false) c.in_ok-read.ensures c.in_err-write.ensures)

pub returns : goal.returns
returns c =
    entry_done (map_said c.args.self.now.sheet.now) c.args.self.now.name c.args.child.now
    (sym c.is_wanted.ensures ∙ c.if-not-is_wanted.false) c.in_ok-read.ensures c.in_ok-write.ensures
