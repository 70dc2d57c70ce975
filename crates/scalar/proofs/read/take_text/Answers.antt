-- What was opened and what its first text is tell the definition's text by computation.
use Rattle.std.proofs.lemmas.Result.{err_from_is_err_and}
use Rattle.opening.specs.Opening.{upload_of}
use Rattle.scalar.proofs.Reading.{text_unopened, text_refused, text_well, text_bad, text_ill}
use Rattle.scalar.proofs.read.take_text.Goals as goal

pub returns-in_err-root : goal.returns-in_err-root
returns-in_err-root c =
    let p = err_from_is_err_and c.from_residual.result c.from_residual.ensures.1 in
    rw (p.1, p.2)
    (text_unopened (upload_of c.args.table) c.args.settings c.args.depth c.is_strict.ensures (rw c.in_err-root.was at c.open.ensures.is))

pub returns-in_err-text : goal.returns-in_err-text
returns-in_err-text c =
    let p = err_from_is_err_and c.from_residual-in_err-text.result c.from_residual-in_err-text.ensures.1 in
    rw (p.1, p.2)
    (text_refused (upload_of c.args.table) c.args.settings c.args.depth c.is_strict.ensures (rw c.in_ok-root.was at c.open.ensures.is)
    c.try_data.result c.try_data.ensures.same c.in_err-text.was)

pub returns-in_err-measure : goal.returns-in_err-measure
returns-in_err-measure c =
    let p = err_from_is_err_and c.from_residual-in_err-measure.result c.from_residual-in_err-measure.ensures.1 in
    rw (p.1, p.2)
    (text_bad (upload_of c.args.table) c.args.settings c.args.depth c.is_strict.ensures (rw c.in_ok-root.was at c.open.ensures.is)
    c.try_data.result c.try_data.ensures.same c.in_ok-text.was c.if-root.true c.measure.result c.measure.ensures c.in_err-measure.was)

pub returns-then-root : goal.returns-then-root
returns-then-root c =
    text_ill (upload_of c.args.table) c.args.settings c.args.depth c.is_strict.ensures (rw c.in_ok-root.was at c.open.ensures.is)
    c.try_data.result c.try_data.ensures.same c.in_ok-text.was c.if-root.true c.measure.result c.measure.ensures c.in_ok-measure.was

pub returns : goal.returns
returns c =
    text_well (upload_of c.args.table) c.args.settings c.args.depth c.is_strict.ensures (rw c.in_ok-root.was at c.open.ensures.is)
    c.try_data.result c.try_data.ensures.same c.in_ok-text.was c.if-root.false
