use Rattle.std.proofs.lemmas.Result.{err_from_is_err_and}
use Rattle.opening.specs.Opening.{upload_of}
use Rattle.scalar.proofs.Reading.{boolean_read, boolean_refused}
use Rattle.scalar.proofs.read.read_boolean.Goals as goal

pub returns-in_err-text : goal.returns-in_err-text
returns-in_err-text c =
    let p = err_from_is_err_and c.from_residual.result c.from_residual.ensures.1 in
    rw (p.1, p.2)
    (boolean_refused (upload_of c.args.table) c.args.settings c.args.depth (rw c.in_err-text.was at c.take_text.ensures))

pub returns : goal.returns
returns c =
    boolean_read (upload_of c.args.table) c.args.settings c.args.depth c.in_ok-text.text (rw c.in_ok-text.was at c.take_text.ensures)
    c.boolean_in.ensures
