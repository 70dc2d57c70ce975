-- There is room for the entry, or there is none.
use Rattle.std.proofs.Common.{sym, ◌∙◌}
use Rattle.output.proofs.Writing.{entry_none, enters_none, entry_written, enters_written}
use Rattle.output.proofs.Output.write_entry.Goals as goal

pub returns-then-not-has_entry : goal.returns-then-not-has_entry
returns-then-not-has_entry c =
    let q = sym c.has_entry.ensures ∙ c.if-not-has_entry.true in
    record { does = entry_none c.args.entry q; enters = enters_none c.args.entry q }

pub returns : goal.returns
returns c =
    let q = sym c.has_entry.ensures ∙ c.if-not-has_entry.false in
    record { does = entry_written c.args.entry q c.enter.ensures; enters = enters_written c.args.entry q c.enter.ensures }
