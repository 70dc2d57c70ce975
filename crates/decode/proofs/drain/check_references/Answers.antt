use Rattle.decode.proofs.Faults.{value_plain}
use Rattle.decode.proofs.drain.check_references.Goals as goal

pub returns-then-holds : goal.returns-then-holds
returns-then-holds c =
    value_plain c.args.table.readable c.requires.in_table (rw c.requires.of_body at c.args.plain.clear) c.value_start.ensures
    c.value-value.ensures c.holds.ensures c.if-holds.true
