use Rattle.table.proofs.Valid.{walkable_of}
use Rattle.decode.proofs.Causes.{reference_row, reference_none}
use Rattle.decode.proofs.drain.reference_place.Goals as goal

pub returns-then-k-len : goal.returns-then-k-len
returns-then-k-len c =
    reference_row (walkable_of c.args.table.walkable) c.args.k (rw c.len.ensures at c.if-k-len.true)
    (rw (c.readable.ensures.body, c.readable.ensures.rows) at c.value_place.ensures)

pub returns-else-k-len : goal.returns-else-k-len
returns-else-k-len c = reference_none (walkable_of c.args.table.walkable) c.args.k (rw c.len.ensures at c.if-k-len.false)
