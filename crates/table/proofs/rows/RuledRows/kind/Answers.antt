-- By the rules each row has a kind.
use Rattle.table.proofs.Valid.{walkable_of, kind_known}
use Rattle.table.proofs.KindLaws.{some_kind}
use Rattle.table.proofs.rows.RuledRows.kind.Goals as goal

pub unwrap-requires : goal.unwrap-requires
unwrap-requires c =
    some_kind c.kind.result
    (rw c.readable.ensures.rows (kind_known (walkable_of c.args.self.walkable) c.requires)) c.kind.ensures
