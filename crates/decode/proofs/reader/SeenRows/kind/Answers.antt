-- By the rules each row that is seen has a kind.
use Rattle.table.proofs.KindLaws.{some_kind}
use Rattle.decode.proofs.Known.{kind_seen}
use Rattle.decode.proofs.reader.SeenRows.kind.Goals as goal

pub unwrap-requires : goal.unwrap-requires
unwrap-requires c = some_kind c.kind.result (kind_seen c.args.self.now.sees c.requires) c.kind.ensures
