-- The entry's numbers are those of the definition.
use Rattle.output.proofs.Writing.{piece_put, enters_as}
use Rattle.output.proofs.Then.{does_as}
use Rattle.output.proofs.Output.write_piece.Goals as goal

pub returns : goal.returns
returns c =
    let q = piece_put c.args.member c.args.piece c.keyless-entry.result c.keyless-entry.ensures in
    record { does = does_as q c.write_entry.ensures.does; enters = enters_as q c.write_entry.ensures.enters }
