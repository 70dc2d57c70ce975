-- The entry's numbers are those of the definition.
use Rattle.std.proofs.Common.{◌∙◌}
use Rattle.output.proofs.Writing.{failed_put, enters_as}
use Rattle.output.proofs.Then.{does_as}
use Rattle.output.proofs.Output.write_failed.Goals as goal

pub returns : goal.returns
returns c =
    let q = failed_put c.args.member c.args.why c.keyless-entry.result (c.keyless-entry.ensures ∙ rw (c.number.ensures, c.place.ensures)) in
    record { does = does_as q c.write_entry.ensures.does; enters = enters_as q c.write_entry.ensures.enters }
