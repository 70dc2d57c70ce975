-- No reading writes more than there is room for, on any input: "An entry and its text are written only if both fit".
use mathlib.Core.Path.{subst⁻¹}
use Rattle.readings.specs.Call.{Upload, Call}
use Rattle.readings.specs.Output.{Room, nothing, Reading, output}
use Rattle.readings.specs.Shape.{Shape, plan_of, read}
use Rattle.readings.proofs.Plans.Perform.{Within, nothing_within, perform_ended, ended_within}
use Rattle.readings.proofs.Plans.Readings.{read_is}

pub reading_within : (shape : Shape) (u : Upload) (call : Call) (room : Room)
    → Within room (output (read shape u call room))
reading_within shape u call room =
    subst⁻¹ (λ (x : Reading). Within room (output x)) (read_is shape u call room)
    (ended_within (perform_ended room (plan_of shape u call) nothing (nothing_within room)))
