-- The drain's three verdicts, each told by its number; row and cause are 0 except for 9, where they are the drain's, and the place is that
-- of the cause.
use Rattle.std.proofs.Common.{refl}
use Rattle.decode.proofs.Walking.{drain_table}
use Rattle.decode.proofs.Causes.{place_passes, place_table, place_ill}
use Rattle.falzheod.proofs.Numbers.{drained_as, call_passes, call_table, call_ill_formed}
use Rattle.falzheod.proofs.falzheod_drain.Goals as goal

pub returns-in_default : goal.returns-in_default
returns-in_default c =
    let q = drain_table c.args.body.now c.args.rows.now c.args.end c.in_default.ensures in
    record { drained = call_table _ q refl c.number.ensures; place = place_table c.args.body.now c.args.rows.now c.args.end q refl }

pub returns-in-Ok : goal.returns-in-Ok
returns-in-Ok c =
    let q = drained_as c.in-Some.valid c.in-Some.ensures
    (rw (c.ruled-table.ensures.body, c.ruled-table.ensures.rows) at c.walk.ensures) in
    record { drained = call_passes _ q c.in-Ok.is; place = place_passes c.args.body.now c.args.rows.now c.args.end q c.in-Ok.is }

pub returns-in-Err-Table : goal.returns-in-Err-Table
returns-in-Err-Table c =
    let q = drained_as c.in-Some.valid c.in-Some.ensures
    (rw (c.ruled-table.ensures.body, c.ruled-table.ensures.rows) at c.walk.ensures) in
    record {
      drained = call_table _ q (rw c.in-Err-Table.field-0-is at c.in-Err-Table.is) c.number-in-Err-Table.ensures;
      place = place_table c.args.body.now c.args.rows.now c.args.end q (rw c.in-Err-Table.field-0-is at c.in-Err-Table.is);
    }

pub returns-in-Err-IllFormed : goal.returns-in-Err-IllFormed
returns-in-Err-IllFormed c =
    let q = drained_as c.in-Some.valid c.in-Some.ensures
    (rw (c.ruled-table.ensures.body, c.ruled-table.ensures.rows) at c.walk.ensures) in
    let e = rw c.in-Err-IllFormed.field-0-is at c.in-Err-IllFormed.is in
    let b = c.ruled-table.ensures in
    let p = rw (b.body, b.rows, c.in-Some.ensures.0, c.in-Some.ensures.1) at c.cause_place.ensures in
    record {
      drained = call_ill_formed _ q e c.cause_number.ensures c.number-in-Err-IllFormed.ensures;
      place = place_ill c.args.body.now c.args.rows.now c.args.end q e p;
    }
