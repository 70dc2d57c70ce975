use Rattle.std.proofs.Common.{arith}
use Rattle.decode.proofs.Causes.{place_fits}
use Rattle.decode.proofs.drain.value_place.Goals as goal

pub overflow_add-result : goal.overflow_add-result
overflow_add-result c =
    record {
      fits = place_fits c.args.table.body.now c.args.table.rows.now c.args.k c.value_start-from.ensures c.value.ensures
          c.in-Err.ensures c.args.table.readable c.requires (omega (arith, c.well_formed));
    }
