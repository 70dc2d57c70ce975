use Prim.Native.Nat.{◌*◌}
use mathlib.Core.Path.{refl}
use Rattle.table.specs.Held.{row_is}
use Rattle.element.specs.Rows.{eight_numbers}
use Rattle.element.proofs.Numbers.{row_put}
use Rattle.element.proofs.put_row.Goals as goal

pub returns : goal.returns
returns c = row_put c.args.out.now (eight_numbers (row_is c.args.row)) (c.args.i * 8) refl c.requires c.copy_from_slice.ensures.after
