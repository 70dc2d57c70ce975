use Rattle.std.proofs.Common.{refl, sym, ◌∙◌}
use Rattle.table.proofs.Valid.{walkable_of, walks_readable}
use Rattle.decode.proofs.Faults.{plain_none, value_start_in}
use Rattle.decode.proofs.Walking.{walk_start, row_in, row_placed, row_room, walk_fault, walk_next, walk_passes, walk_unclosed}
use Rattle.decode.proofs.drain.walk.Goals as goal

pub loop-k-init : goal.loop-k-init
loop-k-init c = record { walks = walk_start _ (walkable_of c.args.table.walkable); of_body = refl; clear = plain_none _ }

pub invariant_of-plain : goal.invariant_of-plain
invariant_of-plain c = record { clear = c.loop-k.invariant.clear }

pub at-plain-requires : goal.at-plain-requires
at-plain-requires c =
    rw c.loop-k.invariant.of_body (value_start_in (walks_readable c.args.table.walkable)
    (row_in c.loop-k.invariant.walks (rw c.len-n.ensures at c.loop-k-test.true)) (rw c.readable-rows.ensures.rows at c.value_start.ensures))

pub row_fault-requires-clause-placed : goal.row_fault-requires-clause-placed
row_fault-requires-clause-placed c = rw c.top.ensures (row_placed c.loop-k.invariant.walks (rw c.len-n.ensures at c.loop-k-test.true))

pub returns-in-Err : goal.returns-in-Err
returns-in-Err c =
    walk_fault c.loop-k.invariant.walks (rw c.len-n.ensures at c.loop-k-test.true) c.loop-k.open.size
    (rw c.top.ensures at c.row_fault.ensures) c.in-Err.is

pub enter-requires : goal.enter-requires
enter-requires c = λ z. row_room c.loop-k.invariant.walks (rw c.len-n.ensures at c.loop-k-test.true) (sym c.kind.ensures ∙ z)

pub loop-k-preserved : goal.loop-k-preserved
loop-k-preserved c =
    record {
      walks =
          walk_next c.loop-k.invariant.walks (rw c.len-n.ensures at c.loop-k-test.true) c.loop-k.open.size
          (rw c.top.ensures at c.row_fault.ensures) c.in_default.is
          (rw c.kind.ensures at c.enter.ensures);
      of_body = c.at-plain.ensures ∙ c.loop-k.invariant.of_body;
      clear = c.at-plain.result.clear;
    }

pub returns-then-open-eq0 : goal.returns-then-open-eq0
returns-then-open-eq0 c =
    walk_passes (walkable_of c.args.table.walkable) c.loop-k.invariant.walks (rw c.len-n.ensures at c.loop-k-test.false) c.if-open-eq0.true

pub returns-else-open-eq0 : goal.returns-else-open-eq0
returns-else-open-eq0 c =
    rw c.len-n.ensures
    (walk_unclosed (walkable_of c.args.table.walkable) c.loop-k.invariant.walks (rw c.len-n.ensures at c.loop-k-test.false)
    c.if-open-eq0.false)
