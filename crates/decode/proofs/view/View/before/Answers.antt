use Rattle.std.proofs.Common.{refl, ◌∙◌}
use Rattle.decode.proofs.Causes.{cause_fits}
use Rattle.decode.proofs.Views.{ill_seen, position_low, view_ill, seen_of, sees_of, within_of, small_of, few_of}
use Rattle.decode.proofs.view.View.before.Goals as goal

pub overflow_cast-at : goal.overflow_cast-at
overflow_cast-at c = record {
  fits = cause_fits c.args.row c.args.cause c.args.table.obeys c.requires
      (rw (c.ruled-ruled.ensures.body, c.ruled-ruled.ensures.rows) at c.cause_place-at.ensures);
}

pub invariant_of-result : goal.invariant_of-result
invariant_of-result c =
    let f = c.readable-rows.ensures.body ∙ c.ruled-ruled.ensures.body in
    let g = c.readable-rows.ensures.rows ∙ c.ruled-ruled.ensures.rows in
    let h = ill_seen c.args.table c.requires in
    record {
      seen = seen_of c.args.table f g _ h;
      sees = sees_of c.args.table f g _ h;
      within = within_of c.args.table f g _ h (rw c.position_at-ends.ensures (position_low c.args.table.obeys c.args.row));
      small = small_of c.args.table f g _ h;
      few = few_of c.args.table f g _ h;
    }

pub returns : goal.returns
returns c =
    view_ill c.args.table c.requires
    (rw (c.ruled-ruled.ensures.body, c.ruled-ruled.ensures.rows) at c.cause_place-at.ensures) c.failure_of-failure.ensures
    c.position_at-ends.ensures
    (c.readable-rows.ensures.body ∙ c.ruled-ruled.ensures.body) (c.readable-rows.ensures.rows ∙ c.ruled-ruled.ensures.rows)
    refl refl refl refl
