use Rattle.std.proofs.Common.{refl, ◌∙◌}
use Rattle.table.proofs.Valid.{end_within}
use Rattle.decode.proofs.Views.{whole_is, whole_seen, seen_of, sees_of, within_of, small_of, few_of}
use Rattle.decode.proofs.view.View.whole.Goals as goal

pub invariant_of-result : goal.invariant_of-result
invariant_of-result c =
    let f = c.readable-rows.ensures.body ∙ c.ruled.ensures.body in
    let g = c.readable-rows.ensures.rows ∙ c.ruled.ensures.rows in
    let h = whole_seen c.args.table c.len.ensures in
    record {
      seen = seen_of c.args.table f g _ h;
      sees = sees_of c.args.table f g _ h;
      within = within_of c.args.table f g _ h (end_within c.args.table.obeys);
      small = small_of c.args.table f g _ h;
      few = few_of c.args.table f g _ h;
    }

pub returns : goal.returns
returns c =
    whole_is c.args.table (c.readable-rows.ensures.body ∙ c.ruled.ensures.body) (c.readable-rows.ensures.rows ∙ c.ruled.ensures.rows)
    c.len.ensures refl refl refl
