use Rattle.std.proofs.Common.{◌-◌, refl, sym, ◌∙◌, ap}
use Rattle.table.specs.declared.kinds.Kind.{Kind}
use Rattle.decode.proofs.Known.{kind_same}
use Rattle.table.proofs.Valid.{end_within}
use Rattle.decode.proofs.Views.{lenient_none, lenient_error, lenient_whole, last_seen, seen_of, sees_of, within_of, small_of, few_of}
use Rattle.decode.proofs.view.View.lenient.Goals as goal

pub returns-then-n-eq0 : goal.returns-then-n-eq0
returns-then-n-eq0 c = lenient_none c.args.table (sym c.len-n.ensures ∙ c.if-n-eq0.true) c.whole.ensures

pub invariant_of-result : goal.invariant_of-result
invariant_of-result c =
    let f = c.readable-rows.ensures.body ∙ c.ruled.ensures.body in
    let g = c.readable-rows.ensures.rows ∙ c.ruled.ensures.rows in
    let h = last_seen c.args.table c.len-n.ensures in
    record {
      seen = seen_of c.args.table f g _ h;
      sees = sees_of c.args.table f g _ h;
      within = within_of c.args.table f g _ h (end_within c.args.table.obeys);
      small = small_of c.args.table f g _ h;
      few = few_of c.args.table f g _ h;
    }

pub returns-in-Error : goal.returns-in-Error
returns-in-Error c =
    lenient_error c.args.table (λ z. c.if-n-eq0.false (c.len-n.ensures ∙ z)) (rw c.len-n.ensures at c.in-Error.ensures)
    (c.readable-rows.ensures.body ∙ c.ruled.ensures.body) (c.readable-rows.ensures.rows ∙ c.ruled.ensures.rows)
    (ap (λ x. x - 1) c.len-n.ensures) refl refl refl

pub returns : goal.returns
returns c =
    lenient_whole c.args.table (λ z. c.if-n-eq0.false (c.len-n.ensures ∙ z)) (rw c.len-n.ensures at c.kind.ensures)
    (λ z. c.in_default.not-Error (kind_same c.kind.result Kind.Error z)) c.whole-2.ensures
