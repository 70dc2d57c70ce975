use borrow.Author.Rules.{rules}
use mathlib.Core.Path.{sym, ◌∙◌}
use Rattle.scalar.proofs.Joining.{fill_start, fill_end, fill_next, fill_fits, some_next}
use Rattle.scalar.proofs.whole.fill_texts.Goals as goal

pub loop-text-init : goal.loop-text-init
loop-text-init c = fill_start c.args.element.now c.args.out.now c.requires

pub overflow_add-size : goal.overflow_add-size
overflow_add-size c =
    let s = some_next c.next_text.result (sym c.unwrap_or.ensures ∙ c.in-Some.is) in
    fill_fits c.loop-text.invariant (rw s at c.next_text.ensures) c.copy.ensures c.unwrap_or-size.ensures (search rules)

pub loop-text-preserved : goal.loop-text-preserved
loop-text-preserved c =
    let s = some_next c.next_text.result (sym c.unwrap_or.ensures ∙ c.in-Some.is) in
    fill_next c.loop-text.invariant (rw s at c.next_text.ensures) c.copy.ensures c.unwrap_or-size.ensures

pub returns : goal.returns
returns c = fill_end c.loop-text.invariant c.next_text.result c.next_text.ensures (sym c.unwrap_or.ensures ∙ c.in_default.is)
