use Rattle.scalar.proofs.Texts.{boolean_true, boolean_false, boolean_not}
use Rattle.scalar.proofs.text.boolean_of.Goals as goal

pub returns-then-eq : goal.returns-then-eq
returns-then-eq c = boolean_true c.args.text.now c.as_slice.ensures c.eq.ensures c.if-eq.true

pub returns-then-eq-2 : goal.returns-then-eq-2
returns-then-eq-2 c =
    boolean_false c.args.text.now c.as_slice.ensures c.eq.ensures
    c.as_slice-else-eq.ensures c.eq-else-eq.ensures c.if-eq.false c.if-eq-2.true

pub returns-else-eq-2 : goal.returns-else-eq-2
returns-else-eq-2 c =
    boolean_not c.args.text.now c.as_slice.ensures c.eq.ensures
    c.as_slice-else-eq.ensures c.eq-else-eq.ensures c.if-eq.false c.if-eq-2.false
