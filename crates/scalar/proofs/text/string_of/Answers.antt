use Rattle.scalar.proofs.Texts.{string_put, string_none}
use Rattle.scalar.proofs.text.string_of.Goals as goal

pub returns-then-text-out : goal.returns-then-text-out
returns-then-text-out c = string_put c.args.text.now c.if-text-out.true c.put.ensures

pub returns-else-text-out : goal.returns-else-text-out
returns-else-text-out c = string_none c.args.text.now c.if-text-out.false
