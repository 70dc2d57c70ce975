-- Text that is ASCII is well-formed; of other text the kit's test decides.
use Rattle.std.proofs.Common.{◌∙◌}
use Rattle.std.proofs.lemmas.Str.{IsUtf8-from_ascii}
use Rattle.utf8.proofs.Library.{utf8_is, utf8_says}
use Rattle.utf8.proofs.is_utf8.Goals as goal

pub returns-then-is_ascii : goal.returns-then-is_ascii
returns-then-is_ascii c = c.if-is_ascii.true ∙ utf8_is c.args.s.now (IsUtf8-from_ascii c.args.s.now c.if-is_ascii.ensures.cases)

pub returns-else-is_ascii : goal.returns-else-is_ascii
returns-else-is_ascii c = utf8_says c.args.s.now c.is_utf8.result c.is_utf8.ensures
