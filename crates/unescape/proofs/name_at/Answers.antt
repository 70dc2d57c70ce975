-- Bytes are below 256, so two numbers made of them are equal just where the bytes are; no name needs a sixth.
use Rattle.unescape.proofs.Parse.{name_is}
use Rattle.unescape.proofs.name_at.Goals as goal

pub returns : goal.returns
returns c = name_is c.args.text.now c.args.from c.type_inv.text c.requires c.name_value.ensures
