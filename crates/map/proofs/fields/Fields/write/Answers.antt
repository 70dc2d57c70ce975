use Rattle.map.specs.Values.{value_of}
use Rattle.map.proofs.FieldLaws.{no_key_written, no_value_written}
use Rattle.map.proofs.fields.Fields.write.Goals as goal

pub returns-in_default : goal.returns-in_default
returns-in_default c = no_value_written c.args.self.key c.in_default.is-1 c.args.out.now

pub returns-in_default-2 : goal.returns-in_default-2
returns-in_default-2 c = no_key_written (value_of c.args.self.value) c.in_default.is-0 c.args.out.now
