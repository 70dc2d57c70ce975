use Rattle.opening.specs.Opening.{upload_of}
use Rattle.scalar.proofs.Searching.{number_some, number_none}
use Rattle.scalar.proofs.find.find_number.Goals as goal

pub returns-in-Ok : goal.returns-in-Ok
returns-in-Ok c = number_some (upload_of c.args.table) c.args.name.now c.finding_of.ensures c.in-Ok.is

pub returns-in-Err : goal.returns-in-Err
returns-in-Err c = number_none (upload_of c.args.table) c.args.name.now c.finding_of.ensures c.in-Err.is c.number.ensures
