use Rattle.decode.proofs.Seeking.{first_is}
use Rattle.decode.proofs.reader.SeenRows.root_element.Goals as goal

pub returns : goal.returns
returns c = first_is c.next_start_element.ensures
