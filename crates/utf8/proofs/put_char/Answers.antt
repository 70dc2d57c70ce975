-- By the four rows of the table of encodings; each number fits a byte.
use Rattle.utf8.proofs.Store.{put_laws}
use Rattle.utf8.proofs.put_char.Goals as goal

pub returns-in-0-to-127 : goal.returns-in-0-to-127
returns-in-0-to-127 c = search put_laws

pub returns-in-128-to-2047 : goal.returns-in-128-to-2047
returns-in-128-to-2047 c = search put_laws

pub returns-in-2048-to-65535 : goal.returns-in-2048-to-65535
returns-in-2048-to-65535 c = search put_laws

pub returns-in_default : goal.returns-in_default
returns-in_default c = search put_laws
