use Rattle.reference.specs.Entity.{xml_char}
use Rattle.lists.proofs.Tests.{tests}
use Rattle.unescape.proofs.is_xml_char.Goals as goal

pub returns-in_default : goal.returns-in_default
unfolding xml_char
returns-in_default c = search tests

pub returns-in_default-2 : goal.returns-in_default-2
unfolding xml_char
returns-in_default-2 c = search tests

pub returns-in_default-3 : goal.returns-in_default-3
unfolding xml_char
returns-in_default-3 c = search tests

pub returns-in_default-4 : goal.returns-in_default-4
unfolding xml_char
returns-in_default-4 c = search tests

pub returns-in_default-5 : goal.returns-in_default-5
unfolding xml_char
returns-in_default-5 c = search tests

pub returns-in-9 : goal.returns-in-9
unfolding xml_char
returns-in-9 c = search tests

pub returns-in-9-2 : goal.returns-in-9-2
unfolding xml_char
returns-in-9-2 c = search tests

pub returns-in-9-3 : goal.returns-in-9-3
unfolding xml_char
returns-in-9-3 c = search tests

pub returns-in-9-4 : goal.returns-in-9-4
unfolding xml_char
returns-in-9-4 c = search tests

pub returns-in-9-5 : goal.returns-in-9-5
unfolding xml_char
returns-in-9-5 c = search tests
