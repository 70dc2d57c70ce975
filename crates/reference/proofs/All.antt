-- One name that unfolds every definition, for an answer that computes: `unfolding computed`.
use Rattle.lists.specs.Bytes.{sameb}
use Rattle.lists.specs.Overwrite.{overwritten}
use Rattle.utf8.specs.Encode.{scalar, encode}
use Rattle.reference.specs.Number.{digit, numeral, limited, digits, plus_digits}
use Rattle.reference.specs.Entity.{named, numeric, only, first, xml_char, reader, allowed, char_of}
use Rattle.reference.specs.Text.{span, sized, reference, before, decode, references, verdict, validated, unescaped, answer, filled}

unfoldable pub computed : Unit {0}
unfolding sameb overwritten scalar encode digit numeral limited digits plus_digits named numeric only first xml_char reader allowed char_of
    span sized reference before decode references verdict validated unescaped answer filled
computed = tt {0}
