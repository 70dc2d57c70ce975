-- 01, "Where a hasty port strays", computed by the definitions; the tables and the answers are the Rust's. (The attribute that does not
-- unescape is among the bodies at the edges; the root and list items stand with the answers.)
use mathlib.Core.Path.{refl}
use mathlib.Core.List.{[], ◌∷◌, ◌++◌}
use Rattle.readings.specs.Shape.{structure, map}
use Rattle.readings.proofs.Examples.Asking.{reading, ask, answer, case, Answered, plain, lenient, strict, enough, named, keyed}
use Rattle.readings.proofs.Examples.Tables.{two, prefixed_one, attribute_type, attribute_child, entry1_fields, entry1_nested}
use Rattle.readings.proofs.All.{computed}

pub strays : Answered ask (
    -- "Members and map keys compare the local name exactly": `a` finds `p:a`, `p:a` does not
    case (reading structure "<r><p:a>1</p:a></r>" prefixed_one 19 (plain (2 ∷ 2 ∷ named "p:a" ++ (2 ∷ named "a"))) lenient 0 enough)
    (answer 0 1 (1 ∷ 1 ∷ 0 ∷ 0 ∷ 0 ∷ 1 ∷ []) "1")
    -- "attributes, the root and list items use `Name::matches`, so `type` finds `xsi:type`"
    ∷ case (reading structure "<r xsi:type=\"1\"/>" attribute_type 17 (plain (1 ∷ 6 ∷ named "type")) lenient 0 enough)
    (answer 0 1 (1 ∷ 0 ∷ 0 ∷ 0 ∷ 0 ∷ 1 ∷ []) "1")
    -- "Leaving attribute members out when a child element is resolved: they are candidates too."
    ∷ case (reading structure "<r a=\"1\"><a>2</a></r>" attribute_child 21
    (plain (2 ∷ 6 ∷ named "a" ++ (2 ∷ named "a"))) lenient 0 enough)
    (answer 0 2 (1 ∷ 0 ∷ 0 ∷ 0 ∷ 0 ∷ 1 ∷ 1 ∷ 0 ∷ 0 ∷ 0 ∷ 1 ∷ 1 ∷ []) "12")
    -- "the first key or value wins (the last does)"
    ∷ case (reading map "<m><e><k>1</k><v>2</v><v>3</v><k>4</k></e></m>" entry1_fields 46 keyed lenient 0 enough)
    (answer 0 1 (1 ∷ 0 ∷ 0 ∷ 1 ∷ 1 ∷ 1 ∷ []) "43")
    -- "a child named as both is a value (it is a key)": as a key it has an element where text is wanted; as a value it would be a piece
    ∷ case (reading map "<m><e><k><w/></k></e></m>" entry1_nested 25 (30 ∷ named "k" ++ named "k") lenient 0 enough) (answer 6 0 [] "")
    -- "Handing out groups before the strict end test."
    ∷ case (reading structure "<r><a>1</a><b>2</b></x>" two 23 (plain (1 ∷ 26 ∷ named "a")) strict 0 enough) (answer 9 0 [] "")
    ∷ [])
unfolding computed
strays = refl
