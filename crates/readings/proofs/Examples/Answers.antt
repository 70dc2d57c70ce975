-- What structure readings answer, in numbers and bytes. The tables and the answers are the Rust's, but where a case says that there is no
-- Rust reference.
use Prim.Native.Nat.{ℕ}
use Prim.Native.String.{String}
use mathlib.Core.Path.{◌≡◌, refl}
use mathlib.Core.Bool.{Bool, true, false}
use mathlib.Core.List.{List, [], ◌∷◌, ◌++◌}
use mathlib.Core.List as list
use mathlib.Core.Option.{Option, none, some}
use Rattle.lists.specs.Bytes.{ascii}
use Rattle.table.specs.Row.{rows_of, toks_of}
use Rattle.document.specs.Scope.{Child, root_of, children_of}
use Rattle.sheet.specs.Sheet.{Structure, structure_of}
use Rattle.readings.specs.Structure.{in_group}
use Rattle.readings.specs.Shape.{structure}
use Rattle.readings.proofs.Examples.Asking.{reading, ask, answer, case, Answered, plain, settings, lenient, strict, root_names, room}
use Rattle.readings.proofs.Examples.Asking.{enough, named, scalar_a, scalars_ab, unwrapped_a}
use Rattle.readings.proofs.Examples.Tables.{empty, bare, one, two, four, five_empty, nested, nested_text, nested_empty, two_unclosed}
use Rattle.readings.proofs.Examples.Tables.{behind_comment, comment, prefixed, prefixed_one, prefixed_end, attribute}
use Rattle.readings.proofs.Examples.Tables.{attribute_empty, attribute_child, attributes_two, attributes_prefixed, attribute_second}
use Rattle.readings.proofs.Examples.Tables.{one_text4, element_text, second_error, blank}
use Rattle.readings.proofs.All.{computed}

-- "Structure. 1, 2, 3, 4, 5": each of these bodies gives cause for the next number too.
pub order_of_refusals : Answered ask (
    -- a table whose length does not divide by 8 (no Rust reference), with a broken sheet
    case (reading structure "<r/>" (1 ∷ []) 4 (16 ∷ []) (settings 128 true true true) 128 enough) (answer 1 0 [] "")
    -- a final position behind the body's end (no Rust reference)
    ∷ case (reading structure "<r/>" empty 5 (plain (0 ∷ [])) lenient 0 enough) (answer 1 0 [] "")
    -- a broken sheet, at the maximum depth
    ∷ case (reading structure "<!--c-->" comment 8 (16 ∷ []) (settings 128 true true true) 128 enough) (answer 2 0 [] "")
    -- the maximum depth, without a root: "128 gives 3"
    ∷ case (reading structure "<!--c-->" comment 8 (plain (0 ∷ [])) (settings 128 true true true) 128 enough) (answer 3 0 [] "")
    -- "Depth 127 of 128 is entered"
    ∷ case (reading structure "<!--c-->" comment 8 (plain (0 ∷ [])) (settings 128 true true true) 127 enough) (answer 4 0 [] "")
    -- and below any other maximum: 1 of 2, 2 of 2
    ∷ case (reading structure "<r/>" empty 4 (plain (0 ∷ [])) (settings 2 false false false) 1 enough) (answer 0 0 [] "")
    ∷ case (reading structure "<r/>" empty 4 (plain (0 ∷ [])) (settings 2 false false false) 2 enough) (answer 3 0 [] "")
    -- no root, where the root name is asked
    ∷ case (reading structure "<!--c-->" comment 8 (plain (0 ∷ [])) (settings 128 true true false) 0 enough) (answer 4 0 [] "")
    -- the root name, in an ill-formed body
    ∷ case (reading structure "<r></x>" bare 7 (plain (0 ∷ [])) (settings 128 true true false) 0 enough) (answer 5 0 [] "")
    -- ill-formed
    ∷ case (reading structure "<s></x>" bare 7 (plain (0 ∷ [])) (settings 128 true true false) 0 enough) (answer 9 0 [] "")
    -- an attribute of the root that does not unescape: "4 no root (`root_element` fails)"
    ∷ case (reading structure "<r x=\"&lt \"/>" attribute 13 (plain (0 ∷ [])) lenient 0 enough) (answer 4 0 [] "")
    ∷ [])
unfolding computed
order_of_refusals = refl

-- the root's name: XML name, original name, member name, shape name; by `Name::matches`; asked "when its flag stands and shape depth is 0"
pub root_names_lem : Answered ask (
    -- all four: the XML name
    case (reading structure "<x/>" empty 4 (7 ∷ named "x" ++ (named "o" ++ (named "m" ++ (named "s" ++ (0 ∷ []))))) root_names 0 enough)
    (answer 0 0 [] "")
    ∷ case (reading structure "<o/>" empty 4
    (7 ∷ named "x" ++ (named "o" ++ (named "m" ++ (named "s" ++ (0 ∷ []))))) root_names 0 enough)
    (answer 5 0 [] "")
    -- without XML name: the original name
    ∷ case (reading structure "<o/>" empty 4 (6 ∷ named "o" ++ (named "m" ++ (named "s" ++ (0 ∷ [])))) root_names 0 enough)
    (answer 0 0 [] "")
    ∷ case (reading structure "<m/>" empty 4 (6 ∷ named "o" ++ (named "m" ++ (named "s" ++ (0 ∷ [])))) root_names 0 enough)
    (answer 5 0 [] "")
    -- member name and shape name
    ∷ case (reading structure "<m/>" empty 4 (4 ∷ named "m" ++ (named "s" ++ (0 ∷ []))) root_names 0 enough) (answer 0 0 [] "")
    ∷ case (reading structure "<s/>" empty 4 (4 ∷ named "m" ++ (named "s" ++ (0 ∷ []))) root_names 0 enough) (answer 5 0 [] "")
    -- the shape name alone
    ∷ case (reading structure "<s/>" empty 4 (plain (0 ∷ [])) root_names 0 enough) (answer 0 0 [] "")
    ∷ case (reading structure "<r/>" empty 4 (plain (0 ∷ [])) root_names 0 enough) (answer 5 0 [] "")
    -- "attributes, the root and list items use `Name::matches`": `s` finds `p:s`; `p:x` finds `p:x`, and not `q:x`
    ∷ case (reading structure "<p:s/>" prefixed 6 (plain (0 ∷ [])) root_names 0 enough) (answer 0 0 [] "")
    ∷ case (reading structure "<p:x/>" prefixed 6 (1 ∷ named "p:x" ++ (named "s" ++ (0 ∷ []))) root_names 0 enough) (answer 0 0 [] "")
    ∷ case (reading structure "<q:x/>" prefixed 6 (1 ∷ named "p:x" ++ (named "s" ++ (0 ∷ []))) root_names 0 enough) (answer 5 0 [] "")
    -- not asked at shape depth 1, nor without the flag
    ∷ case (reading structure "<r/>" empty 4 (plain (0 ∷ [])) root_names 1 enough) (answer 0 0 [] "")
    ∷ case (reading structure "<r/>" empty 4 (plain (0 ∷ [])) strict 0 enough) (answer 0 0 [] "")
    ∷ [])
unfolding computed
root_names_lem = refl

-- "attribute members in sheet order"
pub attributes : Answered ask (
    -- in sheet order, not in body order; an absent one has no entry
    case (reading structure "<r a=\"1\" b=\"2\"/>" attributes_two 16
    (plain (3 ∷ 6 ∷ named "b" ++ (6 ∷ named "c" ++ (6 ∷ named "a")))) lenient 0 enough)
    (answer 0 2 (1 ∷ 0 ∷ 0 ∷ 0 ∷ 0 ∷ 1 ∷ 1 ∷ 2 ∷ 0 ∷ 0 ∷ 1 ∷ 1 ∷ []) "21")
    -- `p:x` finds the attribute with that prefix; `x` the first with that local name
    ∷ case (reading structure "<r q:x=\"1\" p:x=\"2\"/>" attributes_prefixed 20
    (plain (2 ∷ 6 ∷ named "p:x" ++ (6 ∷ named "x"))) lenient 0 enough)
    (answer 0 2 (1 ∷ 0 ∷ 0 ∷ 0 ∷ 0 ∷ 1 ∷ 1 ∷ 1 ∷ 0 ∷ 0 ∷ 1 ∷ 1 ∷ []) "21")
    -- "The XML name goes before the member name"
    ∷ case (reading structure "<r a=\"1\" b=\"2\"/>" attributes_two 16 (plain (1 ∷ 7 ∷ named "b" ++ named "a")) lenient 0 enough)
    (answer 0 1 (1 ∷ 0 ∷ 0 ∷ 0 ∷ 0 ∷ 1 ∷ []) "2")
    -- unescaped; and a value that is empty is a text
    ∷ case (reading structure "<r x=\"&lt;\"/>" attribute 13 (plain (1 ∷ 6 ∷ named "x")) lenient 0 enough)
    (answer 0 1 (1 ∷ 0 ∷ 0 ∷ 0 ∷ 0 ∷ 1 ∷ []) "<")
    ∷ case (reading structure "<r x=\"\"/>" attribute_empty 9 (plain (1 ∷ 6 ∷ named "x")) lenient 0 enough)
    (answer 0 1 (1 ∷ 0 ∷ 0 ∷ 0 ∷ 0 ∷ 0 ∷ []) "")
    -- a member that is no attribute member
    ∷ case (reading structure "<r a=\"1\" b=\"2\"/>" attributes_two 16 (plain (2 ∷ 2 ∷ named "a" ++ (6 ∷ named "b"))) lenient 0 enough)
    (answer 0 1 (1 ∷ 1 ∷ 0 ∷ 0 ∷ 0 ∷ 1 ∷ []) "2")
    -- "an attribute member with neither asks for the empty name": none in a tokenizer's table; a lent one may have it (no Rust reference)
    ∷ case (reading structure "<r a=\"1\" b=\"2\"/>" attributes_two 16 (plain (1 ∷ 4 ∷ [])) lenient 0 enough) (answer 0 0 [] "")
    ∷ case (reading structure "<r x=\"\"/>" blank 9 (plain (1 ∷ 4 ∷ [])) lenient 0 enough) (answer 0 1 (1 ∷ 0 ∷ 0 ∷ 0 ∷ 0 ∷ 0 ∷ []) "")
    ∷ [])
unfolding computed
attributes = refl

-- "then children in body order"
pub children : Answered ask (
    -- texts, pieces and a flattened scalar, which is a text; a child of no member has no entry
    case (reading structure "<r><a>1</a><b>2</b><c>3</c><d>4</d></r>" four 39
    (plain (2 ∷ 10 ∷ named "c" ++ (18 ∷ named "b"))) lenient 0 enough)
    (answer 0 2 (2 ∷ 1 ∷ 0 ∷ 0 ∷ 11 ∷ 8 ∷ 1 ∷ 0 ∷ 0 ∷ 0 ∷ 0 ∷ 1 ∷ []) "3")
    -- "The XML name goes before the member name"; the first member of that name is meant; a member without a name has no child
    ∷ case (reading structure "<r><a>1</a><b>2</b></r>" two 23
    (plain (3 ∷ 0 ∷ 3 ∷ named "b" ++ (named "a" ++ (18 ∷ named "b")))) lenient 0 enough)
    (answer 0 1 (1 ∷ 1 ∷ 0 ∷ 0 ∷ 0 ∷ 1 ∷ []) "2")
    -- attribute members are candidates: a text by its attribute, a piece by its child
    ∷ case (reading structure "<r a=\"1\"><a>2</a></r>" attribute_child 21 (plain (1 ∷ 22 ∷ named "a")) lenient 0 enough)
    (answer 0 2 (1 ∷ 0 ∷ 0 ∷ 0 ∷ 0 ∷ 1 ∷ 2 ∷ 0 ∷ 0 ∷ 0 ∷ 9 ∷ 8 ∷ []) "1")
    -- children alone, not what is in them
    ∷ case (reading structure "<r><a><b>1</b></a></r>" nested_text 22 (plain (2 ∷ 2 ∷ named "b" ++ (18 ∷ named "a"))) lenient 0 enough)
    (answer 0 1 (2 ∷ 1 ∷ 0 ∷ 0 ∷ 3 ∷ 15 ∷ []) "")
    -- "" where there is no text: what follows `/>` is not in it
    ∷ case (reading structure "<r><a/>1</r>" element_text 12 scalar_a lenient 0 enough) (answer 0 1 (1 ∷ 0 ∷ 0 ∷ 0 ∷ 0 ∷ 0 ∷ []) "")
    ∷ case (reading structure "<r><a></a></r>" one 14 scalar_a lenient 0 enough) (answer 0 1 (1 ∷ 0 ∷ 0 ∷ 0 ∷ 0 ∷ 0 ∷ []) "")
    -- unescaped
    ∷ case (reading structure "<r><a>&lt;</a></r>" one_text4 18 scalar_a lenient 0 enough) (answer 0 1 (1 ∷ 0 ∷ 0 ∷ 0 ∷ 0 ∷ 1 ∷ []) "<")
    -- a root that ends in `/>` has no children
    ∷ case (reading structure "<r/>" empty 4 scalar_a lenient 0 enough) (answer 0 0 [] "")
    ∷ [])
unfolding computed
children = refl

-- "A scalar that fails is an entry of kind 4"; "In a text under strict reading a mismatched or unclosed tag gives 9"
pub failed_texts : Answered ask (
    -- 6
    case (reading structure "<r><a>1</a><b><c/></b></r>" nested_empty 26 scalars_ab lenient 0 enough)
    (answer 0 2 (1 ∷ 0 ∷ 0 ∷ 0 ∷ 0 ∷ 1 ∷ 4 ∷ 1 ∷ 0 ∷ 0 ∷ 6 ∷ 0 ∷ []) "1")
    -- 7, with its place as length, and the next child is read; strict it is the last that is met, and the refusal keeps it
    ∷ case (reading structure "<r><a>&</a><b>2</b></r>" two 23 scalars_ab lenient 0 enough)
    (answer 0 2 (4 ∷ 0 ∷ 0 ∷ 0 ∷ 7 ∷ 6 ∷ 1 ∷ 1 ∷ 0 ∷ 0 ∷ 0 ∷ 1 ∷ []) "2")
    ∷ case (reading structure "<r><a>&</a><b>2</b></r>" two 23 scalars_ab strict 0 enough) (answer 9 1 (4 ∷ 0 ∷ 0 ∷ 0 ∷ 7 ∷ 6 ∷ []) "")
    -- 8, lenient and strict
    ∷ case (reading structure "<r><a>1</a><b><" second_error 15 scalars_ab lenient 0 enough)
    (answer 0 2 (1 ∷ 0 ∷ 0 ∷ 0 ∷ 0 ∷ 1 ∷ 4 ∷ 1 ∷ 0 ∷ 0 ∷ 8 ∷ 0 ∷ []) "1")
    ∷ case (reading structure "<r><a>1</a><b><" second_error 15 scalars_ab strict 0 enough)
    (answer 9 2 (1 ∷ 0 ∷ 0 ∷ 0 ∷ 0 ∷ 1 ∷ 4 ∷ 1 ∷ 0 ∷ 0 ∷ 8 ∷ 0 ∷ []) "1")
    -- 9 at a mismatched tag, strict; lenient there is an empty text
    ∷ case (reading structure "<r><a></b></r>" one 14 scalar_a strict 0 enough) (answer 9 1 (4 ∷ 0 ∷ 0 ∷ 0 ∷ 9 ∷ 0 ∷ []) "")
    ∷ case (reading structure "<r><a></b></r>" one 14 scalar_a lenient 0 enough) (answer 0 1 (1 ∷ 0 ∷ 0 ∷ 0 ∷ 0 ∷ 0 ∷ []) "")
    -- 9 at an unclosed tag
    ∷ case (reading structure "<r><a>" two_unclosed 6 scalar_a strict 0 enough) (answer 9 1 (4 ∷ 0 ∷ 0 ∷ 0 ∷ 9 ∷ 0 ∷ []) "")
    ∷ case (reading structure "<r><a>" two_unclosed 6 scalar_a lenient 0 enough) (answer 0 1 (1 ∷ 0 ∷ 0 ∷ 0 ∷ 0 ∷ 0 ∷ []) "")
    ∷ [])
unfolding computed
failed_texts = refl

-- "9 after the children": a refusal keeps what was written; "strict when validate_document stands and shape depth on the call is 0"
pub nine_after_the_children : Answered ask (
    case (reading structure "<r><a>1</a><b>2</b></x>" two 23 (plain (2 ∷ 18 ∷ named "a" ++ (2 ∷ named "b"))) strict 0 enough)
    (answer 9 2 (2 ∷ 0 ∷ 0 ∷ 0 ∷ 3 ∷ 8 ∷ 1 ∷ 1 ∷ 0 ∷ 0 ∷ 0 ∷ 1 ∷ []) "2")
    ∷ case (reading structure "<r><a>1</a><b>2</b></x>" two 23 (plain (2 ∷ 18 ∷ named "a" ++ (2 ∷ named "b"))) strict 1 enough)
    (answer 0 2 (2 ∷ 0 ∷ 0 ∷ 0 ∷ 3 ∷ 8 ∷ 1 ∷ 1 ∷ 0 ∷ 0 ∷ 0 ∷ 1 ∷ []) "2")
    ∷ case (reading structure "<r><a>1</a><b>2</b></x>" two 23 (plain (2 ∷ 18 ∷ named "a" ++ (2 ∷ named "b"))) lenient 0 enough)
    (answer 0 2 (2 ∷ 0 ∷ 0 ∷ 0 ∷ 3 ∷ 8 ∷ 1 ∷ 1 ∷ 0 ∷ 0 ∷ 0 ∷ 1 ∷ []) "2")
    -- a bad reference in a child that no member asks for
    ∷ case (reading structure "<r><a>1</a><b>&</b></r>" two 23 scalar_a strict 0 enough) (answer 9 1 (1 ∷ 0 ∷ 0 ∷ 0 ∷ 0 ∷ 1 ∷ []) "1")
    -- a piece whose rows run out in a strict reading ends at the position of the row that failed
    ∷ case (reading structure "<r><a></b></r>" one 14 (plain (1 ∷ 18 ∷ named "a")) strict 0 enough)
    (answer 9 1 (2 ∷ 0 ∷ 0 ∷ 0 ∷ 3 ∷ 7 ∷ []) "")
    -- in a lenient one at the final position
    ∷ case (reading structure "<r><a></b></r>" one 14 (plain (1 ∷ 18 ∷ named "a")) lenient 0 enough)
    (answer 0 1 (2 ∷ 0 ∷ 0 ∷ 0 ∷ 3 ∷ 11 ∷ []) "")
    ∷ [])
unfolding computed
nine_after_the_children = refl

-- the ends of levels and scopes in lenient readings
pub levels : Answered ask (
    -- "Lenient `<r><a x=\"&zz;\">1</a><b>2</b></r>`: no entry at all": a bad attribute ends the level
    case (reading structure "<r><a>1</a><b x=\"&lt\"/></r>" attribute_second 27 scalars_ab lenient 0 enough)
    (answer 0 1 (1 ∷ 0 ∷ 0 ∷ 0 ∷ 0 ∷ 1 ∷ []) "1")
    -- an end tag of another name does not end a scope, so `b` is not met; the tag of its own name and depth ends it
    ∷ case (reading structure "<r><a>1</x><b>2</b></r>" two 23 (plain (2 ∷ 18 ∷ named "a" ++ (2 ∷ named "b"))) lenient 0 enough)
    (answer 0 1 (2 ∷ 0 ∷ 0 ∷ 0 ∷ 3 ∷ 20 ∷ []) "")
    ∷ case (reading structure "<r><a><a></a></a></r>" nested 21 (plain (1 ∷ 18 ∷ named "a")) lenient 0 enough)
    (answer 0 1 (2 ∷ 0 ∷ 0 ∷ 0 ∷ 3 ∷ 14 ∷ []) "")
    -- an end tag of the prefix `p` is another name
    ∷ case (reading structure "<r><a>1</p:a></a></r>" prefixed_end 21 (plain (1 ∷ 18 ∷ named "a")) lenient 0 enough)
    (answer 0 1 (2 ∷ 0 ∷ 0 ∷ 0 ∷ 3 ∷ 18 ∷ []) "")
    ∷ [])
unfolding computed
levels = refl

-- "Flattened groups are to come by rising member index" (change request 2)
pub groups : Answered ask (
    -- two groups of two siblings
    case (reading structure "<r><a>1</a><b>2</b><a>3</a><b>4</b></r>" four 39
    (plain (2 ∷ 26 ∷ named "a" ++ (26 ∷ named "b"))) lenient 0 (room 2 66))
    (answer 0 2 (3 ∷ 0 ∷ 0 ∷ 0 ∷ 0 ∷ 33 ∷ 3 ∷ 1 ∷ 0 ∷ 0 ∷ 33 ∷ 33 ∷ [])
    "<__flat><a>1</a><a>3</a></__flat><__flat><b>2</b><b>4</b></__flat>")
    -- by the sheet, not by the body
    ∷ case (reading structure "<r><a>1</a><b>2</b><a>3</a><b>4</b></r>" four 39
    (plain (2 ∷ 26 ∷ named "b" ++ (26 ∷ named "a"))) lenient 0 (room 2 66))
    (answer 0 2 (3 ∷ 0 ∷ 0 ∷ 0 ∷ 0 ∷ 33 ∷ 3 ∷ 1 ∷ 0 ∷ 0 ∷ 33 ∷ 33 ∷ [])
    "<__flat><b>2</b><b>4</b></__flat><__flat><a>1</a><a>3</a></__flat>")
    -- a member without siblings has none
    ∷ case (reading structure "<r><a>1</a><b>2</b><a>3</a><b>4</b></r>" four 39
    (plain (3 ∷ 26 ∷ named "b" ++ (26 ∷ named "c" ++ (26 ∷ named "a")))) lenient 0 (room 2 66))
    (answer 0 2 (3 ∷ 0 ∷ 0 ∷ 0 ∷ 0 ∷ 33 ∷ 3 ∷ 2 ∷ 0 ∷ 0 ∷ 33 ∷ 33 ∷ [])
    "<__flat><b>2</b><b>4</b></__flat><__flat><a>1</a><a>3</a></__flat>")
    -- late in the sheet, and of a late child
    ∷ case (reading structure "<r><a/><a/><a/><a/><b/></r>" five_empty 27
    (plain (6 ∷ 26 ∷ named "a" ++ (2 ∷ named "c" ++ (2 ∷ named "d" ++ (2 ∷ named "e" ++ (2 ∷ named "f" ++ (26 ∷ named "b"))))))) lenient 0
    (room 2 54))
    (answer 0 2 (3 ∷ 0 ∷ 0 ∷ 0 ∷ 0 ∷ 33 ∷ 3 ∷ 5 ∷ 0 ∷ 0 ∷ 33 ∷ 21 ∷ []) "<__flat><a/><a/><a/><a/></__flat><__flat><b/></__flat>")
    -- behind the texts; a flattened scalar is no group
    ∷ case (reading structure "<r><a>1</a><b>2</b><a>3</a><b>4</b></r>" four 39
    (plain (2 ∷ 26 ∷ named "a" ++ (10 ∷ named "b"))) lenient 0 enough)
    (answer 0 3 (1 ∷ 1 ∷ 0 ∷ 0 ∷ 0 ∷ 1 ∷ 1 ∷ 1 ∷ 0 ∷ 0 ∷ 1 ∷ 1 ∷ 3 ∷ 0 ∷ 0 ∷ 0 ∷ 2 ∷ 33 ∷ []) "24<__flat><a>1</a><a>3</a></__flat>")
    -- a sibling by its local name
    ∷ case (reading structure "<r><p:a>1</p:a></r>" prefixed_one 19 (plain (1 ∷ 26 ∷ named "a")) lenient 0 enough)
    (answer 0 1 (3 ∷ 0 ∷ 0 ∷ 0 ∷ 0 ∷ 29 ∷ []) "<__flat><p:a>1</p:a></__flat>")
    -- one whose rows run out goes to the final position
    ∷ case (reading structure "<r><a>1</a><a>2</x></r>" two 23 (plain (1 ∷ 26 ∷ named "a")) lenient 0 enough)
    (answer 0 1 (3 ∷ 0 ∷ 0 ∷ 0 ∷ 0 ∷ 37 ∷ []) "<__flat><a>1</a><a>2</x></r></__flat>")
    -- an attribute member too
    ∷ case (reading structure "<r a=\"1\"><a>2</a></r>" attribute_child 21 (plain (1 ∷ 30 ∷ named "a")) lenient 0 enough)
    (answer 0 2 (1 ∷ 0 ∷ 0 ∷ 0 ∷ 0 ∷ 1 ∷ 3 ∷ 0 ∷ 0 ∷ 0 ∷ 1 ∷ 25 ∷ []) "1<__flat><a>2</a></__flat>")
    -- "Room is now tested group by group, so the groups before the one that does not fit stay written" (no Rust reference for room): a
    -- text byte too few, an entry too few
    ∷ case (reading structure "<r><a>1</a><b>2</b><a>3</a><b>4</b></r>" four 39
    (plain (2 ∷ 26 ∷ named "a" ++ (26 ∷ named "b"))) lenient 0 (room 2 65))
    (answer 10 1 (3 ∷ 0 ∷ 0 ∷ 0 ∷ 0 ∷ 33 ∷ []) "<__flat><a>1</a><a>3</a></__flat>")
    ∷ case (reading structure "<r><a>1</a><b>2</b><a>3</a><b>4</b></r>" four 39
    (plain (2 ∷ 26 ∷ named "a" ++ (26 ∷ named "b"))) lenient 0 (room 1 66))
    (answer 10 1 (3 ∷ 0 ∷ 0 ∷ 0 ∷ 0 ∷ 33 ∷ []) "<__flat><a>1</a><a>3</a></__flat>")
    -- the first that does not fit ends the reading, though the next would fit
    ∷ case (reading structure "<r><a>1</a><b>2</b><a>3</a><c>4</c></r>" four 39
    (plain (2 ∷ 26 ∷ named "a" ++ (26 ∷ named "b"))) lenient 0 (room 2 32))
    (answer 10 0 [] "")
    -- what was written before stays too
    ∷ case (reading structure "<r><a>1</a><b>2</b><c>3</c><d>4</d></r>" four 39
    (plain (3 ∷ 26 ∷ named "a" ++ (26 ∷ named "b" ++ (2 ∷ named "c")))) lenient 0 (room 3 51))
    (answer 0 3 (1 ∷ 2 ∷ 0 ∷ 0 ∷ 0 ∷ 1 ∷ 3 ∷ 0 ∷ 0 ∷ 0 ∷ 1 ∷ 25 ∷ 3 ∷ 1 ∷ 0 ∷ 0 ∷ 26 ∷ 25 ∷ [])
    "3<__flat><a>1</a></__flat><__flat><b>2</b></__flat>")
    ∷ case (reading structure "<r><a>1</a><b>2</b><c>3</c><d>4</d></r>" four 39
    (plain (3 ∷ 26 ∷ named "a" ++ (26 ∷ named "b" ++ (2 ∷ named "c")))) lenient 0 (room 3 50))
    (answer 10 2 (1 ∷ 2 ∷ 0 ∷ 0 ∷ 0 ∷ 1 ∷ 3 ∷ 0 ∷ 0 ∷ 0 ∷ 1 ∷ 25 ∷ []) "3<__flat><a>1</a></__flat>")
    -- "Handing out groups before the strict end test": 9, though there is no room for them
    ∷ case (reading structure "<r><a>1</a><b>2</b></x>" two 23 (plain (1 ∷ 26 ∷ named "a")) strict 0 (room 0 0))
    (answer 9 0 [] "")
    ∷ [])
unfolding computed
groups = refl

-- "An entry and its text are written only if both fit; else 10" (no Rust reference): at the limit, and below it by one entry and by one
-- byte
pub room_for_entries : Answered ask (
    -- children
    case (reading structure "<r><a>1</a><b>2</b></r>" two 23 scalars_ab lenient 0 (room 2 2))
    (answer 0 2 (1 ∷ 0 ∷ 0 ∷ 0 ∷ 0 ∷ 1 ∷ 1 ∷ 1 ∷ 0 ∷ 0 ∷ 1 ∷ 1 ∷ []) "12")
    ∷ case (reading structure "<r><a>1</a><b>2</b></r>" two 23 scalars_ab lenient 0 (room 1 2))
    (answer 10 1 (1 ∷ 0 ∷ 0 ∷ 0 ∷ 0 ∷ 1 ∷ []) "1")
    ∷ case (reading structure "<r><a>1</a><b>2</b></r>" two 23 scalars_ab lenient 0 (room 2 1))
    (answer 10 1 (1 ∷ 0 ∷ 0 ∷ 0 ∷ 0 ∷ 1 ∷ []) "1")
    -- attributes
    ∷ case (reading structure "<r a=\"1\" b=\"2\"/>" attributes_two 16 (plain (2 ∷ 6 ∷ named "a" ++ (6 ∷ named "b"))) lenient 0
    (room 2 2))
    (answer 0 2 (1 ∷ 0 ∷ 0 ∷ 0 ∷ 0 ∷ 1 ∷ 1 ∷ 1 ∷ 0 ∷ 0 ∷ 1 ∷ 1 ∷ []) "12")
    ∷ case (reading structure "<r a=\"1\" b=\"2\"/>" attributes_two 16 (plain (2 ∷ 6 ∷ named "a" ++ (6 ∷ named "b"))) lenient 0
    (room 1 2))
    (answer 10 1 (1 ∷ 0 ∷ 0 ∷ 0 ∷ 0 ∷ 1 ∷ []) "1")
    ∷ case (reading structure "<r a=\"1\" b=\"2\"/>" attributes_two 16 (plain (2 ∷ 6 ∷ named "a" ++ (6 ∷ named "b"))) lenient 0
    (room 2 1))
    (answer 10 1 (1 ∷ 0 ∷ 0 ∷ 0 ∷ 0 ∷ 1 ∷ []) "1")
    -- a piece takes an entry and no byte
    ∷ case (reading structure "<r><a>1</a><b>2</b></r>" two 23 (plain (2 ∷ 18 ∷ named "a" ++ (18 ∷ named "b"))) lenient 0 (room 2 0))
    (answer 0 2 (2 ∷ 0 ∷ 0 ∷ 0 ∷ 3 ∷ 8 ∷ 2 ∷ 1 ∷ 0 ∷ 0 ∷ 11 ∷ 8 ∷ []) "")
    ∷ case (reading structure "<r><a>1</a><b>2</b></r>" two 23 (plain (2 ∷ 18 ∷ named "a" ++ (18 ∷ named "b"))) lenient 0 (room 1 0))
    (answer 10 1 (2 ∷ 0 ∷ 0 ∷ 0 ∷ 3 ∷ 8 ∷ []) "")
    -- so does a text that failed
    ∷ case (reading structure "<r><a>&lt </a></r>" one_text4 18 scalar_a lenient 0 (room 1 0))
    (answer 0 1 (4 ∷ 0 ∷ 0 ∷ 0 ∷ 7 ∷ 6 ∷ []) "")
    ∷ case (reading structure "<r><a>&lt </a></r>" one_text4 18 scalar_a lenient 0 (room 0 0)) (answer 10 0 [] "")
    -- and "10 as met" comes before 9
    ∷ case (reading structure "<r><a>1</a><b>2</b></x>" two 23 scalar_a strict 0 (room 0 0)) (answer 10 0 [] "")
    ∷ [])
unfolding computed
room_for_entries = refl

-- "Unwrapped: 9, then one piece (the root element alone, even where the Rust takes in what stands before or after it) or none, 10"
pub unwrapped : Answered ask (
    -- by the member that the root's local name resolves to
    case (reading structure "<p:a/>" prefixed 6 (8 ∷ named "s" ++ (2 ∷ 18 ∷ named "b" ++ (18 ∷ named "a"))) lenient 0 enough)
    (answer 0 1 (2 ∷ 1 ∷ 0 ∷ 0 ∷ 0 ∷ 6 ∷ []) "")
    -- none: a root of no member
    ∷ case (reading structure "<r/>" empty 4 unwrapped_a lenient 0 enough) (answer 0 0 [] "")
    -- the root element alone
    ∷ case (reading structure "<!--c--><a/>" behind_comment 12 unwrapped_a lenient 0 enough)
    (answer 0 1 (2 ∷ 0 ∷ 0 ∷ 0 ∷ 8 ∷ 4 ∷ []) "")
    -- by its rows, to the one that closes it, whatever its name (01's words: the Rust goes to the final position in these two)
    ∷ case (reading structure "<a></b> " bare 8 unwrapped_a lenient 0 enough) (answer 0 1 (2 ∷ 0 ∷ 0 ∷ 0 ∷ 0 ∷ 7 ∷ []) "")
    ∷ case (reading structure "<a><b></a></b> " one 15 unwrapped_a lenient 0 enough) (answer 0 1 (2 ∷ 0 ∷ 0 ∷ 0 ∷ 0 ∷ 14 ∷ []) "")
    -- a root that no row closes goes to the final position
    ∷ case (reading structure "<a><b>" two_unclosed 6 unwrapped_a lenient 0 enough) (answer 0 1 (2 ∷ 0 ∷ 0 ∷ 0 ∷ 0 ∷ 6 ∷ []) "")
    -- strict: 9 and no piece, where it is ill-formed
    ∷ case (reading structure "<a></b>" bare 7 unwrapped_a strict 0 enough) (answer 9 0 [] "")
    ∷ case (reading structure "<a></a>" bare 7 unwrapped_a strict 0 enough) (answer 0 1 (2 ∷ 0 ∷ 0 ∷ 0 ∷ 0 ∷ 7 ∷ []) "")
    -- at shape depth 1 a reading is not strict
    ∷ case (reading structure "<a></b>" bare 7 unwrapped_a strict 1 enough) (answer 0 1 (2 ∷ 0 ∷ 0 ∷ 0 ∷ 0 ∷ 7 ∷ []) "")
    -- "5 root name" goes before
    ∷ case (reading structure "<a></b>" bare 7 unwrapped_a (settings 128 true true false) 0 enough) (answer 5 0 [] "")
    -- 9 before 10; and 10 (no Rust reference): a piece takes an entry
    ∷ case (reading structure "<a></b>" bare 7 unwrapped_a strict 0 (room 0 0)) (answer 9 0 [] "")
    ∷ case (reading structure "<a></a>" bare 7 unwrapped_a strict 0 (room 0 0)) (answer 10 0 [] "")
    ∷ case (reading structure "<a></a>" bare 7 unwrapped_a strict 0 (room 1 0)) (answer 0 1 (2 ∷ 0 ∷ 0 ∷ 0 ∷ 0 ∷ 7 ∷ []) "")
    ∷ [])
unfolding computed
unwrapped = refl

-- ---- the siblings of a group, child by child: those of a member that is flattened and aggregate, an attribute member too; no other member
-- has any
abbrev siblings_of : String → List ℕ → List ℕ → ℕ → List Bool
siblings_of body table sheet i = go (structure_of sheet) (root_of (toks_of (ascii body) (rows_of table)))
  where
    go : Option Structure → Option Child → List Bool
    go none root = []
    go (some s) none = []
    go (some s) (some root) = list.map (in_group s i) (children_of root)

pub siblings_are :
    list.map (siblings_of "<r><a>1</a><b>2</b><c>3</c><d>4</d></r>" four
    (plain (4 ∷ 26 ∷ named "a" ++ (10 ∷ named "b" ++ (18 ∷ named "c" ++ (30 ∷ named "d"))))))
    (0 ∷ 1 ∷ 2 ∷ 3 ∷ [])
    ≡ (true ∷ false ∷ false ∷ false ∷ [])
    ∷ (false ∷ false ∷ false ∷ false ∷ [])
    ∷ (false ∷ false ∷ false ∷ false ∷ [])
    ∷ (false ∷ false ∷ false ∷ true ∷ [])
    ∷ []
unfolding computed
siblings_are = refl
