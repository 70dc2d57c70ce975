-- What list, string list and map readings answer, in numbers and bytes. The tables and the answers are the Rust's, but where a case says
-- that there is no Rust reference.
use mathlib.Core.Path.{refl}
use mathlib.Core.List.{[], ◌∷◌, ◌++◌}
use Rattle.readings.specs.Shape.{list, map, strings}
use Rattle.readings.proofs.Examples.Asking.{reading, ask, answer, case, Answered, lenient, strict, item_names, room, enough, named}
use Rattle.readings.proofs.Examples.Asking.{answer_at, keyed}
use Rattle.readings.proofs.Examples.Tables.{empty, one, two, nested, nested_text, nested_empty, two_unclosed, comment, prefixed_item}
use Rattle.readings.proofs.Examples.Tables.{attribute_second, second_error, entry1, entry1_closed, entry1_names, entry1_prefixed}
use Rattle.readings.proofs.Examples.Tables.{entry1_fields, entry1_empty, entry1_nested, entry1_error, entry2, entry2_prefixed}
use Rattle.readings.proofs.Examples.Tables.{entry2_nested, entry2_open, entry2_field_attribute, entry2_attribute, early}
use Rattle.readings.proofs.All.{computed}

-- "List. 1, 2, 3, 4; 10 as met; 9 last": each item a piece, of member index 0
pub list_items : Answered ask (
    -- every child is an item
    case (reading list "<r><a>1</a><b>2</b></r>" two 23 (0 ∷ []) lenient 0 enough)
    (answer 0 2 (2 ∷ 0 ∷ 0 ∷ 0 ∷ 3 ∷ 8 ∷ 2 ∷ 0 ∷ 0 ∷ 0 ∷ 11 ∷ 8 ∷ []) "")
    -- with the flag: the XML name before the member name
    ∷ case (reading list "<r><a>1</a><b>2</b></r>" two 23 (13 ∷ named "b" ++ named "a") item_names 0 enough)
    (answer 0 1 (2 ∷ 0 ∷ 0 ∷ 0 ∷ 11 ∷ 8 ∷ []) "")
    -- the member name
    ∷ case (reading list "<r><a>1</a><b>2</b></r>" two 23 (9 ∷ named "a") item_names 0 enough) (answer 0 1 (2 ∷ 0 ∷ 0 ∷ 0 ∷ 3 ∷ 8 ∷ []) "")
    -- `member`, by `Name::matches`; without the flag every child
    ∷ case (reading list "<r><p:member/><a/></r>" prefixed_item 22 (1 ∷ []) item_names 0 enough)
    (answer 0 1 (2 ∷ 0 ∷ 0 ∷ 0 ∷ 3 ∷ 11 ∷ []) "")
    ∷ case (reading list "<r><p:member/><a/></r>" prefixed_item 22 (1 ∷ []) lenient 0 enough)
    (answer 0 2 (2 ∷ 0 ∷ 0 ∷ 0 ∷ 3 ∷ 11 ∷ 2 ∷ 0 ∷ 0 ∷ 0 ∷ 14 ∷ 4 ∷ []) "")
    -- `p:member` finds it, `p:a` does not find `a`
    ∷ case (reading list "<r><p:member/><a/></r>" prefixed_item 22 (5 ∷ named "p:member") item_names 0 enough)
    (answer 0 1 (2 ∷ 0 ∷ 0 ∷ 0 ∷ 3 ∷ 11 ∷ []) "")
    ∷ case (reading list "<r><p:member/><a/></r>" prefixed_item 22 (5 ∷ named "p:a") item_names 0 enough) (answer 0 0 [] "")
    -- the flag asks nothing of a flattened list, and of one without a member
    ∷ case (reading list "<r><a>1</a><b>2</b></r>" two 23 (15 ∷ named "b" ++ named "a") item_names 0 enough)
    (answer 0 2 (2 ∷ 0 ∷ 0 ∷ 0 ∷ 3 ∷ 8 ∷ 2 ∷ 0 ∷ 0 ∷ 0 ∷ 11 ∷ 8 ∷ []) "")
    ∷ case (reading list "<r><a>1</a><b>2</b></r>" two 23 (0 ∷ []) item_names 0 enough)
    (answer 0 2 (2 ∷ 0 ∷ 0 ∷ 0 ∷ 3 ∷ 8 ∷ 2 ∷ 0 ∷ 0 ∷ 0 ∷ 11 ∷ 8 ∷ []) "")
    -- children alone; a root that ends in `/>` has none
    ∷ case (reading list "<r><a><b>1</b></a></r>" nested_text 22 (0 ∷ []) lenient 0 enough) (answer 0 1 (2 ∷ 0 ∷ 0 ∷ 0 ∷ 3 ∷ 15 ∷ []) "")
    ∷ case (reading list "<r/>" empty 4 (0 ∷ []) lenient 0 enough) (answer 0 0 [] "")
    -- an item whose rows run out ends at the final position
    ∷ case (reading list "<r><a>" two_unclosed 6 (0 ∷ []) lenient 0 enough) (answer 0 1 (2 ∷ 0 ∷ 0 ∷ 0 ∷ 3 ∷ 3 ∷ []) "")
    -- a bad attribute ends the level
    ∷ case (reading list "<r><a>1</a><b x=\"&lt\"/></r>" attribute_second 27 (0 ∷ []) lenient 0 enough)
    (answer 0 1 (2 ∷ 0 ∷ 0 ∷ 0 ∷ 3 ∷ 8 ∷ []) "")
    ∷ [])
unfolding computed
list_items = refl

pub list_refusals : Answered ask (
    -- 1 (no Rust reference), 2, 3, 4, each with cause for the next
    case (reading list "<r/>" (1 ∷ []) 4 (16 ∷ []) strict 128 enough) (answer 1 0 [] "")
    ∷ case (reading list "<!--c-->" comment 8 (16 ∷ []) strict 128 enough) (answer 2 0 [] "")
    ∷ case (reading list "<!--c-->" comment 8 (0 ∷ []) strict 128 enough) (answer 3 0 [] "")
    ∷ case (reading list "<!--c-->" comment 8 (0 ∷ []) strict 127 enough) (answer 4 0 [] "")
    -- 9 last: the items before it stay; not at shape depth 1
    ∷ case (reading list "<r><a>1</a><b>2</b></x>" two 23 (0 ∷ []) strict 0 enough)
    (answer 9 2 (2 ∷ 0 ∷ 0 ∷ 0 ∷ 3 ∷ 8 ∷ 2 ∷ 0 ∷ 0 ∷ 0 ∷ 11 ∷ 8 ∷ []) "")
    ∷ case (reading list "<r><a>1</a><b>2</b></x>" two 23 (0 ∷ []) strict 1 enough)
    (answer 0 2 (2 ∷ 0 ∷ 0 ∷ 0 ∷ 3 ∷ 8 ∷ 2 ∷ 0 ∷ 0 ∷ 0 ∷ 11 ∷ 8 ∷ []) "")
    -- 10 as met, before 9 (no Rust reference), at the limit and below it
    ∷ case (reading list "<r><a>1</a><b>2</b></x>" two 23 (0 ∷ []) strict 0 (room 2 0))
    (answer 9 2 (2 ∷ 0 ∷ 0 ∷ 0 ∷ 3 ∷ 8 ∷ 2 ∷ 0 ∷ 0 ∷ 0 ∷ 11 ∷ 8 ∷ []) "")
    ∷ case (reading list "<r><a>1</a><b>2</b></x>" two 23 (0 ∷ []) strict 0 (room 1 0)) (answer 10 1 (2 ∷ 0 ∷ 0 ∷ 0 ∷ 3 ∷ 8 ∷ []) "")
    -- a lent table whose token error stands at 6, before the final position 8 (no Rust reference): "A piece ends at the position of the
    -- last row read for it, or at the final position when the rows run out"; lenient, and strict, where the row that fails is the last one
    -- read
    ∷ case (reading list "<r><a>12" early 8 (0 ∷ []) lenient 0 enough) (answer 0 1 (2 ∷ 0 ∷ 0 ∷ 0 ∷ 3 ∷ 5 ∷ []) "")
    ∷ case (reading list "<r><a>12" early 8 (0 ∷ []) strict 0 enough) (answer 9 1 (2 ∷ 0 ∷ 0 ∷ 0 ∷ 3 ∷ 3 ∷ []) "")
    ∷ [])
unfolding computed
list_refusals = refl

-- "String list. As list, with 6 to 9 as met": what was written before stays. (The Rust drops it: of a refused one only the number is the
-- Rust's.)
pub string_lists : Answered ask (
    -- texts one after another
    case (reading strings "<r><a>1</a><b>2</b></r>" two 23 (0 ∷ []) lenient 0 enough)
    (answer 0 2 (1 ∷ 0 ∷ 0 ∷ 0 ∷ 0 ∷ 1 ∷ 1 ∷ 0 ∷ 0 ∷ 0 ∷ 1 ∷ 1 ∷ []) "12")
    -- named items
    ∷ case (reading strings "<r><a>1</a><b>2</b></r>" two 23 (13 ∷ named "b" ++ named "a") item_names 0 enough)
    (answer 0 1 (1 ∷ 0 ∷ 0 ∷ 0 ∷ 0 ∷ 1 ∷ []) "2")
    -- empty texts
    ∷ case (reading strings "<r><p:member/><a/></r>" prefixed_item 22 (0 ∷ []) lenient 0 enough)
    (answer 0 2 (1 ∷ 0 ∷ 0 ∷ 0 ∷ 0 ∷ 0 ∷ 1 ∷ 0 ∷ 0 ∷ 0 ∷ 0 ∷ 0 ∷ []) "")
    -- 6 and 7
    ∷ case (reading strings "<r><a>1</a><b><c/></b></r>" nested_empty 26 (0 ∷ []) lenient 0 enough)
    (answer 6 1 (1 ∷ 0 ∷ 0 ∷ 0 ∷ 0 ∷ 1 ∷ []) "1")
    -- an item that is not asked for is not read
    ∷ case (reading strings "<r><a>1</a><b><c/></b></r>" nested_empty 26 (5 ∷ named "a") item_names 0 enough)
    (answer 0 1 (1 ∷ 0 ∷ 0 ∷ 0 ∷ 0 ∷ 1 ∷ []) "1")
    ∷ case (reading strings "<r><a>1</a><b>&</b></r>" two 23 (0 ∷ []) lenient 0 enough)
    (answer_at 7 14 1 (1 ∷ 0 ∷ 0 ∷ 0 ∷ 0 ∷ 1 ∷ []) "1")
    -- 8, lenient; and strict as met, before 9
    ∷ case (reading strings "<r><a>1</a><b><" second_error 15 (0 ∷ []) lenient 0 enough) (answer 8 1 (1 ∷ 0 ∷ 0 ∷ 0 ∷ 0 ∷ 1 ∷ []) "1")
    ∷ case (reading strings "<r><a>1</a><b><" second_error 15 (0 ∷ []) strict 0 enough) (answer 8 1 (1 ∷ 0 ∷ 0 ∷ 0 ∷ 0 ∷ 1 ∷ []) "1")
    -- 9 as met at a mismatched tag; and 9 last
    ∷ case (reading strings "<r><a></b></r>" one 14 (0 ∷ []) strict 0 enough) (answer 9 0 [] "")
    ∷ case (reading strings "<r><a>1</a><b>2</b></x>" two 23 (0 ∷ []) strict 0 enough)
    (answer 9 2 (1 ∷ 0 ∷ 0 ∷ 0 ∷ 0 ∷ 1 ∷ 1 ∷ 0 ∷ 0 ∷ 0 ∷ 1 ∷ 1 ∷ []) "12")
    -- 10 (no Rust reference), at the limit and below it
    ∷ case (reading strings "<r><a>1</a><b>2</b></r>" two 23 (0 ∷ []) lenient 0 (room 2 2))
    (answer 0 2 (1 ∷ 0 ∷ 0 ∷ 0 ∷ 0 ∷ 1 ∷ 1 ∷ 0 ∷ 0 ∷ 0 ∷ 1 ∷ 1 ∷ []) "12")
    ∷ case (reading strings "<r><a>1</a><b>2</b></r>" two 23 (0 ∷ []) lenient 0 (room 1 2)) (answer 10 1 (1 ∷ 0 ∷ 0 ∷ 0 ∷ 0 ∷ 1 ∷ []) "1")
    ∷ case (reading strings "<r><a>1</a><b>2</b></r>" two 23 (0 ∷ []) lenient 0 (room 2 1)) (answer 10 1 (1 ∷ 0 ∷ 0 ∷ 0 ∷ 0 ∷ 1 ∷ []) "1")
    -- 1 (no Rust reference), 2, 3, 4
    ∷ case (reading strings "<r/>" (1 ∷ []) 4 (16 ∷ []) strict 128 enough) (answer 1 0 [] "")
    ∷ case (reading strings "<!--c-->" comment 8 (16 ∷ []) strict 128 enough) (answer 2 0 [] "")
    ∷ case (reading strings "<!--c-->" comment 8 (0 ∷ []) strict 128 enough) (answer 3 0 [] "")
    ∷ case (reading strings "<!--c-->" comment 8 (0 ∷ []) strict 127 enough) (answer 4 0 [] "")
    ∷ [])
unfolding computed
string_lists = refl

-- "A map writes the key before the value"
pub map_entries : Answered ask (
    -- in both orders of the fields
    case (reading map "<m><e><k>1</k><v>2</v></e><e><v>3</v><k>4</k></e></m>" entry2 53 keyed lenient 0 enough)
    (answer 0 2 (1 ∷ 0 ∷ 0 ∷ 1 ∷ 1 ∷ 1 ∷ 1 ∷ 0 ∷ 2 ∷ 1 ∷ 3 ∷ 1 ∷ []) "1243")
    -- `key` and `value` without XML names: without a value in the sheet, and with one
    ∷ case (reading map "<m><e><key>1</key><value>2</value></e></m>" entry1_names 42 (0 ∷ []) lenient 0 enough)
    (answer 0 1 (1 ∷ 0 ∷ 0 ∷ 1 ∷ 1 ∷ 1 ∷ []) "12")
    ∷ case (reading map "<m><e><key>1</key><value>2</value></e></m>" entry1_names 42 (4 ∷ []) lenient 0 enough)
    (answer 0 1 (1 ∷ 0 ∷ 0 ∷ 1 ∷ 1 ∷ 1 ∷ []) "12")
    -- `entry` is asked for with the flag, by `Name::matches`; not in a flattened map
    ∷ case (reading map "<m><p:entry><k>1</k><v>2</v></p:entry><e><k>3</k><v>4</v></e></m>" entry2_prefixed 65 keyed item_names 0 enough)
    (answer 0 1 (1 ∷ 0 ∷ 0 ∷ 1 ∷ 1 ∷ 1 ∷ []) "12")
    ∷ case (reading map "<m><p:entry><k>1</k><v>2</v></p:entry><e><k>3</k><v>4</v></e></m>" entry2_prefixed 65 keyed lenient 0 enough)
    (answer 0 2 (1 ∷ 0 ∷ 0 ∷ 1 ∷ 1 ∷ 1 ∷ 1 ∷ 0 ∷ 2 ∷ 1 ∷ 3 ∷ 1 ∷ []) "1234")
    ∷ case (reading map "<m><p:entry><k>1</k><v>2</v></p:entry><e><k>3</k><v>4</v></e></m>" entry2_prefixed 65
    (15 ∷ named "k" ++ named "v") item_names 0 enough)
    (answer 0 2 (1 ∷ 0 ∷ 0 ∷ 1 ∷ 1 ∷ 1 ∷ 1 ∷ 0 ∷ 2 ∷ 1 ∷ 3 ∷ 1 ∷ []) "1234")
    -- "Members and map keys compare the local name exactly": `k` finds `p:k`, `p:k` does not
    ∷ case (reading map "<m><e><p:k>1</p:k><p:v>2</p:v></e></m>" entry1_prefixed 38 keyed lenient 0 enough)
    (answer 0 1 (1 ∷ 0 ∷ 0 ∷ 1 ∷ 1 ∷ 1 ∷ []) "12")
    ∷ case (reading map "<m><e><p:k>1</p:k><p:v>2</p:v></e></m>" entry1_prefixed 38 (14 ∷ named "p:k" ++ named "v") lenient 0 enough)
    (answer 0 0 [] "")
    ∷ case (reading map "<m><e><p:k>1</p:k><p:v>2</p:v></e></m>" entry1_prefixed 38 (14 ∷ named "k" ++ named "p:v") lenient 0 enough)
    (answer 0 0 [] "")
    -- a key alone writes nothing, and a value alone
    ∷ case (reading map "<m><e><k>1</k><x>2</x></e><e><v>3</v><x>4</x></e></m>" entry2 53 keyed lenient 0 enough) (answer 0 0 [] "")
    -- an aggregate value is a piece; the key alone is in the text buffer
    ∷ case (reading map "<m><e><k>1</k><v>2</v></e><e><k>3</k><v><w/></v></e></m>" entry2_nested 56
    (30 ∷ named "k" ++ named "v") lenient 0 enough)
    (answer 0 2 (2 ∷ 0 ∷ 0 ∷ 1 ∷ 14 ∷ 8 ∷ 2 ∷ 0 ∷ 1 ∷ 1 ∷ 37 ∷ 11 ∷ []) "13")
    -- an empty key and an empty value
    ∷ case (reading map "<m><e><k/><v/></e></m>" entry1_empty 22 keyed lenient 0 enough) (answer 0 1 (1 ∷ 0 ∷ 0 ∷ 0 ∷ 0 ∷ 0 ∷ []) "")
    -- an entry that ends in `/>` has no fields: what follows is not in it
    ∷ case (reading map "<m><e/><k>1</k><v>2</v></m>" entry1_closed 27 keyed lenient 0 enough) (answer 0 0 [] "")
    ∷ [])
unfolding computed
map_entries = refl

-- map entries in ill-formed bodies, lenient: of an entry the fields are read, and each field to the end of its own scope
pub map_scopes : Answered ask (
    -- the first `k` ends with the second entry's, so that entry is never met and its `v` is the first's
    case (reading map "<m><entry><k>1</x></entry><entry><k>2</k><v>3</v></entry></m>" entry2_open 61 keyed lenient 0 enough)
    (answer 0 1 (1 ∷ 0 ∷ 0 ∷ 1 ∷ 1 ∷ 1 ∷ []) "13")
    -- with the flag, a child that is not asked for is passed over at once, to the end tag of its own depth and name
    ∷ case (reading map "<m><other><k>1</x></other><entry><k>2</k><v>3</v></entry></m>" entry2_open 61 keyed item_names 0 enough)
    (answer 0 1 (1 ∷ 0 ∷ 0 ∷ 1 ∷ 1 ∷ 1 ∷ []) "23")
    -- a bad attribute in a field ends the entry's level, and the rest of the entry is passed over; the next entry is read
    ∷ case (reading map "<m><e><v x=\"&lt\"/><f><k>1</k><v>2</v></f></e><e><k>3</k><v>4</v></e></m>" entry2_field_attribute 72 keyed lenient
    0 enough)
    (answer 0 1 (1 ∷ 0 ∷ 0 ∷ 1 ∷ 1 ∷ 1 ∷ []) "34")
    -- a bad attribute in an entry ends the map's level
    ∷ case (reading map "<m><e x=\"&lt\"/><e><k>1</k><v>2</v></e></m>" entry2_attribute 42 keyed lenient 0 enough) (answer 0 0 [] "")
    ∷ [])
unfolding computed
map_scopes = refl

-- "The same, with 6, 7, 8, 9 as met in a key or value; room is tested at the end of each map entry, for its key and value together, so
-- these come before its 10"
pub map_refusals : Answered ask (
    -- 6 in a value and in a key; the entries before it stay
    case (reading map "<m><e><k>1</k><v>2</v></e><e><k>3</k><v><w/></v></e></m>" entry2_nested 56 keyed lenient 0 enough)
    (answer 6 1 (1 ∷ 0 ∷ 0 ∷ 1 ∷ 1 ∷ 1 ∷ []) "12")
    ∷ case (reading map "<m><e><k><w/></k></e></m>" entry1_nested 25 keyed lenient 0 enough) (answer 6 0 [] "")
    -- 7, where the entry has no key; strict the same, before 9
    ∷ case (reading map "<m><e><v>&</v></e></m>" nested_text 22 keyed lenient 0 enough) (answer_at 7 9 0 [] "")
    ∷ case (reading map "<m><e><v>&</v></e></m>" nested_text 22 keyed strict 0 enough) (answer_at 7 9 0 [] "")
    -- 8 and 9
    ∷ case (reading map "<m><e><k><" entry1_error 10 keyed lenient 0 enough) (answer 8 0 [] "")
    ∷ case (reading map "<m><e><k></v></e></m>" nested 21 keyed strict 0 enough) (answer 9 0 [] "")
    -- lenient there is no 9, and no entry
    ∷ case (reading map "<m><e><k></v></e></m>" nested 21 keyed lenient 0 enough) (answer 0 0 [] "")
    -- 9 last
    ∷ case (reading map "<m><e><k>1</k><v>2</v></e></x>" entry1 30 keyed strict 0 enough) (answer 9 1 (1 ∷ 0 ∷ 0 ∷ 1 ∷ 1 ∷ 1 ∷ []) "12")
    ∷ case (reading map "<m><e><k>1</k><v>2</v></e></x>" entry1 30 keyed strict 1 enough) (answer 0 1 (1 ∷ 0 ∷ 0 ∷ 1 ∷ 1 ∷ 1 ∷ []) "12")
    -- 10 (no Rust reference): key and value together at the limit, and below it
    ∷ case (reading map "<m><e><k>1</k><v>2</v></e><e><v>3</v><k>4</k></e></m>" entry2 53 keyed lenient 0 (room 2 4))
    (answer 0 2 (1 ∷ 0 ∷ 0 ∷ 1 ∷ 1 ∷ 1 ∷ 1 ∷ 0 ∷ 2 ∷ 1 ∷ 3 ∷ 1 ∷ []) "1243")
    ∷ case (reading map "<m><e><k>1</k><v>2</v></e><e><v>3</v><k>4</k></e></m>" entry2 53 keyed lenient 0 (room 2 3))
    (answer 10 1 (1 ∷ 0 ∷ 0 ∷ 1 ∷ 1 ∷ 1 ∷ []) "12")
    ∷ case (reading map "<m><e><k>1</k><v>2</v></e><e><v>3</v><k>4</k></e></m>" entry2 53 keyed lenient 0 (room 1 4))
    (answer 10 1 (1 ∷ 0 ∷ 0 ∷ 1 ∷ 1 ∷ 1 ∷ []) "12")
    -- with an aggregate value: the key's bytes alone
    ∷ case (reading map "<m><e><k>1</k><v>2</v></e></m>" entry1 30 (30 ∷ named "k" ++ named "v") lenient 0 (room 1 1))
    (answer 0 1 (2 ∷ 0 ∷ 0 ∷ 1 ∷ 14 ∷ 8 ∷ []) "1")
    ∷ case (reading map "<m><e><k>1</k><v>2</v></e></m>" entry1 30 (30 ∷ named "k" ++ named "v") lenient 0 (room 1 0)) (answer 10 0 [] "")
    -- 7 before 10, and 10 before 9
    ∷ case (reading map "<m><e><k>1</k><v>2</v><v>3</v><k>&</k></e></m>" entry1_fields 46 keyed lenient 0 (room 0 0))
    (answer_at 7 33 0 [] "")
    ∷ case (reading map "<m><e><k>1</k><v>2</v></e></x>" entry1 30 keyed strict 0 (room 0 0)) (answer 10 0 [] "")
    -- 1 (no Rust reference), 2, 3, 4
    ∷ case (reading map "<r/>" (1 ∷ []) 4 (32 ∷ []) strict 128 enough) (answer 1 0 [] "")
    ∷ case (reading map "<!--c-->" comment 8 (32 ∷ []) strict 128 enough) (answer 2 0 [] "")
    ∷ case (reading map "<!--c-->" comment 8 (0 ∷ []) strict 128 enough) (answer 3 0 [] "")
    ∷ case (reading map "<!--c-->" comment 8 (0 ∷ []) strict 127 enough) (answer 4 0 [] "")
    ∷ [])
unfolding computed
map_refusals = refl
