-- What scalars, find and whole text answer, in values. The tables and the answers are the Rust's, but where a case says that there is no
-- Rust reference.
use Prim.Native.Nat.{ℕ}
use Prim.Native.String.{String}
use mathlib.Core.Path.{◌≡◌, refl}
use mathlib.Core.Bool.{Bool, true, false}
use mathlib.Core.List.{List, [], ◌∷◌, map}
use lib.IntN.{ℤ, pos, negsuc}
use Rattle.lists.specs.Bytes.{ascii}
use Rattle.refusal.specs.declared.Refusal.{Refusal}
use Rattle.refusal.specs.Numbers.{number}
use Rattle.refusal.specs.Answer.{Answer, gives, refuses}
use Rattle.document.specs.declared.part.Piece.{Piece}
use Rattle.sheet.specs.declared.Settings.{Settings}
use Rattle.readings.specs.Call.{uploaded}
use Rattle.document.specs.Text.{string_in}
use Rattle.readings.specs.Scalar.{boolean_of, boolean_reading, integer_reading, string_reading, whole_text}
use Rattle.readings.specs.Find.{find, part_of, refusal_of}
use Rattle.readings.proofs.Examples.Asking.{case, Answered, settings, lenient, strict, shape, room}
use Rattle.readings.proofs.Examples.Tables.{empty, bare, one_empty, two, nested_text, unclosed, two_unclosed, behind_comment}
use Rattle.readings.proofs.Examples.Tables.{comment, prefixed, prefixed_one, attribute, attributes_again, attribute_second, text1}
use Rattle.readings.proofs.Examples.Tables.{text3, text4, text5, text9, cdata, mixed, element_text, text_element, error, text_error}
use Rattle.readings.proofs.Examples.Tables.{early}
use Rattle.readings.proofs.All.{computed}

-- ---- what is asked
pub data Scalar : Type 0 where
  scalar : (body : String) (table : List ℕ) (final : ℕ) (settings : Settings) (depth : ℕ) → Scalar

abbrev ask_boolean : Scalar → Answer Bool
ask_boolean (scalar body table final settings depth) = boolean_reading (uploaded (ascii body) table final) settings (shape depth)

abbrev ask_integer : Scalar → Answer ℤ
ask_integer (scalar body table final settings depth) = integer_reading (uploaded (ascii body) table final) settings (shape depth)

-- with room for so many bytes
abbrev ask_string : ℕ → Scalar → Answer (List ℕ)
ask_string room (scalar body table final settings depth) = string_reading (uploaded (ascii body) table final) settings (shape depth) room

pub data Search : Type 0 where
  search : (body : String) (table : List ℕ) (final : ℕ) (name : String) → Search

abbrev ask_find : Search → Answer Piece
ask_find (search body table final name) = find (uploaded (ascii body) table final) (ascii name)

abbrev found : ℕ → ℕ → Answer Piece
found start len = gives (record { start = start; len = len })

pub data Whole : Type 0 where
  whole : (body : String) (table : List ℕ) (final : ℕ) (room : ℕ) → Whole

abbrev ask_whole : Whole → Answer (List ℕ)
ask_whole (whole body table final room) = whole_text (uploaded (ascii body) table final) room

-- "Scalar. 1, 4; 6 to 9 as met; 9 after the rest; 10 for a string; 11 or 12"
pub booleans : Answered ask_boolean (
    -- `true` and `false`, nothing else: "nothing trimmed"
    case (scalar "<r>true</r>" text4 11 lenient 0) (gives true)
    ∷ case (scalar "<r>false</r>" text5 12 lenient 0) (gives false)
    ∷ case (scalar "<r>true </r>" text5 12 lenient 0) (refuses Refusal.NotBoolean)
    ∷ case (scalar "<r>TRUE</r>" text4 11 lenient 0) (refuses Refusal.NotBoolean)
    ∷ case (scalar "<r/>" empty 4 lenient 0) (refuses Refusal.NotBoolean)
    -- the text is unescaped first
    ∷ case (scalar "<r>tru&#101;</r>" text9 16 lenient 0) (gives true)
    -- 9 after the rest comes before 11; lenient it is 11
    ∷ case (scalar "<r>trUe</x>" text4 11 strict 0) (refuses Refusal.IllFormed)
    ∷ case (scalar "<r>trUe</x>" text4 11 lenient 0) (refuses Refusal.NotBoolean)
    ∷ [])
unfolding computed
booleans = refl

pub integers_of_bodies : Answered ask_integer (
    case (scalar "<r>-12</r>" text3 10 lenient 0) (gives (negsuc 11))
    ∷ case (scalar "<r>+12</r>" text3 10 lenient 0) (gives (pos 12))
    ∷ case (scalar "<r>1 2</r>" text3 10 lenient 0) (refuses Refusal.NotInteger)
    -- the first text alone
    ∷ case (scalar "<r x=\"y\">1<!--c-->&lt;<![CDATA[z]]>2</r>" mixed 40 lenient 0) (gives (pos 1))
    -- 6, as met: an element before the text, not behind it
    ∷ case (scalar "<r><a/>1</r>" element_text 12 lenient 0) (refuses Refusal.ElementInText)
    ∷ case (scalar "<r>1<a/></r>" text_element 12 lenient 0) (gives (pos 1))
    -- 7, lenient and strict
    ∷ case (scalar "<r>&</r>" text1 8 lenient 0) (refuses (Refusal.BadReference 3))
    ∷ case (scalar "<r>&</r>" text1 8 strict 0) (refuses (Refusal.BadReference 3))
    -- 8, lenient and strict
    ∷ case (scalar "<r><" error 4 lenient 0) (refuses Refusal.TokenError)
    ∷ case (scalar "<r><" error 4 strict 0) (refuses Refusal.TokenError)
    -- lenient a token error behind the text is not met; strict it is 9 after the rest
    ∷ case (scalar "<r>1<" text_error 5 lenient 0) (gives (pos 1))
    ∷ case (scalar "<r>1<" text_error 5 strict 0) (refuses Refusal.IllFormed)
    -- 9 as met, strict: a mismatched tag, an unclosed one; lenient an empty text, so 12
    ∷ case (scalar "<r></x>" bare 7 strict 0) (refuses Refusal.IllFormed)
    ∷ case (scalar "<r></x>" bare 7 lenient 0) (refuses Refusal.NotInteger)
    ∷ case (scalar "<r>" unclosed 3 strict 0) (refuses Refusal.IllFormed)
    -- 9 after the rest, at shape depth 0 alone
    ∷ case (scalar "<r>1</x>" text1 8 strict 0) (refuses Refusal.IllFormed)
    ∷ case (scalar "<r>1</x>" text1 8 strict 1) (gives (pos 1))
    ∷ case (scalar "<r>1</x>" text1 8 lenient 0) (gives (pos 1))
    -- 4: no root; an attribute of the root that does not unescape; strict also one that comes twice
    ∷ case (scalar "<!--c-->" comment 8 lenient 0) (refuses Refusal.NoRoot)
    ∷ case (scalar "<r x=\"&lt \"/>" attribute 13 lenient 0) (refuses Refusal.NoRoot)
    ∷ case (scalar "<r x=\"\" x=\"\">1</r>" attributes_again 18 strict 0) (refuses Refusal.NoRoot)
    ∷ case (scalar "<r x=\"\" x=\"\">1</r>" attributes_again 18 lenient 0) (gives (pos 1))
    -- the depth is not asked: a scalar has no 3
    ∷ case (scalar "<r>1</r>" text1 8 lenient 128) (gives (pos 1))
    -- 1 (no Rust reference) goes before 4
    ∷ case (scalar "<r/>" (1 ∷ []) 4 lenient 0) (refuses Refusal.Table)
    ∷ [])
unfolding computed
integers_of_bodies = refl

-- a string, with room for three bytes ("10 for a string": no Rust reference for room)
pub strings_that_fit : Answered (ask_string 3) (
    case (scalar "<r>abc</r>" text3 10 lenient 0) (gives (ascii "abc"))
    -- unescaped: nine bytes give three
    ∷ case (scalar "<r>&lt;a&gt;</r>" text9 16 lenient 0) (gives (ascii "<a>"))
    -- "It skips CDATA"
    ∷ case (scalar "<r><![CDATA[a]]>b</r>" cdata 21 lenient 0) (gives (ascii "b"))
    -- no text: nothing, `/>`
    ∷ case (scalar "<r></r>" bare 7 lenient 0) (gives (ascii ""))
    ∷ case (scalar "<r/>" empty 4 lenient 0) (gives (ascii ""))
    -- one byte too many
    ∷ case (scalar "<r>abcd</r>" text4 11 lenient 0) (refuses Refusal.NoRoom)
    -- 7 and 9 go before 10
    ∷ case (scalar "<r>abc&</r>" text4 11 lenient 0) (refuses (Refusal.BadReference 6))
    ∷ case (scalar "<r>abcd</x>" text4 11 strict 0) (refuses Refusal.IllFormed)
    ∷ [])
unfolding computed
strings_that_fit = refl

-- "Find. Lenient. .. the whole body if the root's local name is equal, else the first such child"
pub found_parts : Answered ask_find (
    -- the whole body, with what stands around the root
    case (search "<!--c--><a/>" behind_comment 12 "a") (found 0 12)
    -- also where the root has a prefix; the root goes before a child of its name
    ∷ case (search "<p:a/>" prefixed 6 "a") (found 0 6)
    ∷ case (search "<a><a/></a>" one_empty 11 "a") (found 0 11)
    -- a child; the first of two
    ∷ case (search "<r><a>1</a><b>2</b></r>" two 23 "b") (found 11 8)
    ∷ case (search "<r><a>1</a><a>2</a></r>" two 23 "a") (found 3 8)
    -- by local name exactly
    ∷ case (search "<r><p:a>1</p:a></r>" prefixed_one 19 "a") (found 3 12)
    ∷ case (search "<r><p:a>1</p:a></r>" prefixed_one 19 "p:a") (refuses Refusal.NoSuchElement)
    -- not what is in a child
    ∷ case (search "<r><a><b>1</b></a></r>" nested_text 22 "b") (refuses Refusal.NoSuchElement)
    -- lenient: a child behind a bad reference; one whose rows run out; one that an end tag of another name does not end
    ∷ case (search "<r><a>&</a><b>2</b></r>" two 23 "b") (found 11 8)
    ∷ case (search "<r><a>" two_unclosed 6 "a") (found 3 3)
    ∷ case (search "<r><a>1</x><b>2</b></r>" two 23 "a") (found 3 20)
    -- lenient: the level ends at a bad attribute
    ∷ case (search "<r><a>1</a><b x=\"&lt\"/></r>" attribute_second 27 "b") (refuses Refusal.NoSuchElement)
    -- a lent table whose token error stands before the final position (no Rust reference): to the final position
    ∷ case (search "<r><a>12" early 8 "a") (found 3 5)
    -- "13 also without a root"
    ∷ case (search "<!--c-->" comment 8 "a") (refuses Refusal.NoSuchElement)
    -- 1 (no Rust reference)
    ∷ case (search "<a/>" (1 ∷ []) 4 "a") (refuses Refusal.Table)
    ∷ [])
unfolding computed
found_parts = refl

-- "Whole text (added, no Rust reference). 1, 9, 4, 6 (any element inside the root), 10, nothing written then": the answers are 01's words
pub whole_texts : Answered ask_whole (
    -- "It joins all Text rows directly in the root, unescaped, and passes over every other row": comments, CDATA, attributes
    case (whole "<r x=\"y\">1<!--c-->&lt;<![CDATA[z]]>2</r>" mixed 40 3) (gives (ascii "1<2"))
    -- 10: one byte less
    ∷ case (whole "<r x=\"y\">1<!--c-->&lt;<![CDATA[z]]>2</r>" mixed 40 2) (refuses Refusal.NoRoom)
    -- no text: `/>`, nothing
    ∷ case (whole "<r/>" empty 4 0) (gives (ascii ""))
    ∷ case (whole "<r></r>" bare 7 0) (gives (ascii ""))
    -- 6: an element before a text and behind it; it goes before 10
    ∷ case (whole "<r><a/>1</r>" element_text 12 3) (refuses Refusal.ElementInText)
    ∷ case (whole "<r>1<a/></r>" text_element 12 0) (refuses Refusal.ElementInText)
    -- 9: an unclosed element, a mismatched tag, a token error, an attribute that comes twice, a bad reference; it goes before 6
    ∷ case (whole "<r>" unclosed 3 3) (refuses Refusal.IllFormed)
    ∷ case (whole "<r>1<a/></x>" text_element 12 3) (refuses Refusal.IllFormed)
    ∷ case (whole "<r><" error 4 3) (refuses Refusal.IllFormed)
    ∷ case (whole "<r x=\"\" x=\"\">1</r>" attributes_again 18 3) (refuses Refusal.IllFormed)
    ∷ case (whole "<r>&</r>" text1 8 3) (refuses Refusal.IllFormed)
    -- 4: no rows at all, and none of an element
    ∷ case (whole "" [] 0 3) (refuses Refusal.NoRoot)
    ∷ case (whole "<!--c-->" comment 8 3) (refuses Refusal.NoRoot)
    -- 1 goes before the others
    ∷ case (whole "<r>&</r>" (1 ∷ []) 8 3) (refuses Refusal.Table)
    ∷ [])
unfolding computed
whole_texts = refl

-- ---- "A text taken from an entry is read by the same rules, with 10, 11 or 12 alone." (Integers stand with the bodies at the edges.)
pub booleans_of_texts :
    map boolean_of (map ascii ("true" ∷ "false" ∷ "" ∷ "True" ∷ " true" ∷ "1" ∷ []))
    ≡ gives true
    ∷ gives false
    ∷ refuses Refusal.NotBoolean
    ∷ refuses Refusal.NotBoolean
    ∷ refuses Refusal.NotBoolean
    ∷ refuses Refusal.NotBoolean
    ∷ []
unfolding computed
booleans_of_texts = refl

-- with room for two bytes; nothing is unescaped again
pub strings_of_texts :
    map (string_in 2) (map ascii ("" ∷ "&<" ∷ "abc" ∷ []))
    ≡ gives (ascii "")
    ∷ gives (ascii "&<")
    ∷ refuses Refusal.NoRoom
    ∷ []
unfolding computed
strings_of_texts = refl

-- ---- "An empty part means 1 or 13 ..; a sister question gives which"
abbrev part_and_number : Search → List ℕ
part_and_number s = let a = ask_find s in (part_of a).start ∷ (part_of a).len ∷ refusal_of a ∷ []

pub parts_and_numbers : Answered part_and_number (
    case (search "<r><a>1</a><b>2</b></r>" two 23 "b") (11 ∷ 8 ∷ 0 ∷ [])
    ∷ case (search "<r><a>1</a><b>2</b></r>" two 23 "c") (0 ∷ 0 ∷ 13 ∷ [])
    ∷ case (search "<r><a>1</a><b>2</b></r>" two 24 "b") (0 ∷ 0 ∷ 1 ∷ [])
    ∷ [])
unfolding computed
parts_and_numbers = refl

-- ---- "Numbers."
pub numbers :
    map number (
    Refusal.Table
    ∷ Refusal.Sheet
    ∷ Refusal.Depth
    ∷ Refusal.NoRoot
    ∷ Refusal.RootName
    ∷ Refusal.ElementInText
    ∷ Refusal.BadReference 3
    ∷ Refusal.TokenError
    ∷ Refusal.IllFormed
    ∷ Refusal.NoRoom
    ∷ Refusal.NotBoolean
    ∷ Refusal.NotInteger
    ∷ Refusal.NoSuchElement
    ∷ [])
    ≡ 1 ∷ 2 ∷ 3 ∷ 4 ∷ 5 ∷ 6 ∷ 7 ∷ 8 ∷ 9 ∷ 10 ∷ 11 ∷ 12 ∷ 13 ∷ []
numbers = refl
