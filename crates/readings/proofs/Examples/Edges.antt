-- 01, "Bodies at the edges". The P bodies, all twelve marks, in one statement over one list; and the others, computed by the definitions as
-- well (a program will run them too). The tables are the tokenizer's own, and the answers are 01's.
use Prim.Native.Nat.{ℕ}
use Prim.Native.String.{String}
use mathlib.Core.Path.{◌≡◌, refl}
use mathlib.Core.List.{List, [], ◌∷◌, ◌++◌, map}
use lib.IntN.{pos, negsuc}
use lib.ListN.{length}
use Rattle.std.specs.Prelude.{Err, Ok, Result}
use Rattle.lists.specs.Bytes.{ascii}
use Rattle.refusal.specs.declared.Refusal.{Refusal}
use Rattle.refusal.specs.Answer.{gives, refuses}
use Rattle.reference.specs.Text.{Out, bytes, bad, validated, unescaped}
use Rattle.reference.specs.declared.BadReference.{BadReference}
use Rattle.xml.specs.declared.Cause.{Cause}
use Rattle.xml.specs.declared.DrainError.{DrainError}
use Rattle.xml.specs.Drain.{drained}
use Rattle.readings.specs.Output.{Told}
use Rattle.readings.specs.Shape.{Shape, structure}
use Rattle.readings.specs.Scalar.{integer_of}
use Rattle.readings.proofs.Examples.Asking.{reading, ask, answer, case, Answered, plain, lenient, strict, enough, named, scalars_ab}
use Rattle.readings.proofs.Examples.Tables.{empty, one, one_text, two, unclosed, attributes_two, attribute_first}
use Rattle.readings.proofs.All.{computed}

-- ---- the P marks
pub data Mark : Type 0 where
  -- a text that both reference operations are asked about
  references : String → Mark
  -- a body and its table for the drain, and then for a strict structure reading
  drain : String → List ℕ → Mark
  -- a body and its table for a strict list reading
  list : String → List ℕ → Mark

pub data Reply : Type 0 where
  references : Result (Unit {0}) BadReference → Out → Reply
  drain : Result (Unit {0}) DrainError → Told → Reply
  list : Told → Reply

abbrev tell : Mark → Reply
tell (Mark.references text) = Reply.references (validated (ascii text)) (unescaped (ascii text))
tell (Mark.drain body table) =
    Reply.drain (drained (ascii body) table (length (ascii body)))
    (ask (reading structure body table (length (ascii body)) (plain (0 ∷ [])) strict 0 enough))
tell (Mark.list body table) = Reply.list (ask (reading Shape.list body table (length (ascii body)) (0 ∷ []) strict 0 enough))

pub examples :
    map tell (
    Mark.references "&#x41;&lt;"
    ∷ Mark.references "&#+65;"
    ∷ Mark.references "&#0;"
    ∷ Mark.references "&#xD800;"
    ∷ Mark.references "&#x110000;"
    ∷ Mark.references "&#x10FFFF;"
    ∷ Mark.references "&#xFFFE;"
    ∷ Mark.references "a&b"
    ∷ Mark.drain "<a><b></a></b>" one
    ∷ Mark.drain "<a>" unclosed
    ∷ Mark.drain "" []
    ∷ Mark.list "<r><b>7</b></r>" one_text
    ∷ [])
    ≡ Reply.references (Ok tt) (bytes (ascii "A<"))
    ∷ Reply.references (Err (record { at = 0 })) (bytes (ascii "A"))
    ∷ Reply.references (Err (record { at = 0 })) (bytes (0 ∷ []))
    ∷ Reply.references (Err (record { at = 0 })) (bad 0)
    ∷ Reply.references (Err (record { at = 0 })) (bad 0)
    ∷ Reply.references (Ok tt) (bytes (0xF4 ∷ 0x8F ∷ 0xBF ∷ 0xBF ∷ []))
    ∷ Reply.references (Err (record { at = 0 })) (bytes (0xEF ∷ 0xBF ∷ 0xBE ∷ []))
    ∷ Reply.references (Err (record { at = 1 })) (bad 1)
    ∷ Reply.drain (Err (DrainError.IllFormed 4 Cause.MismatchedEnd)) (answer 9 0 [] "")
    ∷ Reply.drain (Err (DrainError.IllFormed 2 Cause.UnclosedElement)) (answer 9 0 [] "")
    ∷ Reply.drain (Ok tt) (answer 4 0 [] "")
    ∷ Reply.list (answer 0 1 (2 ∷ 0 ∷ 0 ∷ 0 ∷ 3 ∷ 8 ∷ []) "")
    ∷ []
unfolding computed
examples = refl

-- ---- the others
pub edges : Answered ask (
    -- "Depth 127 of 128 is entered; 128 gives 3."
    case (reading structure "<r/>" empty 4 (plain (0 ∷ [])) lenient 127 enough) (answer 0 0 [] "")
    ∷ case (reading structure "<r/>" empty 4 (plain (0 ∷ [])) lenient 128 enough) (answer 3 0 [] "")
    -- "`<r><n>1</n><n>2</n></r>`, n flattened aggregate: one group of 33 bytes."
    ∷ case (reading structure "<r><n>1</n><n>2</n></r>" two 23 (plain (1 ∷ 26 ∷ named "n")) strict 0 enough)
    (answer 0 1 (3 ∷ 0 ∷ 0 ∷ 0 ∷ 0 ∷ 33 ∷ []) "<__flat><n>1</n><n>2</n></__flat>")
    -- "Strict `<r x=\"1\" x=\"2\"/>`: 4 from a structure reading, 9 from the drain."
    ∷ case (reading structure "<r x=\"1\" x=\"2\"/>" attributes_two 16 (plain (0 ∷ [])) strict 0 enough) (answer 4 0 [] "")
    -- "Lenient `<r><a x=\"&zz;\">1</a><b>2</b></r>`: no entry at all, success."
    ∷ case (reading structure "<r><a x=\"&zz;\">1</a><b>2</b></r>" attribute_first 32 scalars_ab lenient 0 enough) (answer 0 0 [] "")
    -- "Lenient `<r><a>1</b><c>2</c></r>`, a and c scalar: one text `1`; c is never seen."
    ∷ case (reading structure "<r><a>1</b><c>2</c></r>" two 23 (plain (2 ∷ 2 ∷ named "a" ++ (2 ∷ named "c"))) lenient 0 enough)
    (answer 0 1 (1 ∷ 0 ∷ 0 ∷ 0 ∷ 0 ∷ 1 ∷ []) "1")
    ∷ [])
unfolding computed
edges = refl

-- "Strict `<r x=\"1\" x=\"2\"/>`: 4 from a structure reading, 9 from the drain."
pub repeated_attribute : drained (ascii "<r x=\"1\" x=\"2\"/>") attributes_two 16 ≡ Err (DrainError.IllFormed 2 Cause.RepeatedAttribute)
unfolding computed
repeated_attribute = refl

pub integers :
    map integer_of (map ascii ("2147483647" ∷ "2147483648" ∷ "+5" ∷ "-2147483648" ∷ "-2147483649" ∷ "-0" ∷ "" ∷ "+" ∷ " 5" ∷ "007" ∷ []))
    ≡ gives (pos 2147483647)
    ∷ refuses Refusal.NotInteger
    ∷ gives (pos 5)
    ∷ gives (negsuc 2147483647)
    ∷ refuses Refusal.NotInteger
    ∷ gives (pos 0)
    ∷ refuses Refusal.NotInteger
    ∷ refuses Refusal.NotInteger
    ∷ refuses Refusal.NotInteger
    ∷ gives (pos 7)
    ∷ []
unfolding computed
integers = refl
