-- Change request 1: the place of the failing `&`, "as a body offset": beside 7, in the length field of an entry of kind 4 whose number is
-- 7, and of the drain's cause. The Rust has no place; the answers are the request's words.
use Prim.Native.Nat.{ℕ}
use Prim.Native.String.{String}
use mathlib.Core.Path.{refl}
use mathlib.Core.List.{List, [], ◌∷◌}
use lib.ListN.{length}
use Rattle.std.specs.Prelude.{Result, Ok, Err}
use Rattle.lists.specs.Bytes.{ascii}
use Rattle.refusal.specs.declared.Refusal.{Refusal}
use Rattle.refusal.specs.Answer.{Answer, refuses}
use Rattle.table.specs.Row.{rows_of}
use Rattle.xml.specs.declared.Cause.{Cause}
use Rattle.xml.specs.declared.DrainError.{DrainError}
use Rattle.xml.specs.Drain.{drained, drain_place}
use Rattle.sheet.specs.declared.Settings.{Settings}
use Rattle.readings.specs.Call.{uploaded}
use Rattle.readings.specs.Scalar.{string_reading}
use Rattle.readings.specs.Shape.{structure, map, strings}
use Rattle.readings.proofs.Examples.Asking.{reading, ask, answer, answer_at, case, Answered, lenient, strict, shape, enough, scalar_a}
use Rattle.readings.proofs.Examples.Asking.{scalars_ab, keyed}
use Rattle.readings.proofs.Examples.Tables.{one_text5, one_text10, two, nested_text, nested_empty, unclosed, attribute, text10}
use Rattle.readings.proofs.All.{computed}

-- ---- readings with a sheet
pub places : Answered ask (
    -- the `&` itself, not the text's start; strict the same
    case (reading strings "<r><a>1&zz;</a></r>" one_text5 19 (0 ∷ []) lenient 0 enough) (answer_at 7 7 0 [] "")
    ∷ case (reading strings "<r><a>1&zz;</a></r>" one_text5 19 (0 ∷ []) strict 0 enough) (answer_at 7 7 0 [] "")
    -- `&#+65;` unescapes and does not validate: lenient the place is that of unescaping, strict that of validation
    ∷ case (reading strings "<r><a>&#+65;&zz;</a></r>" one_text10 24 (0 ∷ []) lenient 0 enough) (answer_at 7 12 0 [] "")
    ∷ case (reading strings "<r><a>&#+65;&zz;</a></r>" one_text10 24 (0 ∷ []) strict 0 enough) (answer_at 7 6 0 [] "")
    -- of a map, in a value
    ∷ case (reading map "<m><e><v>&</v></e></m>" nested_text 22 keyed lenient 0 enough) (answer_at 7 9 0 [] "")
    -- an entry of kind 4: 7 has its place as length, 6 keeps 0
    ∷ case (reading structure "<r><a>&</a><b><c/></b></r>" nested_empty 26 scalars_ab lenient 0 enough)
    (answer 0 2 (4 ∷ 0 ∷ 0 ∷ 0 ∷ 7 ∷ 6 ∷ 4 ∷ 1 ∷ 0 ∷ 0 ∷ 6 ∷ 0 ∷ []) "")
    -- two of them: each its own
    ∷ case (reading structure "<r><a>&</a><b>&</b></r>" two 23 scalars_ab lenient 0 enough)
    (answer 0 2 (4 ∷ 0 ∷ 0 ∷ 0 ∷ 7 ∷ 6 ∷ 4 ∷ 1 ∷ 0 ∷ 0 ∷ 7 ∷ 14 ∷ []) "")
    -- strict: the place of validation; the reading's own number is 9 then, with no place
    ∷ case (reading structure "<r><a>&#+65;&zz;</a></r>" one_text10 24 scalar_a lenient 0 enough)
    (answer 0 1 (4 ∷ 0 ∷ 0 ∷ 0 ∷ 7 ∷ 12 ∷ []) "")
    ∷ case (reading structure "<r><a>&#+65;&zz;</a></r>" one_text10 24 scalar_a strict 0 enough)
    (answer 9 1 (4 ∷ 0 ∷ 0 ∷ 0 ∷ 7 ∷ 6 ∷ []) "")
    ∷ [])
unfolding computed
places = refl

-- ---- scalars
abbrev as_string : Settings → Answer (List ℕ)
as_string settings = string_reading (uploaded (ascii "<a>&#+65;&zz;</a>") text10 17) settings (shape 0) 8

pub scalar_places : Answered as_string (
    case lenient (refuses (Refusal.BadReference 9))
    ∷ case strict (refuses (Refusal.BadReference 3))
    ∷ [])
unfolding computed
scalar_places = refl

-- ---- the drain's cause
pub data Drain : Type 0 where
  drain : (body : String) (table : List ℕ) → Drain

pub data Found : Type 0 where
  found : Result (Unit {0}) DrainError → ℕ → Found

abbrev ask_drain : Drain → Found
ask_drain (drain body table) =
    let d = drained (ascii body) table (length (ascii body)) in
    found d (drain_place (ascii body) (rows_of table) d)

pub drain_places : Answered ask_drain (
    -- in a text, and in an attribute's value
    case (drain "<r><a>1&zz;</a></r>" one_text5) (found (Err (DrainError.IllFormed 4 Cause.BadReference)) 7)
    ∷ case (drain "<r><a>&#+65;&zz;</a></r>" one_text10) (found (Err (DrainError.IllFormed 4 Cause.BadReference)) 6)
    ∷ case (drain "<r x=\"&lt \"/>" attribute) (found (Err (DrainError.IllFormed 1 Cause.BadReference)) 6)
    -- another cause has no place, nor has a table that passes or breaks a rule
    ∷ case (drain "<r>" unclosed) (found (Err (DrainError.IllFormed 2 Cause.UnclosedElement)) 0)
    ∷ case (drain "<r><a>12345</a></r>" one_text5) (found (Ok tt) 0)
    ∷ case (drain "<r>" (1 ∷ [])) (found (Err DrainError.Table) 0)
    ∷ [])
unfolding computed
drain_places = refl
