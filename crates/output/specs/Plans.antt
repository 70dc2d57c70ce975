-- The plans that the methods perform (readings/specs/Plan.antt), of what they are lent.
use Rattle.std.specs.Prelude.{ℕ, List, [], ◌++◌, Result}
use Rattle.refusal.specs.declared.Refusal.{Refusal}
use Rattle.refusal.specs.Answer.{Answer, gives, refuses}
use Rattle.document.specs.declared.part.Piece.{Piece}
use Rattle.document.specs.declared.part.Text.{Text}
use Rattle.document.specs.declared.part.Measured.{Measured}
use Rattle.document.specs.Part.{text_at, given, bytes_of}
use Rattle.readings.specs.Output.{text_entry, piece_entry, group_entry, failed_entry, key_text_entry, key_piece_entry}
use Rattle.readings.specs.Plan.{Plan, stop, one}
use Rattle.readings.specs.Structure.{scalar_plan}
use Rattle.output.specs.declared.entry.Entry.{Entry}
use Rattle.output.specs.Entry.{entry_of}

-- an entry, and no text
unfoldable pub put_entry : Entry → Plan
put_entry e = one (λ (at : ℕ). entry_of e) []

unfoldable pub put_piece : ℕ → Piece → Plan
put_piece member p = one (piece_entry member p) []

unfoldable pub put_failed : ℕ → Refusal → Plan
put_failed member why = one (failed_entry member why) []

-- a text whose references are right
unfoldable pub put_measured : ℕ → Measured → Plan
put_measured member t = let l = bytes_of t in one (text_entry member l) l

-- a text that was unescaped, or a refusal: a string list's item
abbrev pub text_or : ℕ → Answer (List ℕ) → Plan
text_or member (gives l) = one (text_entry member l) l
text_or member (refuses r) = stop r

unfoldable pub put_text : ℕ → Text → Plan
put_text member t = text_or member (text_at t)

-- a text that was unescaped, or an entry of kind 4: a structure's scalar
unfoldable pub put_scalar : ℕ → Result Text Refusal → Plan
put_scalar member t = scalar_plan member (given t)

-- a map entry, of texts whose references are right
unfoldable pub put_key_text : Measured → Measured → Plan
put_key_text key value = let k = bytes_of key in let v = bytes_of value in one (key_text_entry k v) (k ++ v)

unfoldable pub put_key_piece : Measured → Piece → Plan
put_key_piece key p = let k = bytes_of key in one (key_piece_entry k p) k

-- the bytes of a group
unfoldable pub put_group : ℕ → List ℕ → Plan
put_group member l = one (group_entry member l) l
