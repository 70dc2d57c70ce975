-- What the value of an entry stands for in the definitions of `readings`.
use Rattle.std.specs.Prelude.{List, ℕ, Option, Some, None, Result, Ok, Err}
use Rattle.std.proofs.Math.Option as math
use Rattle.refusal.specs.declared.Refusal.{Refusal}
use Rattle.refusal.specs.Answer.{Answer, gives, refuses}
use Rattle.document.specs.declared.part.Measured.{Measured}
use Rattle.document.specs.Part.{bytes_of}
use Rattle.readings.specs.Collection.{MapValue, text, piece}
use Rattle.map.specs.declared.fields.Value.{Value}

-- a text that was measured, or a piece
abbrev pub value_at : Value → MapValue
value_at (Value.Text m) = text (bytes_of m)
value_at (Value.Piece p) = piece p

abbrev pub value_as : Result Value Refusal → Answer MapValue
value_as (Ok v) = gives (value_at v)
value_as (Err r) = refuses r

abbrev pub key_of : Option Measured → math.Option (List ℕ)
key_of None = math.none
key_of (Some m) = math.some (bytes_of m)

abbrev pub value_of : Option Value → math.Option MapValue
value_of None = math.none
value_of (Some v) = math.some (value_at v)
