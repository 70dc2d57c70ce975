-- The digits of an integer: "range of 32 bits".
use Rattle.std.specs.Prelude.{ℕ, ℤ, ◌^◌, leb, Option, None, Some}
use Rattle.lists.specs.Tests.{pick}
use Rattle.refusal.specs.declared.Refusal.{Refusal}
use Rattle.refusal.specs.Answer.{Answer, gives, refuses}

-- a number that is in some range: none is greater than 2^31, with a sign or without
abbrev pub bounded : Option ℕ → Option ℕ
bounded None = None
bounded (Some n) = pick (leb n (2 ^ 31)) (Some n) None

-- an integer, or 12 ("NotInteger") where there is none
abbrev pub integer_or : Option ℤ → Answer ℤ
integer_or None = refuses Refusal.NotInteger
integer_or (Some n) = gives n
