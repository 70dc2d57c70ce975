-- Which children of a collection are wanted, and "9 last".
use Rattle.std.specs.Prelude.{ℕ, Bool, true, false, List, Option, Some, None, Result, Ok, Err}
use Rattle.std.proofs.Math.Option as math
use Rattle.refusal.specs.declared.Refusal.{Refusal}
use Rattle.table.specs.Row.{Name}
use Rattle.table.specs.Names.{name_matches}
use Rattle.table.specs.declared.patterns.Pattern.{Pattern}

-- the name that a pattern asks for, if there is one
abbrev pub asked_by : Option Pattern → math.Option (List ℕ)
asked_by None = math.none
asked_by (Some p) = math.some p.whole.now

-- a name is wanted: it matches the one that is asked for, or none is
abbrev pub wanted : math.Option (List ℕ) → Name → Bool
wanted math.none m = true
wanted (math.some name) m = name_matches m name

-- "9 last": an answer, tested once the children are read
abbrev pub last_of : {A : Type 0} → Bool → Result A Refusal → Result A Refusal
last_of true (Ok a) = Err Refusal.IllFormed
last_of false (Ok a) = Ok a
last_of ill (Err why) = Err why
