-- "9 last": an answer of a plan, and the test after it.
use mathlib.Core.Path.{refl}
use mathlib.Core.Bool.{Bool, true, false}
use Rattle.std.specs.Prelude.{Result, Ok, Err}
use Rattle.refusal.specs.declared.Refusal.{Refusal}
use Rattle.readings.specs.Plan.{Plan, followed_by, end_test}
use Rattle.output.specs.declared.Output.{Output}
use Rattle.output.specs.Held.{Does}
use Rattle.output.proofs.Then.{does_then, does_stop, tested_well, tested_ill}
use Rattle.opening.specs.Wanted.{last_of}

pub last_does : (p : Plan) (ill : Bool) {b b' : Output} {got : Result (Unit {0}) Refusal} → Does p b b' got
    → Does (followed_by p (end_test ill)) b b' (last_of ill got)
last_does p ill {b} {b'} {got} d = go ill got d
  where
    go : (ill : Bool) (got : Result (Unit {0}) Refusal) → Does p b b' got → Does (followed_by p (end_test ill)) b b' (last_of ill got)
    go true (Ok x) d = does_then p (end_test true) d (tested_ill b' refl)
    go false (Ok x) d = does_then p (end_test false) d (tested_well b' refl)
    go true (Err why) d = does_stop p (end_test true) d
    go false (Err why) d = does_stop p (end_test false) d
