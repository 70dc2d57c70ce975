-- Laws for the drain as an open operation, one for each case.
use Prim.Native.Nat.{ℕ}
use mathlib.Core.Path.{◌≡◌}
use mathlib.Core.List.{List}
use Rattle.std.specs.Prelude.{Result, Ok, Err}
use Rattle.refusal.specs.declared.Refusal.{Refusal}
use Rattle.refusal.specs.Numbers.{number}
use Rattle.table.specs.Row.{rows_of, toks_of}
use Rattle.table.specs.declared.rows.ValidTable.{ValidTable}
use Rattle.xml.specs.declared.Cause.{Cause}
use Rattle.xml.specs.declared.DrainError.{DrainError}
use Rattle.xml.specs.Drain.{walked, drained}
use Rattle.decode.proofs.Walking.{drain_walked}
use Rattle.falzheod.specs.Numbers.{finished, cause_number, DrainCall}

-- the walk over a table that obeys the rules is the drain
pub drained_as : {body t : List ℕ} {final : ℕ} (v : ValidTable) → (v.body.now ≡ body) × (v.rows.now ≡ t) × (v.end ≡ final)
    → {r : Result (Unit {0}) DrainError} → r ≡ walked (toks_of v.body.now (rows_of v.rows.now)) → r ≡ drained body t final
drained_as v s q = rw (s.0, s.1, s.2) at (drain_walked v.body.now v.rows.now v.end v.obeys q)

-- ---- what is told of each case
module _ (d : Result (Unit {0}) DrainError) {x : Result (Unit {0}) DrainError} (q : x ≡ d) where
  pub call_passes : x ≡ Ok tt → DrainCall d 0 0 finished
  call_passes e = record { number = rw (← q, e); first = rw (← q, e); why = rw (← q, e) }

  pub call_table : x ≡ Err DrainError.Table → {r : ℕ} → r ≡ number Refusal.Table → DrainCall d 0 0 r
  call_table e n = record { number = rw (← q, e) n; first = rw (← q, e); why = rw (← q, e) }

  pub call_ill_formed : {row n : ℕ} {cause : Cause} → x ≡ Err (DrainError.IllFormed row cause) → n ≡ cause_number cause
      → {r : ℕ} → r ≡ number Refusal.IllFormed → DrainCall d row n r
  call_ill_formed e c n = record { number = rw (← q, e) n; first = rw (← q, e); why = rw (← q, e) c }
