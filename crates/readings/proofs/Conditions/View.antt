-- What a reading sees of a table where the drain fails or a token error stands: the condition of 9, and what is met when the rows run out,
-- both said of the table and not of the view.
use Prim.Native.Nat.{ℕ}
use mathlib.Core.Path.{◌≡◌, refl, sym, ◌∙◌, ap, subst}
use mathlib.Core.Logic.{◌↔◌}
use mathlib.Core.Bool.{Bool, true, false}
use mathlib.Core.Option.{Option, none, some, none-ne-some, some-injective}
use Rattle.std.specs.Prelude.{Err, Ok, Result}
use Rattle.lists.proofs.Tests.{false_true}
use Rattle.refusal.specs.declared.Refusal.{Refusal}
use Rattle.table.specs.Row.{rows_of, toks_of}
use Rattle.table.specs.Rules.{TableRules}
use Rattle.table.specs.Test.{dec_table}
use Rattle.xml.specs.declared.Cause.{Cause}
use Rattle.xml.specs.declared.DrainError.{DrainError}
use Rattle.xml.specs.Drain.{walked, drained, drained_by, cause_place}
use Rattle.xml.proofs.First.{not_ill}
use Rattle.document.specs.View.{view, failure_of, strict_view, lenient_view, error_at}
use Rattle.readings.specs.Call.{Upload}
use Rattle.readings.specs.Opening.{Opened}
use Rattle.readings.proofs.Conditions.Opening.{OpenedAs}

-- answers of the drain are told apart
abbrev is_table : Result (Unit {0}) DrainError → Bool
is_table (Ok u) = false
is_table (Err DrainError.Table) = true
is_table (Err (DrainError.IllFormed k c)) = false

table_not_ill : {A : Type 0} {k : ℕ} {c : Cause} →
    ◌≡◌ {A = Result (Unit {0}) DrainError} (Err DrainError.Table) (Err (DrainError.IllFormed k c)) → A
table_not_ill e = false_true (sym (ap is_table e))

module _ (u : Upload) where
  -- "9 ill-formed": the reading is strict, and the drain of the table answers 9
  pub record DrainFails (strict : Bool) : Type 0 where
    pub strictly : strict ≡ true
    pub row : ℕ
    pub cause : Cause
    pub drain : drained u.body u.rows u.end ≡ Err (DrainError.IllFormed row cause)

  -- what a text meets where the rows run out: under strict reading the cause that the drain gives, 8, 9 or 7, with its place; otherwise 8,
  -- at a token error
  pub data Stopped : Bool → Refusal → Type 0 where
    at_drain : {row : ℕ} {cause : Cause} → drained u.body u.rows u.end ≡ Err (DrainError.IllFormed row cause)
        → Stopped true (failure_of (cause_place u.body (rows_of u.rows) row cause) cause)
    at_error : {k : ℕ} → error_at (toks_of u.body (rows_of u.rows)) ≡ some k → Stopped false Refusal.TokenError

  -- the walk is the drain, where the rules hold
  drained_walk : TableRules u.body u.rows u.end
      → drained u.body u.rows u.end ≡ walked (toks_of u.body (rows_of u.rows))
  unfolding drained
  drained_walk t = go (dec_table u.body u.rows u.end)
    where
      go : (d : Dec (TableRules u.body u.rows u.end))
          → drained_by d (toks_of u.body (rows_of u.rows)) ≡ walked (toks_of u.body (rows_of u.rows))
      go (yes rules) = refl
      go (no broken) = absurd (broken t)

  view_fails : (strict : Bool) → TableRules u.body u.rows u.end
      → ((view strict u.body (rows_of u.rows) u.end).ill_formed ≡ true) ↔ DrainFails strict
  unfolding view
  view_fails true t = (
    go (walked (toks_of u.body (rows_of u.rows))) (drained_walk t),
    λ w. back (walked (toks_of u.body (rows_of u.rows))) (drained_walk t) w,
  )
    where
      go : (x : Result (Unit {0}) DrainError) → drained u.body u.rows u.end ≡ x
          → (strict_view u.body (rows_of u.rows) u.end x).ill_formed ≡ true
          → DrainFails true
      go (Ok u) p e = false_true e
      go (Err DrainError.Table) p e = false_true e
      go (Err (DrainError.IllFormed k c)) p e = record { strictly = refl; row = k; cause = c; drain = p }

      back : (x : Result (Unit {0}) DrainError) → drained u.body u.rows u.end ≡ x → DrainFails true
          → (strict_view u.body (rows_of u.rows) u.end x).ill_formed ≡ true
      back (Ok u) p w = not_ill (sym p ∙ w.drain)
      back (Err DrainError.Table) p w = table_not_ill (sym p ∙ w.drain)
      back (Err (DrainError.IllFormed k c)) p w = refl
  view_fails false t = (go (error_at (toks_of u.body (rows_of u.rows))), λ w. false_true w.strictly)
    where
      go : (x : Option ℕ) → (lenient_view (rows_of u.rows) u.end x).ill_formed ≡ true → DrainFails false
      go none e = false_true e
      go (some k) e = false_true e

  view_stops : (strict : Bool) → TableRules u.body u.rows u.end → (r : Refusal)
      → ((view strict u.body (rows_of u.rows) u.end).failure ≡ some r) ↔ Stopped strict r
  unfolding view
  view_stops true t r = (
    go (walked (toks_of u.body (rows_of u.rows))) (drained_walk t),
    back (walked (toks_of u.body (rows_of u.rows))) (drained_walk t),
  )
    where
      go : (x : Result (Unit {0}) DrainError) → drained u.body u.rows u.end ≡ x
          → (strict_view u.body (rows_of u.rows) u.end x).failure ≡ some r
          → Stopped true r
      go (Ok u) p e = absurd (none-ne-some r e)
      go (Err DrainError.Table) p e = absurd (none-ne-some r e)
      go (Err (DrainError.IllFormed k c)) p e = subst (Stopped true) (some-injective _ _ e) (at_drain p)

      back : (x : Result (Unit {0}) DrainError) → drained u.body u.rows u.end ≡ x → {n : Refusal} → Stopped true n
          → (strict_view u.body (rows_of u.rows) u.end x).failure ≡ some n
      back x p (at_drain e) = ap (λ (y : Result (Unit {0}) DrainError). (strict_view u.body (rows_of u.rows) u.end y).failure) (sym p ∙ e)
  view_stops false t r = (go (error_at (toks_of u.body (rows_of u.rows))) refl, back)
    where
      go : (x : Option ℕ) → error_at (toks_of u.body (rows_of u.rows)) ≡ x → (lenient_view (rows_of u.rows) u.end x).failure ≡ some r
          → Stopped false r
      go none p e = absurd (none-ne-some r e)
      go (some k) p e = subst (Stopped false) (some-injective _ _ e) (at_error p)

      back : {n : Refusal} → Stopped false n
          → (lenient_view (rows_of u.rows) u.end (error_at (toks_of u.body (rows_of u.rows)))).failure ≡ some n
      back (at_error e) = rw e

  -- the same of what is opened
  pub opened_fails : {strict : Bool} {o : Opened} → OpenedAs u strict o → (o.seen.ill_formed ≡ true) ↔ DrainFails strict
  opened_fails {strict} w = rw w.seen (view_fails strict w.rules)

  pub opened_stops : {strict : Bool} {o : Opened} → OpenedAs u strict o → (r : Refusal) → (o.seen.failure ≡ some r) ↔ Stopped strict r
  opened_stops {strict} w r = rw w.seen (view_stops strict w.rules r)
