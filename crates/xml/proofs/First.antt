-- THEOREM 3: where the drain says 9, its row and its cause are those of the first fault.
use Prim.Native.Nat.{ℕ, zero, suc}
use mathlib.Core.Path.{◌≡◌, refl, sym, ap, ◌∙◌}
use mathlib.Core.Logic.{◌↔◌}
use mathlib.Core.List.{List, [], ◌∷◌, ◌++◌, append-nil, append_assoc, cons≢nil}
use native.Mathlib.Omega.{arith}
use lib.ListN.{length, length-append}
use Rattle.table.specs.Row.{Name, Tok, rows_of, toks_of}
use Rattle.table.specs.Rules.{TableRules}
use Rattle.xml.specs.declared.Cause.{Cause}
use Rattle.xml.specs.declared.DrainError.{DrainError}
use Rattle.xml.specs.Passed.{opens, open_after, attributes, names_after, Fault, Faultless, FirstFault, at_row, at_the_end}
use Rattle.table.specs.Test.{dec_table}
use Rattle.xml.specs.Drain.{State, going, failed, step, walk, verdict, walked, drained_by, drained}
use Rattle.xml.proofs.Fault.{Cuts, same_cut, earlier, later, cuts, faultless_none, faultless_more, one_fault, Stepped, goes_on}
use Rattle.xml.proofs.Fault.{stops, stepped}
use Rattle.std.specs.Prelude.{Result, Ok, Err}

-- ---- what the walk over toks comes to
pub data Said (toks : List Tok) : State → Type 0 where
  through : {s a : List Name} → opens [] toks ≡ s → Faultless toks → Said toks (going s a)
  stopped : {k : ℕ} {c : Cause} (a : List Tok) (t : Tok) (b : List Tok) → toks ≡ a ++ (t ∷ b) → k ≡ length a → Faultless a → Fault a t c
      → Said toks (failed k c)

opens_more : (s : List Name) (b : List Tok) (t : Tok) → opens s (b ++ (t ∷ [])) ≡ open_after (opens s b) t
unfolding opens
opens_more s [] t = refl
opens_more s (x ∷ b) t = opens_more (open_after s x) b t

attributes_more : (a : List Name) (b : List Tok) (t : Tok) → attributes a (b ++ (t ∷ [])) ≡ names_after (attributes a b) t
unfolding attributes
attributes_more a [] t = refl
attributes_more a (x ∷ b) t = attributes_more (names_after a x) b t

failed_stays : (j k : ℕ) (c : Cause) (l : List Tok) → walk j (failed k c) l ≡ failed k c
unfolding walk
failed_stays j k c [] = refl
failed_stays j k c (t ∷ l) = refl

-- after tokens b without a fault, the walk keeps their open elements and attributes
walk_said : (toks b l : List Tok) (k : ℕ) → toks ≡ b ++ l → length b ≡ k → Faultless b
    → Said toks (walk k (going (opens [] b) (attributes [] b)) l)
unfolding walk
walk_said toks b [] k e n h = let q : toks ≡ b = e ∙ append-nil b in through (ap (opens []) q) (rw q h)
walk_said toks b (t ∷ l) k e n h =
    go (step k (opens [] b) (attributes [] b) t) (stepped b k t)
    (walk_said toks (b ++ (t ∷ [])) l (suc k) (e ∙ sym (append_assoc b (t ∷ []) l)) (omega (arith, length-append b (t ∷ []))))
  where
    go : (st : State) → Stepped b t k st
        → (Faultless (b ++ (t ∷ [])) → Said toks (walk (suc k) (going (opens [] (b ++ (t ∷ []))) (attributes [] (b ++ (t ∷ [])))) l))
        → Said toks (walk (suc k) st l)
    go st (goes_on p q f) ih = rw (← p, ← q, ← opens_more [] b t, ← attributes_more [] b t) (ih (faultless_more h f))
    go st (stops {c = c} f) ih = rw (failed_stays (suc k) k c l) (stopped b t l e (sym n) h f)

pub said : (toks : List Tok) → Said toks (walk zero (going [] []) toks)
unfolding opens attributes
said toks = walk_said toks [] toks zero refl refl faultless_none

-- a list of tokens has one first fault at most
pub one_first : {toks : List Tok} {i j : ℕ} {c d : Cause} → FirstFault toks i c → FirstFault toks j d → (i ≡ j) × (c ≡ d)
one_first {toks} {i} {j} {c} {d} (at_row a t x p n h f) (at_row b s y q m g e) = go (cuts a t x b s y (sym p ∙ q))
  where
    go : Cuts a t b s → (i ≡ j) × (c ≡ d)
    go (same_cut u w) = (n ∙ ap length u ∙ sym m, one_fault f (rw (u, w) e))
    go (earlier r u) = absurd (g.none a t r c u f)
    go (later r u) = absurd (h.none b s r d u e)
one_first {c = c} (at_row a t x p n h f) (at_the_end m q g e) = absurd (g.none a t x c p f)
one_first {d = d} (at_the_end n p h f) (at_row b s y q m g e) = absurd (h.none b s y d q e)
one_first (at_the_end n p h f) (at_the_end m q g e) = (n ∙ sym m, p ∙ sym q)

-- ---- answers are told apart
pub not_ill {ℓ} : {A : Type ℓ} {i : ℕ} {c : Cause} → ◌≡◌ {A = Result (Unit {0}) DrainError} (Ok tt) (Err (DrainError.IllFormed i c)) → A
not_ill e = let z : ◌≡◌ {A = ℕ} 0 1 = cc in absurd (omega arith)

not_table {ℓ} : {A : Type ℓ} {i : ℕ} {c : Cause}
    → ◌≡◌ {A = Result (Unit {0}) DrainError} (Err (DrainError.IllFormed i c)) (Err DrainError.Table) → A
not_table e = let z : ◌≡◌ {A = ℕ} 0 1 = cc in absurd (omega arith)

pub passes_not_table {ℓ} : {A : Type ℓ} → ◌≡◌ {A = Result (Unit {0}) DrainError} (Ok tt) (Err DrainError.Table) → A
passes_not_table e = let z : ◌≡◌ {A = ℕ} 0 1 = cc in absurd (omega arith)

table_not_ill {ℓ} : {A : Type ℓ} {i : ℕ} {c : Cause}
    → ◌≡◌ {A = Result (Unit {0}) DrainError} (Err DrainError.Table) (Err (DrainError.IllFormed i c)) → A
table_not_ill e = let z : ◌≡◌ {A = ℕ} 0 1 = cc in absurd (omega arith)

-- ---- what the walk's answer is
pub data Answer (toks : List Tok) : Result (Unit {0}) DrainError → Type 0 where
  clean : Faultless toks → opens [] toks ≡ [] → Answer toks (Ok tt)
  faulty : {i : ℕ} {c : Cause} → FirstFault toks i c → Answer toks (Err (DrainError.IllFormed i c))

pub answer : (toks : List Tok) → Answer toks (walked toks)
unfolding walked
answer toks = go (walk zero (going [] []) toks) (said toks)
  where
    go : (st : State) → Said toks st → Answer toks (verdict (length toks) st)
    go st (through {s = []} p h) = clean h p
    go st (through {s = n ∷ s} p h) = faulty (at_the_end refl refl h (λ q. cons≢nil (sym p ∙ q)))
    go st (stopped a t b e n h f) = faulty (at_row a t b e n h f)

-- ---- THEOREM 3
-- the walk says 9 with a row and a cause exactly where these are the first fault's
pub walk_ill_formed_is : (toks : List Tok) (row : ℕ) (cause : Cause)
    → walked toks ≡ Err (DrainError.IllFormed row cause) ↔ FirstFault toks row cause
walk_ill_formed_is toks row cause = (λ e. there (walked toks) (answer toks) e, λ f. back (walked toks) (answer toks) f)
  where
    there : (x : Result (Unit {0}) DrainError) → Answer toks x → x ≡ Err (DrainError.IllFormed row cause) → FirstFault toks row cause
    there x (clean h p) e = not_ill e
    there x (faulty {i = i} {c = c} f) e =
        let p : i ≡ row = cc in
        let q : c ≡ cause = cc in
        rw (← p, ← q) f

    back : (x : Result (Unit {0}) DrainError) → Answer toks x → FirstFault toks row cause → x ≡ Err (DrainError.IllFormed row cause)
    back x (clean h p) (at_row a t b e n g f) = absurd (h.none a t b cause e f)
    back x (clean h p) (at_the_end n q g f) = absurd (f p)
    back x (faulty {i = i} {c = c} g) f = let u = one_first g f in let p : i ≡ row = u.0 in let q : c ≡ cause = u.1 in cc

-- the walk itself never says 1
pub walk_not_table : (toks : List Tok) → walked toks ≡ Err DrainError.Table → ⊥
walk_not_table toks = go (walked toks) (answer toks)
  where
    go : (x : Result (Unit {0}) DrainError) → Answer toks x → x ≡ Err DrainError.Table → ⊥
    go x (clean h p) e = passes_not_table e
    go x (faulty f) e = not_table e

-- the drain, by any decision of the rules
module _ (body table : List ℕ) (final : ℕ) where
  -- it says 1 exactly where the rules do not hold
  pub drain_table_is : (d : Dec (TableRules body table final))
      → drained_by d (toks_of body (rows_of table)) ≡ Err DrainError.Table ↔ (TableRules body table final → ⊥)
  drain_table_is (yes p) = (λ e. absurd (walk_not_table (toks_of body (rows_of table)) e), λ f. absurd (f p))
  drain_table_is (no f) = (λ e. f, λ g. refl)

  -- it says 9 with a row and a cause exactly where the rules hold and these are the first fault's
  pub drain_ill_formed_is : (d : Dec (TableRules body table final)) (row : ℕ) (cause : Cause)
      → drained_by d (toks_of body (rows_of table)) ≡ Err (DrainError.IllFormed row cause) ↔
      (TableRules body table final × FirstFault (toks_of body (rows_of table)) row cause)
  drain_ill_formed_is (yes p) row cause =
      let w = walk_ill_formed_is (toks_of body (rows_of table)) row cause in
      (λ e. (p, w.0 e), λ h. w.1 h.1)
  drain_ill_formed_is (no f) row cause = (λ e. table_not_ill e, λ h. absurd (f h.0))

-- theorem 3, of the drain: it answers 9 exactly with the first failing row and its cause, and 1 exactly where a rule is broken
pub drained_ill_formed_is : (body table : List ℕ) (final row : ℕ) (cause : Cause)
    → (drained body table final ≡ Err (DrainError.IllFormed row cause)) ↔
    (TableRules body table final × FirstFault (toks_of body (rows_of table)) row cause)
unfolding drained
drained_ill_formed_is body table final row cause = drain_ill_formed_is body table final (dec_table body table final) row cause

pub drained_table_is : (body table : List ℕ) (final : ℕ)
    → (drained body table final ≡ Err DrainError.Table) ↔ (TableRules body table final → ⊥)
unfolding drained
drained_table_is body table final = drain_table_is body table final (dec_table body table final)
