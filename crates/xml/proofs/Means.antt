-- THEOREM 2: the drain passes exactly the tables of which 01's sentence holds.
use Prim.Native.Nat.{ℕ}
use mathlib.Core.Path.{◌≡◌, refl, sym, ap, ◌∙◌}
use mathlib.Core.Bool.{Bool, true, false}
use mathlib.Core.Logic.{◌↔◌}
use mathlib.Core.List.{List, [], ◌∷◌, ◌++◌, cons≢nil, head-eq_of_cons-eq}
use Rattle.reference.specs.Text.{validated}
use Rattle.reference.specs.declared.BadReference.{BadReference}
use Rattle.table.specs.Row.{Name, Tok, attr, close, text, matter, bad, rows_of, toks_of}
use Rattle.table.specs.Rules.{TableRules}
use Rattle.xml.specs.declared.Cause.{Cause}
use Rattle.xml.specs.declared.DrainError.{DrainError}
use Rattle.xml.specs.Passed.{opens, attributes, WellFormed, Passed, Fault, token_error, mismatched_end, repeated_attribute}
use Rattle.xml.specs.Passed.{bad_attribute, bad_text, Faultless, at_row, at_the_end}
use Rattle.table.specs.Test.{dec_table}
use Rattle.xml.specs.Drain.{same_name, has_name, walked, drained_by, drained}
use Rattle.xml.proofs.Tests.{same_name_lem, seen_member, not_member, not_named, not_both}
use Rattle.xml.proofs.First.{Answer, clean, faulty, answer, not_ill, passes_not_table}
use Rattle.std.specs.Prelude.{Result, Ok, Err}

-- ---- well-formed is: without a fault, and with none open at the end
well_formed_faultless : {toks : List Tok} → WellFormed toks → Faultless toks
well_formed_faultless {toks} w = record { none = go }
  where
    go : (a : List Tok) (t : Tok) (b : List Tok) (c : Cause) → toks ≡ a ++ (t ∷ b) → Fault a t c → ⊥
    go a t b c e token_error = w.no_error a b e
    go a t b c e (mismatched_end {m = m} f) = let h = w.matching a m b e in f h.0 h.1
    go a t b c e (repeated_attribute {m = m} {v = v} i) = w.single a m v b e i
    go a t b c e (bad_attribute {m = m} {v = v} f p) = not_both (w.attribute_values a m v b e) p
    go a t b c e (bad_text {v = v} p) = not_both (w.text_values a v b e) p

module _ {toks : List Tok} (h : Faultless toks) where
  innermost : (a : List Tok) (m : Name) (b : List Tok) → toks ≡ a ++ (close m ∷ b) → (s : List Name) × (opens [] a ≡ m ∷ s)
  innermost a m b e = go (opens [] a) refl
    where
      same : (n : Name) (s : List Name) (x : Bool) → same_name m n ≡ x → opens [] a ≡ n ∷ s → (s : List Name) × (opens [] a ≡ m ∷ s)
      same n s true q p = (s, p ∙ ap (λ (y : Name). y ∷ s) (sym (same_name_lem m n q)))
      same n s false q p =
          absurd (h.none a (close m) b Cause.MismatchedEnd e (mismatched_end (λ r u. not_named m n q (head-eq_of_cons-eq (sym u ∙ p)))))

      go : (s : List Name) → opens [] a ≡ s → (s : List Name) × (opens [] a ≡ m ∷ s)
      go [] p = absurd (h.none a (close m) b Cause.MismatchedEnd e (mismatched_end (λ r u. cons≢nil (sym u ∙ p))))
      go (n ∷ s) p = same n s (same_name m n) refl p

  attribute_value : (a : List Tok) (m : Name) (v : List ℕ) (b : List Tok) → toks ≡ a ++ (attr m v ∷ b) → validated v ≡ Ok tt
  attribute_value a m v b e = go (validated v) (has_name m (attributes [] a)) refl refl
    where
      go : (y : Result (Unit {0}) BadReference) (x : Bool) → validated v ≡ y → has_name m (attributes [] a) ≡ x → validated v ≡ Ok tt
      go (Ok u) x p q = p
      go (Err why) true p q =
          absurd (h.none a (attr m v) b Cause.RepeatedAttribute e (repeated_attribute (seen_member m (attributes [] a) q)))
      go (Err why) false p q =
          absurd (h.none a (attr m v) b Cause.BadReference e (bad_attribute (not_member m (attributes [] a) q) p))

  pub text_value : (a : List Tok) (v : List ℕ) (b : List Tok) → toks ≡ a ++ (matter (text v) ∷ b) → validated v ≡ Ok tt
  text_value a v b e = go (validated v) refl
    where
      go : (y : Result (Unit {0}) BadReference) → validated v ≡ y → validated v ≡ Ok tt
      go (Ok u) p = p
      go (Err why) p = absurd (h.none a (matter (text v)) b Cause.BadReference e (bad_text p))

  faultless_well_formed : opens [] toks ≡ [] → WellFormed toks
  faultless_well_formed n =
      record {
        no_error = λ a b e. h.none a bad b Cause.TokenError e token_error;
        matching = innermost;
        none_open = n;
        single = λ a m v b e i. h.none a (attr m v) b Cause.RepeatedAttribute e (repeated_attribute i);
        attribute_values = attribute_value;
        text_values = text_value;
      }

-- ---- THEOREM 2, of the tokens alone: the walk passes exactly the well-formed lists
pub walk_passes_is : (toks : List Tok) → walked toks ≡ Ok tt ↔ WellFormed toks
walk_passes_is toks = (there (walked toks) (answer toks), back (walked toks) (answer toks))
  where
    there : (x : Result (Unit {0}) DrainError) → Answer toks x → x ≡ Ok tt → WellFormed toks
    there x (clean h p) e = faultless_well_formed h p
    there x (faulty f) e = not_ill (sym e)

    back : (x : Result (Unit {0}) DrainError) → Answer toks x → WellFormed toks → x ≡ Ok tt
    back x (clean h p) w = refl
    back x (faulty {c = c} (at_row a t b e n h f)) w = absurd ((well_formed_faultless w).none a t b c e f)
    back x (faulty (at_the_end n q h f)) w = absurd (f w.none_open)

-- THEOREM 2: the drain, by any decision of the rules, passes exactly where the rules hold and the tokens are well-formed
pub drain_passes_is : (body table : List ℕ) (final : ℕ) (d : Dec (TableRules body table final))
    → drained_by d (toks_of body (rows_of table)) ≡ Ok tt ↔ Passed body table final
drain_passes_is body table final (yes p) =
    let w = walk_passes_is (toks_of body (rows_of table)) in
    (λ e. record { rules = p; well_formed = w.0 e }, λ h. w.1 h.well_formed)
drain_passes_is body table final (no f) = (λ e. passes_not_table (sym e), λ h. absurd (f h.rules))

-- theorem 2, of the drain: it passes exactly where 01's list holds
pub drained_passes_is : (body table : List ℕ) (final : ℕ) → (drained body table final ≡ Ok tt) ↔ Passed body table final
unfolding drained
drained_passes_is body table final = drain_passes_is body table final (dec_table body table final)
