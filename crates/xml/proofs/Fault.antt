-- What is wrong with a token, and where tokens are cut: laws of `Fault` and `Faultless`, for the theorems on the walk.
use Prim.Native.Nat.{ℕ}
use mathlib.Core.Path.{◌≡◌, refl, sym, ap, ◌∙◌}
use mathlib.Core.Bool.{Bool, true, false}
use mathlib.Core.List.{List, [], ◌∷◌, ◌++◌, cons≢nil, head-eq_of_cons-eq, tail-eq_of_cons-eq}
use native.Mathlib.Omega.{arith}
use lib.ListN.{length, length-append}
use Rattle.lists.specs.Tests.{pick}
use Rattle.reference.specs.Text.{validated}
use Rattle.reference.specs.declared.BadReference.{BadReference}
use Rattle.reference.proofs.Grammar.{validated_none}
use Rattle.table.specs.Row.{Name, Tok, start, attr, gt, close, slash, text, misc, matter, bad}
use Rattle.xml.specs.declared.Cause.{Cause}
use Rattle.xml.specs.Passed.{opens, open_after, attributes, names_after, Fault, token_error, mismatched_end, repeated_attribute}
use Rattle.xml.specs.Passed.{bad_attribute, bad_text, Faultless}
use Rattle.xml.specs.Drain.{State, going, failed, same_name, has_name, step, closed, with_attribute, with_value}
use Rattle.xml.proofs.Tests.{same_name_lem, seen_member, not_member, not_named, not_both}
use Rattle.std.specs.Prelude.{Result, Ok, Err}

-- ---- two cuts of one list are the same cut, or one lies before the other
pub data Cuts (a : List Tok) (t : Tok) (b : List Tok) (s : Tok) : Type 0 where
  same_cut : a ≡ b → t ≡ s → Cuts a t b s
  earlier : (r : List Tok) → b ≡ a ++ (t ∷ r) → Cuts a t b s
  later : (r : List Tok) → a ≡ b ++ (s ∷ r) → Cuts a t b s

pub cuts : (a : List Tok) (t : Tok) (c b : List Tok) (s : Tok) (d : List Tok) → a ++ (t ∷ c) ≡ b ++ (s ∷ d) → Cuts a t b s
cuts [] t c [] s d e = same_cut refl (head-eq_of_cons-eq e)
cuts [] t c (y ∷ b) s d e = earlier b (ap (λ (u : Tok). u ∷ b) (sym (head-eq_of_cons-eq e)))
cuts (x ∷ a) t c [] s d e = later a (ap (λ (u : Tok). u ∷ a) (head-eq_of_cons-eq e))
cuts (x ∷ a) t c (y ∷ b) s d e = go (cuts a t c b s d (tail-eq_of_cons-eq e)) (head-eq_of_cons-eq e)
  where
    go : Cuts a t b s → x ≡ y → Cuts (x ∷ a) t (y ∷ b) s
    go (same_cut p q) h = same_cut (cc) q
    go (earlier r p) h = earlier r (cc)
    go (later r p) h = later r (cc)

-- ---- no fault so far
no_cut {ℓ} : {A : Type ℓ} (a : List Tok) (t : Tok) (b : List Tok) → [] ≡ a ++ (t ∷ b) → A
no_cut [] t b e = absurd (cons≢nil (sym e))
no_cut (x ∷ a) t b e = absurd (cons≢nil (sym e))

pub faultless_none : Faultless []
faultless_none = record { none = λ a t b c e f. no_cut a t b e }

pub faultless_more : {b : List Tok} {t : Tok} → Faultless b → ((c : Cause) → Fault b t c → ⊥) → Faultless (b ++ (t ∷ []))
faultless_more {b} {t} h n = record { none = λ a s d c e f. go a s d c e f (cuts b t [] a s d e) }
  where
    go : (a : List Tok) (s : Tok) (d : List Tok) (c : Cause) → b ++ (t ∷ []) ≡ a ++ (s ∷ d) → Fault a s c → Cuts b t a s → ⊥
    go a s d c e f (same_cut p q) = n c (rw (p, q) f)
    go a s d c e f (earlier r p) =
        let q : b ++ (t ∷ []) ≡ (b ++ (t ∷ r)) ++ (s ∷ d) = e ∙ ap (λ (l : List Tok). l ++ (s ∷ d)) p in
        omega (arith, simp length-append at (ap length q))
    go a s d c e f (later r p) = h.none a s r c p f

-- a token has one fault at most
pub one_fault : {b : List Tok} {t : Tok} {c d : Cause} → Fault b t c → Fault b t d → c ≡ d
one_fault token_error token_error = refl
one_fault (mismatched_end f) (mismatched_end g) = refl
one_fault (repeated_attribute i) (repeated_attribute j) = refl
one_fault (repeated_attribute i) (bad_attribute g q) = absurd (g i)
one_fault (bad_attribute f p) (repeated_attribute j) = absurd (f j)
one_fault (bad_attribute f p) (bad_attribute g q) = refl
one_fault (bad_text p) (bad_text q) = refl

-- ---- what a step does after the tokens b: it goes on and there is no fault, or it stops with the fault
pub data Stepped (b : List Tok) (t : Tok) (k : ℕ) : State → Type 0 where
  goes_on : {s a : List Name} → open_after (opens [] b) t ≡ s → names_after (attributes [] b) t ≡ a → ((c : Cause) → Fault b t c → ⊥)
      → Stepped b t k (going s a)
  stops : {c : Cause} → Fault b t c → Stepped b t k (failed k c)

module _ (b : List Tok) (k : ℕ) where
  attr_step : (m : Name) (v : List ℕ) (x : Bool) (y : Result (Unit {0}) BadReference) → has_name m (attributes [] b) ≡ x → validated v ≡ y
      → Stepped b (attr m v) k (with_attribute x k (with_value y k (going (opens [] b) (m ∷ attributes [] b))))
  attr_step m v true y p q = stops (repeated_attribute (seen_member m (attributes [] b) p))
  attr_step m v false (Ok u) p q = goes_on refl refl none
    where
      none : (c : Cause) → Fault b (attr m v) c → ⊥
      none c (repeated_attribute i) = not_member m (attributes [] b) p i
      none c (bad_attribute f r) = not_both q r
  attr_step m v false (Err why) p q = stops (bad_attribute (not_member m (attributes [] b) p) q)

  text_step : (v : List ℕ) (y : Result (Unit {0}) BadReference) → validated v ≡ y
      → Stepped b (matter (text v)) k (with_value y k (going (opens [] b) (attributes [] b)))
  text_step v (Ok u) q = goes_on refl refl none
    where
      none : (c : Cause) → Fault b (matter (text v)) c → ⊥
      none c (bad_text r) = not_both q r
  text_step v (Err why) q = stops (bad_text q)

  close_step : (m : Name) (s : List Name) → opens [] b ≡ s → Stepped b (close m) k (closed m s (attributes [] b) k)
  close_step m [] e = stops (mismatched_end (λ s p. cons≢nil (sym p ∙ e)))
  close_step m (n ∷ s) e = go (same_name m n) refl
    where
      go : (x : Bool) → same_name m n ≡ x → Stepped b (close m) k (pick x (going s (attributes [] b)) (failed k Cause.MismatchedEnd))
      go true q = goes_on (ap (λ (x : List Name). open_after x (close m)) e) refl none
        where
          none : (c : Cause) → Fault b (close m) c → ⊥
          none c (mismatched_end f) = f s (e ∙ ap (λ (x : Name). x ∷ s) (sym (same_name_lem m n q)))
      go false q = stops (mismatched_end (λ s p. not_named m n q (head-eq_of_cons-eq (sym p ∙ e))))

  pub stepped : (t : Tok) → Stepped b t k (step k (opens [] b) (attributes [] b) t)
  stepped (start n) = goes_on refl refl (λ c f. elim f [ ])
  stepped (attr m v) = attr_step m v (has_name m (attributes [] b)) (validated v) refl refl
  stepped gt = goes_on refl refl (λ c f. elim f [ ])
  stepped (close m) = close_step m (opens [] b) refl
  stepped slash = goes_on refl refl (λ c f. elim f [ ])
  stepped (matter (text v)) = text_step v (validated v) refl
  stepped (matter misc) = rw validated_none (goes_on refl refl (λ c f. elim f [ ]))
  stepped bad = stops token_error
