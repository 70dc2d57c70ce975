-- What passing the drain means, and what failing it means, in the words of 01, "Drain".
use Rattle.std.specs.Prelude.{ℕ, ◌≡◌, length, Ok, Err}
use mathlib.Core.List.{List, [], ◌∷◌, ◌++◌, Memᴰ}
use Rattle.reference.specs.Text.{validated}
use Rattle.reference.specs.declared.BadReference.{BadReference}
use Rattle.table.specs.Row.{Name, text, Tok, start, attr, gt, close, slash, matter, bad, rows_of, toks_of}
use Rattle.table.specs.Row.{Move, enters, leaves, stays, move_of}
use Rattle.table.specs.Rules.{TableRules}
use Rattle.xml.specs.declared.Cause.{Cause}
use Rattle.xml.specs.Drain.{popped}

-- the names of the elements that are open after some tokens, innermost first
abbrev pub open_by : List Name → Move → List Name
open_by s (enters n) = n ∷ s
open_by s leaves = popped s
open_by s stays = s

abbrev pub open_after : List Name → Tok → List Name
open_after s t = open_by s (move_of t)

unfoldable pub opens : List Name → List Tok → List Name
opens s [] = s
opens s (t ∷ l) = opens (open_after s t) l

-- the attribute names since the last start tag began
abbrev pub names_after : List Name → Tok → List Name
names_after a (start n) = []
names_after a (attr m v) = m ∷ a
names_after a gt = a
names_after a (close m) = a
names_after a slash = a
names_after a (matter b) = a
names_after a bad = a

unfoldable pub attributes : List Name → List Tok → List Name
attributes a [] = a
attributes a (t ∷ l) = attributes (names_after a t) l

-- "It passes exactly when the rules hold, no row is of kind 8, each close tag has the innermost open element's prefix and local name, none
-- is open at the end, no start tag has two attributes alike in prefix and local name, and validate takes each value in kinds 2 and 6."
pub record WellFormed (toks : List Tok) : Type 0 where
  pub no_error : (a b : List Tok) → toks ≡ a ++ (bad ∷ b) → ⊥
  pub matching : (a : List Tok) (m : Name) (b : List Tok) → toks ≡ a ++ (close m ∷ b) → (s : List Name) × (opens [] a ≡ m ∷ s)
  pub none_open : opens [] toks ≡ []
  pub single : (a : List Tok) (m : Name) (v : List ℕ) (b : List Tok) → toks ≡ a ++ (attr m v ∷ b) → Memᴰ m (attributes [] a) → ⊥
  pub attribute_values : (a : List Tok) (m : Name) (v : List ℕ) (b : List Tok) → toks ≡ a ++ (attr m v ∷ b) → validated v ≡ Ok tt
  pub text_values : (a : List Tok) (v : List ℕ) (b : List Tok) → toks ≡ a ++ (matter (text v) ∷ b) → validated v ≡ Ok tt

pub record Passed (body table : List ℕ) (final : ℕ) : Type 0 where
  pub rules : TableRules body table final
  pub well_formed : WellFormed (toks_of body (rows_of table))

-- ---- what is wrong with a token, after the tokens before it
pub data Fault (before : List Tok) : Tok → Cause → Type 0 where
  token_error : Fault before bad Cause.TokenError
  mismatched_end : {m : Name} → ((s : List Name) → opens [] before ≡ m ∷ s → ⊥) → Fault before (close m) Cause.MismatchedEnd
  repeated_attribute : {m : Name} {v : List ℕ} → Memᴰ m (attributes [] before) → Fault before (attr m v) Cause.RepeatedAttribute
  bad_attribute : {m : Name} {v : List ℕ} {why : BadReference} → (Memᴰ m (attributes [] before) → ⊥) → validated v ≡ Err why
      → Fault before (attr m v) Cause.BadReference
  bad_text : {v : List ℕ} {why : BadReference} → validated v ≡ Err why → Fault before (matter (text v)) Cause.BadReference

pub record Faultless (toks : List Tok) : Type 0 where
  pub none : (a : List Tok) (t : Tok) (b : List Tok) (c : Cause) → toks ≡ a ++ (t ∷ b) → Fault a t c → ⊥

-- "the first failing row and its cause", and "unclosed element (row = row count)"
pub data FirstFault (toks : List Tok) (row : ℕ) (cause : Cause) : Type 0 where
  at_row : (a : List Tok) (t : Tok) (b : List Tok) → toks ≡ a ++ (t ∷ b) → row ≡ length a → Faultless a → Fault a t cause
      → FirstFault toks row cause
  at_the_end : row ≡ length toks → cause ≡ Cause.UnclosedElement → Faultless toks → (opens [] toks ≡ [] → ⊥) → FirstFault toks row cause
