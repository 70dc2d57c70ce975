-- The place that a refusal of `validate` or `unescape` tells: "the place of the first failing `&`, counted from the start of the text
-- they got" (change request 1).
use Rattle.std.specs.Prelude.{ℕ, suc, ◌≡◌, Bool, List, get_or, drop, take, None, Result, Ok, Err}
use Rattle.lists.specs.Characters.{ampersand}
use Rattle.reference.specs.Text.{reference, decode}
use Rattle.reference.specs.Text.Out.{bytes}
use Rattle.reference.specs.Xml.{BeginsReference, EachReference}
use Rattle.reference.specs.declared.BadReference.{BadReference}

-- by the definitions: `at` is the place of the first failing `&` of a text that is read strictly (validated) or not (unescaped)
pub record FailsAt (strict : Bool) (t : List ℕ) (at : ℕ) : Type 0 where
  -- "the first": what stands before the place decodes, to these bytes
  pub front : List ℕ
  pub decodes : decode strict 0 0 (take at t) ≡ bytes front
  -- "`&`": the byte there
  pub byte : get_or t at 0 ≡ ampersand
  -- "failing": no reference begins there
  pub none : reference strict (drop (suc at) t) ≡ None

-- by XML 1.0: the same of a text that is validated
pub record NoReferenceAt (t : List ℕ) (at : ℕ) : Type 0 where
  -- "the first": each `&` of what stands before the place begins a Reference [67]
  pub front : EachReference (take at t)
  -- "`&`": the byte there
  pub byte : get_or t at 0 ≡ ampersand
  -- "failing": no Reference begins there
  pub none : BeginsReference (drop at t) → ⊥

-- what each answer of `validate` says of a text, by XML 1.0
unfoldable pub Correct : List ℕ → Result (Unit {0}) BadReference → Type 0
Correct t (Ok u) = EachReference t
Correct t (Err e) = NoReferenceAt t e.at

-- where validating a text fails; 0 where it is valid
abbrev pub failing_at : Result (Unit {0}) BadReference → ℕ
failing_at (Ok u) = 0
failing_at (Err e) = e.at
