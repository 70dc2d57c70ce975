-- 01, "Scalar", of a body: which refusals booleans, integers and strings give, and that each is given exactly where its condition holds, on
-- every input.
use Prim.Native.Nat.{ℕ}
use mathlib.Core.Path.{◌≡◌, refl}
use mathlib.Core.Logic.{◌↔◌}
use mathlib.Core.Bool.{Bool, true, false}
use mathlib.Core.List.{List}
use Rattle.refusal.specs.declared.Refusal.{Refusal}
use Rattle.refusal.specs.Answer.{Answer, gives, refuses, onward}
use Rattle.document.specs.Text.{text_of}
use Rattle.sheet.specs.declared.ShapeDepth.{ShapeDepth}
use Rattle.sheet.specs.declared.Settings.{Settings}
use Rattle.sheet.specs.Settings.{is_strict}
use Rattle.readings.specs.Call.{Upload}
use Rattle.readings.specs.Opening.{Opened}
use Rattle.document.specs.Text.{string_in}
use Rattle.readings.specs.Scalar.{boolean_of, integer_of, unless_ill_formed, scalar_text, boolean_reading, integer_reading}
use Rattle.readings.specs.Scalar.{string_reading}
use Rattle.readings.proofs.Plans.Sources.{Anything}
use Rattle.readings.proofs.Conditions.Answers.{Is, is_given_lem, is_refused, refused_is, also, onward_is, itself}
use Rattle.readings.proofs.Conditions.Opening.{OpenedRefused, OpenedAs, opened_is, refused_opened, given_opened}
use Rattle.readings.proofs.Conditions.View.{DrainFails, Stopped, opened_fails}
use Rattle.readings.proofs.Conditions.Text.{NoTextIn, opened_text_refusal}
use Rattle.readings.proofs.Conditions.Values.{NotABoolean, boolean_text_refusal, NotAnInteger, integer_text_refusal, StringTooLong}
use Rattle.readings.proofs.Conditions.Values.{string_text_refusal}

module _ (u : Upload) (settings : Settings) (depth : ShapeDepth) where
  abbrev strict : Bool
  strict = is_strict settings depth

  -- "1, 4; 6 to 9 as met; 9 after the rest"
  pub data ScalarRefused : Refusal → Type 0 where
    not_opened : {r : Refusal} → OpenedRefused u strict r → ScalarRefused r
    no_text : {o : Opened} {r : Refusal} → OpenedAs u strict o → NoTextIn (Stopped u strict) o.seen.rows o.root r
        → ScalarRefused r
    after_the_rest : {o : Opened} {text : List ℕ} → OpenedAs u strict o → text_of o.seen o.root ≡ gives text →
        DrainFails u strict → ScalarRefused Refusal.IllFormed

  scalar_is : Is Anything ScalarRefused (scalar_text u settings depth)
  unfolding scalar_text
  scalar_is =
      onward_is _ (opened_is u strict)
      (λ o w. onward_is _ (itself (text_of o.seen o.root)) (λ t e. end w e o.seen.ill_formed refl)
      (λ r e. no_text w ((opened_text_refusal u w o.root r).0 e)))
      (λ r w. not_opened w)
    where
      end : {o : Opened} {t : List ℕ} → OpenedAs u strict o → text_of o.seen o.root ≡ gives t → (b : Bool)
          → o.seen.ill_formed ≡ b
          → Is Anything ScalarRefused (unless_ill_formed b t)
      end w e true p = is_refused (after_the_rest w e ((opened_fails u w).0 p))
      end w e false p = is_given_lem (tt {0})

  pub scalar_refusal : (r : Refusal) → (scalar_text u settings depth ≡ refuses r) ↔ ScalarRefused r
  unfolding scalar_text
  scalar_refusal r = (refused_is scalar_is, back)
    where
      back : {q : Refusal} → ScalarRefused q → scalar_text u settings depth ≡ refuses q
      back (not_opened w) = rw (refused_opened u strict w)
      back (no_text {o = o} {r = q} w n) = rw (given_opened u strict w, (opened_text_refusal u w o.root q).1 n)
      back (after_the_rest w p f) = rw (given_opened u strict w, p, (opened_fails u w).1 f)

  -- the text is refused, or it is there and is not what is wanted: "10 for a string; 11 or 12"
  pub data Unread (Wrong : List ℕ → Refusal → Type 0) : Refusal → Type 0 where
    not_read : {r : Refusal} → ScalarRefused r → Unread Wrong r
    wrong : {text : List ℕ} {r : Refusal} → scalar_text u settings depth ≡ gives text → Wrong text r → Unread Wrong r

  unread : {A : Type 0} (of : List ℕ → Answer A) (Wrong : List ℕ → Refusal → Type 0)
      → ((text : List ℕ) (r : Refusal) → (of text ≡ refuses r) ↔ Wrong text r) →
      (r : Refusal) → (onward (scalar_text u settings depth) of ≡ refuses r) ↔ Unread Wrong r
  unread {A} of Wrong law r = (refused_is is, back)
    where
      is : Is Anything (Unread Wrong) (onward (scalar_text u settings depth) of)
      is =
          onward_is of (itself (scalar_text u settings depth))
          (λ t e. also (itself (of t)) (λ a q. tt {0}) (λ q w. wrong e ((law t q).0 w)))
          (λ q e. not_read ((scalar_refusal q).0 e))

      back : {q : Refusal} → Unread Wrong q → onward (scalar_text u settings depth) of ≡ refuses q
      back (not_read {r = q} w) = rw ((scalar_refusal q).1 w)
      back (wrong {text = t} {r = q} p w) = rw p ((law t q).1 w)

  pub boolean_refusal : (r : Refusal) → (boolean_reading u settings depth ≡ refuses r) ↔ Unread NotABoolean r
  unfolding boolean_reading
  boolean_refusal = unread boolean_of NotABoolean boolean_text_refusal

  pub integer_refusal : (r : Refusal) → (integer_reading u settings depth ≡ refuses r) ↔ Unread NotAnInteger r
  unfolding integer_reading
  integer_refusal = unread integer_of NotAnInteger integer_text_refusal

  pub string_refusal : (room : ℕ) (r : Refusal) → (string_reading u settings depth room ≡ refuses r) ↔ Unread (StringTooLong room) r
  unfolding string_reading
  string_refusal room = unread (string_in room) (StringTooLong room) (string_text_refusal room)
