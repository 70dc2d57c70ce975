-- What the parts of a body stand for: a text, measured or not, and the promise of a copy into a lent buffer.
use Rattle.std.specs.Prelude.{ℕ, ◌≡◌, List, Result, Ok, Err, length}
use Rattle.lists.specs.Overwrite.{overwritten}
use Rattle.refusal.specs.declared.Refusal.{Refusal}
use Rattle.refusal.specs.Answer.{Answer, gives, refuses}
use Rattle.reference.specs.Text.{unescaped, meaning}
use Rattle.document.specs.Text.{unescaped_from}
use Rattle.document.specs.declared.part.Text.{Text}
use Rattle.document.specs.declared.part.Measured.{Measured}

-- what a text stands for; where it does not unescape, its place is told "as a body offset" (change request 1)
abbrev pub text_at : Text → Answer (List ℕ)
text_at t = unescaped_from t.from (unescaped t.bytes.now)

-- a text, or why there is none
abbrev pub given : Result Text Refusal → Answer (List ℕ)
given (Ok t) = text_at t
given (Err r) = refuses r

-- what a text that was measured stands for
abbrev pub bytes_of : Measured → List ℕ
bytes_of m = meaning (unescaped m.bytes.now)

abbrev pub measured_as : Result Measured Refusal → Answer (List ℕ)
measured_as (Ok m) = gives (bytes_of m)
measured_as (Err r) = refuses r

-- ---- a text in a lent buffer: its length
abbrev pub copied_as : Result ℕ Refusal → Answer ℕ
copied_as (Ok n) = gives n
copied_as (Err r) = refuses r

abbrev pub length_in : Answer (List ℕ) → Answer ℕ
length_in (gives l) = gives (length l)
length_in (refuses r) = refuses r

-- what the buffer holds then: a refusal has written nothing
abbrev pub buffer_after : Answer (List ℕ) → List ℕ → List ℕ
buffer_after (gives l) old = overwritten old l
buffer_after (refuses r) old = old

-- the promise: the answer, and every byte of the buffer, which held old and now holds new
pub record CopyIs (is : Answer (List ℕ)) (old new : List ℕ) (r : Result ℕ Refusal) : Type 0 where
  pub number : copied_as r ≡ length_in is
  pub buffer : new ≡ buffer_after is old
