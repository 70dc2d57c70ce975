-- The length that a text comes to, as an answer.
use Rattle.std.specs.Prelude.{ℕ, length, Result, Ok, Err}
use Rattle.reference.specs.Text.{Out}
use Rattle.reference.specs.Text.Out.{bytes, bad}
use Rattle.reference.specs.declared.BadReference.{BadReference}

-- ---- measuring: n bytes so far, never more than were read
-- the length that unescaping comes to, or the place where a reference is bad
unfoldable pub size_of : Out → Result ℕ BadReference
size_of (bytes l) = Ok (length l)
size_of (bad at) = Err (record { at = at })
