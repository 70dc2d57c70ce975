-- A text with references (01, src/unescape.rs, and "Unescape", "Validate"): is each right, and what the text stands for.
use Rattle.std.specs.Prelude.{ℕ, zero, suc, ◌+◌, ◌≡◌, Bool, true, false, List, [], ◌∷◌, ◌++◌, leb, eqb, length, get_or, take}
use Rattle.std.specs.Prelude.{Option, None, Some, Result, Ok, Err}
use Rattle.lists.specs.Characters.{ampersand, semicolon}
use Rattle.lists.specs.Tests.{pick}
use Rattle.lists.specs.Overwrite.{overwritten}
use Rattle.utf8.specs.Encode.{encode}
use Rattle.reference.specs.Entity.{char_of}
use Rattle.reference.specs.declared.Reference.{Reference}
use Rattle.reference.specs.declared.BadReference.{BadReference}
use Rattle.reference.specs.declared.UnescapeError.{UnescapeError}

-- how many bytes stand before the first `;` or `&`
unfoldable pub span : List ℕ → ℕ
span [] = 0
span (b ∷ s) = pick (eqb b semicolon) 0 (pick (eqb b ampersand) 0 (suc (span s)))

-- a character as a reference of n bytes after its `&`
unfoldable pub sized : ℕ → Option ℕ → Option Reference
sized n (Some c) = Some (record { code = c; len = n })
sized n None = None

-- the reference whose bytes after `&` the list begins with: "each section after an `&` needs a `;` before the next `&`"
unfoldable pub reference : Bool → List ℕ → Option Reference
reference strict s = pick (eqb (get_or s (span s) 0) semicolon) (sized (span s + 1) (char_of strict (take (span s) s))) None

-- the bytes that a text stands for, or the place of its first `&` that begins no reference, counted from the start of the text
pub data Out : Type 0 where
  bytes : List ℕ → Out
  bad : ℕ → Out

-- bytes in front of the rest
unfoldable pub before : List ℕ → Out → Out
before l (bytes m) = bytes (l ++ m)
before l (bad at) = bad at

-- the text from its place `at` on, byte by byte; skip counts the bytes of a reference that are still to be passed
unfoldable pub decode : Bool → ℕ → ℕ → List ℕ → Out
decode strict at skip [] = bytes []
decode strict at (suc k) (b ∷ s) = decode strict (suc at) k s
decode strict at zero (b ∷ s) =
    elim (eqb b ampersand) [
      | true ↦ elim (reference strict s) [ Some y ↦ before (encode y.code) (decode strict (suc at) y.len s) | None ↦ bad at ]
      | false ↦ before (b ∷ []) (decode strict (suc at) zero s)
    ]

-- the bytes that a text unescapes to; no bytes where it does not
abbrev pub meaning : Out → List ℕ
meaning (bytes l) = l
meaning (bad at) = []

-- ---- "Validate. 7."
unfoldable pub references : List ℕ → Out
references t = decode true 0 0 t

unfoldable pub verdict : Out → Result (Unit {0}) BadReference
verdict (bytes l) = Ok tt
verdict (bad at) = Err (record { at = at })

unfoldable pub validated : List ℕ → Result (Unit {0}) BadReference
validated t = verdict (references t)

-- ---- "Unescape. 7, then 10; both write nothing."
unfoldable pub unescaped : List ℕ → Out
unescaped t = decode false 0 0 t

-- the answer, with that much room
unfoldable pub answer : Out → ℕ → Result ℕ UnescapeError
answer (bytes l) room = pick (leb (length l) room) (Ok (length l)) (Err UnescapeError.NoRoom)
answer (bad at) room = Err (UnescapeError.BadReference at)

-- what the lent buffer holds then: the result at its front, or what stood there
unfoldable pub filled : Out → List ℕ → List ℕ
filled (bytes l) old = pick (leb (length l) (length old)) (overwritten old l) old
filled (bad at) old = old

-- the promise of `unescape`: its answer, and every byte of the lent buffer, which held old and now holds new
pub record Unescape (text old new : List ℕ) (r : Result ℕ UnescapeError) : Type 0 where
  pub number : r ≡ answer (unescaped text) (length old)
  pub buffer : new ≡ filled (unescaped text) old
