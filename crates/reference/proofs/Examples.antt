-- Worked examples of both definitions. (01's own, marked P, stand with all the others in Examples/Edges.antt of `readings`.)
use Prim.Native.String.{String}
use mathlib.Core.Path.{◌≡◌, refl}
use mathlib.Core.List.{[], ◌∷◌, map}
use Rattle.lists.specs.Bytes.{ascii}
use Rattle.reference.specs.Text.{Out, validated, unescaped, answer}
use Rattle.reference.specs.Text.Out.{bytes, bad}
use Rattle.reference.specs.Place.{failing_at}
use Rattle.reference.proofs.All.{computed}
use Rattle.reference.specs.declared.BadReference.{BadReference}
use Rattle.reference.specs.declared.UnescapeError.{UnescapeError}
use Rattle.std.specs.Prelude.{ℕ, Result, Ok, Err}

infixl 70 ◌gives◌
-- what both operations answer
pub data Answers : Type 0 where
  ◌gives◌ : Result (Unit {0}) BadReference → Out → Answers

-- a refusal with a place
abbrev fails : ℕ → Result (Unit {0}) BadReference
fails at = Err (record { at = at })

abbrev both : String → Answers
both s = validated (ascii s) gives unescaped (ascii s)

-- where unescaping takes more than validation, and where it does not: the sign, in each base, once and first; no minus; small x alone
pub examples :
    map both ("&#x+41;" ∷ "&#++65;" ∷ "&#+;" ∷ "&#-0;" ∷ "&#+x41;" ∷ "&#X41;" ∷ "&#;" ∷ "&#x;" ∷ "&#0000000000065;" ∷ "&#4294967296;" ∷
    "x&lt;&lt" ∷ [])
    ≡ (fails 0 gives bytes (ascii "A"))
    ∷ (fails 0 gives bad 0)
    ∷ (fails 0 gives bad 0)
    ∷ (fails 0 gives bad 0)
    ∷ (fails 0 gives bad 0)
    ∷ (fails 0 gives bad 0)
    ∷ (fails 0 gives bad 0)
    ∷ (fails 0 gives bad 0)
    ∷ (Ok tt gives bytes (ascii "A"))
    ∷ (fails 0 gives bad 0)
    ∷ (fails 5 gives bad 5)
    ∷ []
unfolding computed
examples = refl

-- the place is that of the first `&` that fails, and each operation has its own
pub places :
    map both ("&#+65;&zz;" ∷ "a&b" ∷ "&&amp;" ∷ "&amp;&b;&" ∷ "&lt;b&#65;" ∷ "ab" ∷ "" ∷ [])
    ≡ (fails 0 gives bad 6)
    ∷ (fails 1 gives bad 1)
    ∷ (fails 0 gives bad 0)
    ∷ (fails 5 gives bad 5)
    ∷ (Ok tt gives bytes (ascii "<bA"))
    ∷ (Ok tt gives bytes (ascii "ab"))
    ∷ (Ok tt gives bytes [])
    ∷ []
unfolding computed
places = refl

-- what is told as the place: 0 where each reference is right
pub told_places : map (λ (s : String). failing_at (validated (ascii s))) ("&#+65;&zz;" ∷ "a&b" ∷ "a&lt;" ∷ "" ∷ []) ≡ 0 ∷ 1 ∷ 0 ∷ 0 ∷ []
unfolding computed
told_places = refl

-- what `unescape` answers then, whatever the room
pub answers_place : map (answer (unescaped (ascii "&#+65;&zz;"))) (0 ∷ 10 ∷ [])
    ≡ Err (UnescapeError.BadReference 6) ∷ Err (UnescapeError.BadReference 6) ∷ []
unfolding computed
answers_place = refl
