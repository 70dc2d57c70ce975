-- What the functions that read one reference answer, of the text from a place on.
use Rattle.std.specs.Prelude.{ℕ, ◌+◌, ◌-◌, ◌*◌, ◌≤◌, ◌≡◌, Bool, true, false, List, [], ◌∷◌, eqb, length, get_or, drop, take}
use Rattle.std.specs.Prelude.{Option, None, Some}
use Rattle.lists.specs.Characters.{quote, ampersand, apostrophe, semicolon, less_than, greater_than}
use Rattle.lists.specs.Tests.{pick}
use Rattle.lists.specs.Bytes.{ascii}
use Rattle.reference.specs.Number.{digits}
use Rattle.reference.specs.Entity.{reader}
use Rattle.reference.specs.Text.{span, sized}
use Rattle.reference.specs.declared.Reference.{Reference}

-- ---- an entity that is read by f, up to its `;`, where n bytes of the reference stand before it
unfoldable pub spelt : (List ℕ → Option ℕ) → ℕ → List ℕ → Option Reference
spelt f n s = pick (eqb (get_or s (span s) 0) semicolon) (sized (n + span s + 1) (f (take (span s) s))) None

-- ---- past a sign
-- the digits begin at r
pub record PastSign (strict : Bool) (t : List ℕ) (start r : ℕ) : Type 0 where
  pub low : start ≤ r
  pub high : r ≤ length t
  pub same : (base n : ℕ) → spelt (reader strict base) n (drop start t) ≡ spelt (digits base) (n + (r - start)) (drop r t)

-- ---- only the codes that are allowed
unfoldable pub only_ref : (ℕ → Bool) → Option Reference → Option Reference
only_ref f (Some r) = pick (f r.code) (Some r) None
only_ref f None = None

-- ---- names
-- the list begins with a name
unfoldable pub begins : List ℕ → List ℕ → Bool
begins [] s = true
begins (x ∷ n) [] = false
begins (x ∷ n) (b ∷ s) = pick (eqb b x) (begins n s) false

-- a reference of n bytes after its `&` that stands for the character c
abbrev pub some_char : ℕ → ℕ → Option Reference
some_char c n = Some (record { code = c; len = n })

-- the references by name
unfoldable pub named_ref : List ℕ → Option Reference
named_ref s =
    pick (begins (ascii "lt;") s) (some_char less_than 3)
    (pick (begins (ascii "gt;") s) (some_char greater_than 3)
    (pick (begins (ascii "amp;") s) (some_char ampersand 4)
    (pick (begins (ascii "quot;") s) (some_char quote 5)
    (pick (begins (ascii "apos;") s) (some_char apostrophe 5)
    None))))

-- ---- names by their bytes: a character c and a length n as one number, or 0
unfoldable pub packed : Option Reference → ℕ
packed (Some r) = r.code + 256 * r.len
packed None = 0

-- the number of a name, from its first three bytes, its fourth, and its fourth and fifth
unfoldable pub name_value : ℕ → ℕ → ℕ → ℕ
name_value w b v =
    pick (eqb w (108 + 256 * (116 + 256 * 59))) (60 + 256 * 3)
    (pick (eqb w (103 + 256 * (116 + 256 * 59))) (62 + 256 * 3)
    (pick (pick (eqb w (97 + 256 * (109 + 256 * 112))) (eqb b 59) false) (38 + 256 * 4)
    (pick (pick (eqb w (113 + 256 * (117 + 256 * 111))) (eqb v (116 + 256 * 59)) false) (34 + 256 * 5)
    (pick (pick (eqb w (97 + 256 * (112 + 256 * 111))) (eqb v (115 + 256 * 59)) false) (39 + 256 * 5)
    0))))
