-- The library's `char`s, their bytes and its UTF-8 are those of specs/.
use Prim.Native.Nat.{ℕ}
use mathlib.Core.Path.{◌≡◌, refl, sym, ◌∙◌}
use mathlib.Core.Bool.{Bool, true, false, cond}
use mathlib.Core.List.{List, [], ◌∷◌}
use native.Mathlib.Omega.{arith}
use borrow.Author.Tests.{lt-ltb, le-ltb, le-leb, lt-leb}
use lib.Dec.{ltb}
use lib.Utf8.{scalars, encodes}
use lib.Utf8 as library
use Rattle.std.specs.Prelude.{is_some, Option, None, Some, SomeIff}
use Rattle.std.specs.Char.{IsScalar}
use Rattle.std.specs.Str.{IsUtf8}
use Rattle.std.proofs.lemmas.Str.{IsUtf8-nil, IsUtf8-append, IsUtf8-encode}
use Rattle.std.proofs.lemmas.Bool.{and_parts}
use Rattle.lists.specs.Tests.{pick}
use Rattle.lists.proofs.Tests.{false_true}
use Rattle.utf8.specs.Table.{WellFormed, none, next, OneChar, is_utf8, walk}
use Rattle.utf8.specs.Encode.{scalar, encode}
use Rattle.utf8.proofs.Agree.{below, test_sound}
use Rattle.utf8.proofs.Chars.{utf8_encode, char_scalar}

not_true : (t : Bool) → (t ≡ true → ⊥) → false ≡ t
not_true true n = absurd (n refl)
not_true false n = refl

-- ---- scalar values
-- the codes of a `char` are the scalar values
pub same_scalar : (c : ℕ) → library.scalar c ≡ scalar c
unfolding scalar
same_scalar c =
    below c 0xD800 (λ h. rw (lt-ltb c 0xD800 h, le-leb c 0xD7FF (omega arith))) λ g.
    below c 0xE000 (λ h. rw (le-ltb c 0xD800 g, lt-leb c 0xD7FF (omega arith), lt-leb 0xE000 c h)) λ k.
    below c 0x110000 (λ h. rw (
      le-ltb c 0xD800 g,
      lt-leb c 0xD7FF (omega arith),
      le-leb 0xE000 c k,
      lt-ltb c 0x110000 h,
      le-leb c 0x10FFFF (omega arith),
    )) λ l.
    rw (le-ltb c 0xD800 g, lt-leb c 0xD7FF (omega arith), le-leb 0xE000 c k, le-ltb c 0x110000 l, lt-leb c 0x10FFFF (omega arith))

pub scalar_some : (r : Option ℕ) (c : ℕ) → SomeIff r (IsScalar c) c → is_some r ≡ scalar c
scalar_some (Some x) c h = sym h.0 ∙ same_scalar c
scalar_some None c h = not_true (scalar c) (λ e. h (same_scalar c ∙ e))

-- ---- their bytes
rows : (t u v : Bool) (a b c d : List ℕ) → cond t a (cond u b (cond v c d)) ≡ pick t a (pick u b (pick v c d))
rows true u v a b c d = refl
rows false true v a b c d = refl
rows false false true a b c d = refl
rows false false false a b c d = refl

pub same_encode : (c : ℕ) → library.encode c ≡ encode c
unfolding library.encode encode
same_encode c = rows (ltb c 0x80) (ltb c 0x800) (ltb c 0x10000) _ _ _ _

-- ---- well-formed texts
-- the bytes of scalar values are well-formed
utf8_encodes : (cs : List ℕ) → scalars cs ≡ true → is_utf8 (encodes cs) ≡ true
unfolding is_utf8 walk
utf8_encodes [] e = refl
utf8_encodes (c ∷ cs) e =
    let p = and_parts _ _ e in
    rw (same_encode c) (utf8_encode c (encodes cs) (sym (same_scalar c) ∙ p.0) ∙ utf8_encodes cs p.1)

-- a character is the bytes of one
char_utf8 : {s : List ℕ} → OneChar s → IsUtf8 s
char_utf8 o =
    let v = char_scalar o in
    rw (← v.bytes, ← same_encode v.value) (IsUtf8-encode v.value (same_scalar v.value ∙ v.is_scalar))

formed_utf8 : {s : List ℕ} → WellFormed s → IsUtf8 s
formed_utf8 none = IsUtf8-nil
formed_utf8 (next {c} {s} o w) = IsUtf8-append c s (char_utf8 o) (formed_utf8 w)

-- the library's texts are the well-formed ones
pub utf8_is : (s : List ℕ) → IsUtf8 s → true ≡ is_utf8 s
utf8_is s (cs, u) = sym (rw u.1 at (utf8_encodes cs u.0))

pub utf8_not : (s : List ℕ) → (IsUtf8 s → ⊥) → false ≡ is_utf8 s
utf8_not s n = not_true (is_utf8 s) (λ e. n (formed_utf8 (test_sound s e)))

-- so a test of the first is a test of the others
pub utf8_says : (s : List ℕ) (r : Bool) → (r ≡ true → IsUtf8 s) × (IsUtf8 s → r ≡ true) → r ≡ is_utf8 s
utf8_says s true h = utf8_is s (h.0 refl)
utf8_says s false h = utf8_not s (λ u. false_true (h.1 u))
