-- What `validate` takes, `unescape` takes, and it replaces each reference by the character that the strict reading of it names.
use Prim.Native.Nat.{ℕ, zero, suc, ◌+◌, ◌≤◌}
use mathlib.Core.Path.{◌≡◌, refl, sym, ◌∙◌, ap}
use mathlib.Core.Bool.{Bool, true, false}
use mathlib.Core.List.{List, [], ◌∷◌, ◌++◌}
use native.Mathlib.Omega.{arith}
use borrow.Author.Tests.{eqb-true, le-ltb}
use lib.Dec.{eqb}
use lib.ListN.{get_or, drop, take}
use Rattle.lists.specs.Tests.{pick}
use Rattle.lists.proofs.Tests.{pick_same}
use Rattle.utf8.specs.Encode.{scalar, encode}
use Rattle.reference.specs.Number.{digit, numeral, limited, digits, plus_digits}
use Rattle.reference.specs.Entity.{named, numeric, only, first, xml_char, reader, allowed, char_of}
use Rattle.reference.specs.Text.{span, sized, reference, Out, before, decode, verdict, references, validated, unescaped}
use Rattle.reference.specs.Text.Out.{bytes, bad}
use Rattle.reference.proofs.Taken.{no_value, no_char, xml_scalar}
use Rattle.reference.specs.declared.Reference.{Reference}
use Rattle.std.specs.Prelude.{Option, None, Some, Ok}

-- a `+` is no digit
plus : (b : ℕ) → b ≡ 43 → digit b ≡ 16
unfolding digit
plus b e = rw e

plus_no : (base : ℕ) (s : List ℕ) → base ≤ 16 → get_or s 0 0 ≡ 43 → digits base s ≡ None
unfolding digits numeral limited
plus_no base [] h e = absurd (omega arith)
plus_no base (b ∷ s) h e = rw (plus b e, le-ltb 16 base h, pick_same)

strict_plus : (base : ℕ) (s : List ℕ) {n : ℕ} → base ≤ 16 → digits base s ≡ Some n → plus_digits base s ≡ Some n
unfolding plus_digits
strict_plus base s {n} h e = go (eqb (get_or s 0 0) 43) refl
  where
    go : (t : Bool) → eqb (get_or s 0 0) 43 ≡ t → digits base (pick t (drop 1 s) s) ≡ Some n
    go true q = no_value (sym (plus_no base s h (eqb-true _ _ q)) ∙ e)
    go false q = e

strict_only : (x y : Option ℕ) {n : ℕ} → ((m : ℕ) → x ≡ Some m → y ≡ Some m) → only (allowed true) x ≡ Some n
    → only (allowed false) y ≡ Some n
unfolding only allowed
strict_only None y h e = no_value e
strict_only (Some m) y {n} h e = rw (h m refl) (go (xml_char m) refl e)
  where
    go : (t : Bool) → xml_char m ≡ t → pick t (Some m) None ≡ Some n → pick (scalar m) (Some m) None ≡ Some n
    go true q e = rw (xml_scalar m q) e
    go false q e = no_value e

strict_numeric : (e : List ℕ) (m : ℕ) → numeric (reader true) e ≡ Some m → numeric (reader false) e ≡ Some m
unfolding numeric reader
strict_numeric e m = go (eqb (get_or e 0 0) 35) (eqb (get_or e 1 0) 120)
  where
    go : (t u : Bool) → pick t (pick u (digits 16 (drop 2 e)) (digits 10 (drop 1 e))) None ≡ Some m
        → pick t (pick u (plus_digits 16 (drop 2 e)) (plus_digits 10 (drop 1 e))) None ≡ Some m
    go true true q = strict_plus 16 (drop 2 e) (omega arith) q
    go true false q = strict_plus 10 (drop 1 e) (omega arith) q
    go false u q = no_value q

strict_char : (e : List ℕ) (c : ℕ) → char_of true e ≡ Some c → char_of false e ≡ Some c
unfolding char_of first
strict_char e c = go (named e)
  where
    go : (x : Option ℕ) → first x (only (allowed true) (numeric (reader true) e)) ≡ Some c
        → first x (only (allowed false) (numeric (reader false) e)) ≡ Some c
    go (Some n) q = q
    go None q = strict_only (numeric (reader true) e) (numeric (reader false) e) (strict_numeric e) q

-- a reference that is read strictly is read
pub strict_reference : (s : List ℕ) (y : Reference) → reference true s ≡ Some y → reference false s ≡ Some y
unfolding reference sized
strict_reference s w = go (eqb (get_or s (span s) 0) 59) (char_of true (take (span s) s)) (char_of false (take (span s) s))
    (strict_char (take (span s) s))
  where
    go : (t : Bool) (x y : Option ℕ) → ((m : ℕ) → x ≡ Some m → y ≡ Some m)
        → pick t (sized (span s + 1) x) None ≡ Some w
        → pick t (sized (span s + 1) y) None ≡ Some w
    go true (Some m) y h q = rw (h m refl) q
    go true None y h q = no_char q
    go false x y h q = no_char q

-- where a front is put before, the rest is bytes too
pub before_is : (a l : List ℕ) (o : Out) → before a o ≡ bytes l → (m : List ℕ) × (o ≡ bytes m) × (l ≡ a ++ m)
unfolding before
before_is a l (bytes m) e = let q : a ++ m ≡ l = cc in (m, refl, sym q)
before_is a l (bad at) e = let z : ◌≡◌ {A = ℕ} 0 1 = cc in absurd (omega arith)

strict_decode : (at k : ℕ) (s l : List ℕ) → decode true at k s ≡ bytes l → decode false at k s ≡ bytes l
unfolding decode before
strict_decode at k [] l e = e
strict_decode at (suc k) (b ∷ s) l e = strict_decode (suc at) k s l e
strict_decode at zero (b ∷ s) l e =
    go (eqb b 38) (reference true s) (reference false s) (strict_reference s) (λ k l. strict_decode (suc at) k s l) e
  where
    rest : (a : List ℕ) (k : ℕ) → ((k : ℕ) (l : List ℕ) → decode true (suc at) k s ≡ bytes l → decode false (suc at) k s ≡ bytes l)
        → before a (decode true (suc at) k s) ≡ bytes l → before a (decode false (suc at) k s) ≡ bytes l
    rest a k ih e = let x = before_is a l (decode true (suc at) k s) e in ap (before a) (ih k x.0 x.1) ∙ ap bytes (sym x.2)

    go : (t : Bool) (r q : Option Reference) → ((y : Reference) → r ≡ Some y → q ≡ Some y)
        → ((k : ℕ) (l : List ℕ) → decode true (suc at) k s ≡ bytes l → decode false (suc at) k s ≡ bytes l)
        → elim t [
          | true ↦ elim r [ Some y ↦ before (encode y.code) (decode true (suc at) y.len s) | None ↦ bad at ]
          | false ↦
              before (b ∷ []) (decode true (suc at) zero s)
        ] ≡ bytes l
        → elim t [
          | true ↦ elim q [ Some y ↦ before (encode y.code) (decode false (suc at) y.len s) | None ↦ bad at ]
          | false ↦
              before (b ∷ []) (decode false (suc at) zero s)
        ] ≡ bytes l
    go true (Some y) q h ih e = rw (h y refl) (rest (encode y.code) y.len ih e)
    go true None q h ih e = let z : ◌≡◌ {A = ℕ} 0 1 = cc in absurd (omega arith)
    go false r q h ih e = rest (b ∷ []) zero ih e

-- the strict reading and unescaping come to the same bytes
pub valid_same : (t l : List ℕ) → references t ≡ bytes l → unescaped t ≡ bytes l
unfolding references unescaped
valid_same t l e = strict_decode 0 0 t l e

-- what `validate` takes, `unescape` takes
pub valid_unescapes : (t : List ℕ) → validated t ≡ Ok tt → (l : List ℕ) × (unescaped t ≡ bytes l)
unfolding validated verdict
valid_unescapes t e = go (references t) refl e
  where
    go : (o : Out) → references t ≡ o → verdict o ≡ Ok tt → (l : List ℕ) × (unescaped t ≡ bytes l)
    go (bytes l) q e = (l, valid_same t l q)
    go (bad at) q e = let z : ◌≡◌ {A = ℕ} 0 1 = cc in absurd (omega arith)
