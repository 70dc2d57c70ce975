-- What unescaping gives: never more bytes than it was given, UTF-8 for UTF-8, and a text without `&` as it is.
use Prim.Native.Nat.{ℕ, zero, suc, ◌+◌, ◌≤◌}
use mathlib.Core.Path.{◌≡◌, refl, sym, ◌∙◌, ap}
use mathlib.Core.Bool.{Bool, true, false}
use mathlib.Core.List.{List, [], ◌∷◌, ◌++◌}
use native.Mathlib.Omega.{arith}
use borrow.Author.Tests.{eqb-true, ne_eqb}
use lib.Dec.{ltb, leb, eqb, lit<}
use lib.ListN.{length, get_or, drop, length-append}
use Rattle.lists.specs.Tests.{pick}
use Rattle.lists.proofs.Tests.{pick_all, false_true}
use Rattle.utf8.specs.Table.{Range, ◌to◌, in_range, After, due, never, after, table, walk, is_utf8}
use Rattle.utf8.specs.Encode.{encode}
use Rattle.utf8.proofs.Cut.{high, after_high, ascii_none, walk_ascii, walk_drop_after}
use Rattle.utf8.proofs.Chars.{utf8_encode}
use Rattle.reference.specs.Text.{reference, Out, before, decode, references, verdict, validated, unescaped}
use Rattle.reference.specs.Text.Out.{bytes, bad}
use Rattle.reference.proofs.Taken.{taken}
use Rattle.reference.proofs.Lenient.{before_is}
use Rattle.reference.specs.declared.Reference.{Reference}
use Rattle.std.specs.Prelude.{Option, None, Some, Ok}

-- ---- a text without `&` is unescaped to itself
unescaped_plain : (strict : Bool) (at : ℕ) (s : List ℕ) → ((k : ℕ) → get_or s k 0 ≡ 38 → ⊥) → decode strict at 0 s ≡ bytes s
unfolding decode before
unescaped_plain strict at [] p = refl
unescaped_plain strict at (b ∷ s) p =
    rw (decode, ne_eqb b 38 (p 0)) (ap (before (b ∷ [])) (unescaped_plain strict (suc at) s (λ k. p (suc k))))

pub plain_unescapes : (t : List ℕ) → ((k : ℕ) → get_or t k 0 ≡ 38 → ⊥) → unescaped t ≡ bytes t
unfolding unescaped
plain_unescapes t p = unescaped_plain false 0 t p

pub plain_valid : (t : List ℕ) → ((k : ℕ) → get_or t k 0 ≡ 38 → ⊥) → validated t ≡ Ok tt
unfolding validated references verdict
plain_valid t p = rw (unescaped_plain true 0 t p)

-- ---- the result is never longer than the text
AtMost : ℕ → List ℕ → Type 0
AtMost n l = length l ≤ n

encode_most : (c : ℕ) → length (encode c) ≤ 4
unfolding encode AtMost
encode_most c = pick_all (AtMost 4) (ltb c 0x80) _ _ (lit< tt)
    (pick_all (AtMost 4) (ltb c 0x800) _ _ (lit< tt) (pick_all (AtMost 4) (ltb c 0x10000) _ _ (lit< tt) (lit< tt)))

shorter : (strict : Bool) (at k : ℕ) (s l : List ℕ) → k ≤ length s → decode strict at k s ≡ bytes l → length l + k ≤ length s
unfolding decode
shorter strict at k [] l h e = let q : l ≡ [] = cc in omega (arith, ap length q)
shorter strict at (suc k) (b ∷ s) l h e = omega (arith, shorter strict (suc at) k s l (omega arith) e)
shorter strict at zero (b ∷ s) l h e = go (eqb b 38) (reference strict s) refl e (λ k m. shorter strict (suc at) k s m)
  where
    rest : (a : List ℕ) (k : ℕ) → k ≤ length s → length a ≤ 1 + k → before a (decode strict (suc at) k s) ≡ bytes l
        → ((k : ℕ) (m : List ℕ) → k ≤ length s → decode strict (suc at) k s ≡ bytes m → length m + k ≤ length s)
        → length l + 0 ≤ suc (length s)
    rest a k h w e ih =
        let x = before_is a l (decode strict (suc at) k s) e in
        omega (arith, ih k x.0 h x.1, ap length x.2, length-append a x.0)

    go : (t : Bool) (r : Option Reference) → reference strict s ≡ r
        → elim t [
          | true ↦ elim r [ Some y ↦ before (encode y.code) (decode strict (suc at) y.len s) | None ↦ bad at ]
          | false ↦
              before (b ∷ []) (decode strict (suc at) zero s)
        ] ≡ bytes l
        → ((k : ℕ) (m : List ℕ) → k ≤ length s → decode strict (suc at) k s ≡ bytes m → length m + k ≤ length s)
        → length l + 0 ≤ suc (length s)
    go true (Some y) q e ih =
        let t = taken strict s q in
        rest (encode y.code) y.len t.within (omega (arith, t.some, encode_most y.code)) e ih
    go true None q e ih = let z : ◌≡◌ {A = ℕ} 0 1 = cc in absurd (omega arith)
    go false r q e ih = rest (b ∷ []) zero (omega arith) (omega arith) e ih

-- never longer than its input
pub unescaped_shorter : (t l : List ℕ) → unescaped t ≡ bytes l → length l ≤ length t
unfolding unescaped
unescaped_shorter t l e = omega (arith, shorter false 0 0 t l (omega arith) e)

-- ---- the result is UTF-8 when the text is
-- what is decoded while the ranges rs are due
Fits : List Range → Out → Type 0
Fits rs (bytes l) = walk rs l ≡ true
Fits rs (bad at) = Unit {0}

-- bytes in front, by what they leave due
fits_before : (a : List ℕ) (rs next : List Range) (o : Out) → ((m : List ℕ) → walk next m ≡ true → walk rs (a ++ m) ≡ true) → Fits next o
    → Fits rs (before a o)
unfolding Fits before
fits_before a rs next (bytes m) step f = step m f
fits_before a rs next (bad at) step f = tt

high_rest : (r : Range) (rs : List Range) → high (r ∷ rs) ≡ true → high rs ≡ true
unfolding high
high_rest (from to last) rs h = go (leb 0x80 from) h
  where
    go : (t : Bool) → pick t (high rs) false ≡ true → high rs ≡ true
    go true h = h
    go false h = false_true h

-- a byte that is no `&` is copied
utf8_copy : (b : ℕ) (s : List ℕ) (rs : List Range) (o : Out) → high rs ≡ true → walk rs (b ∷ s) ≡ true
    → ((next : List Range) → high next ≡ true → walk next s ≡ true → Fits next o) → Fits rs (before (b ∷ []) o)
unfolding walk
utf8_copy b s [] o h w ih = go (after table b) refl w
  where
    go : (n : After) → after table b ≡ n → elim n [ due rs ↦ walk rs s | never ↦ false ] ≡ true → Fits [] (before (b ∷ []) o)
    go (due next) q w = fits_before (b ∷ []) [] next o (λ m e. rw (walk, q) e) (ih next (after_high b next q) w)
    go never q w = false_true w
utf8_copy b s (r ∷ rs) o h w ih = go (in_range r b) refl w
  where
    go : (t : Bool) → in_range r b ≡ t → pick t (walk rs s) false ≡ true → Fits (r ∷ rs) (before (b ∷ []) o)
    go true q w = fits_before (b ∷ []) (r ∷ rs) rs o (λ m e. rw (walk, q) e) (ih rs (high_rest r rs h) w)
    go false q w = false_true w

-- a reference is replaced by the bytes of a scalar value
utf8_reference : (strict : Bool) (s : List ℕ) (rs : List Range) (o : Out) {y : Reference} → high rs ≡ true → walk rs (38 ∷ s) ≡ true
    → reference strict s ≡ Some y
    → (walk [] (drop y.len s) ≡ true → Fits [] o) → Fits rs (before (encode y.code) o)
unfolding is_utf8 high
utf8_reference strict s rs o {y} h w q ih =
    let t = taken strict s q in
    let e : rs ≡ [] = ascii_none rs 38 s w h (lit< tt) in
    let v : walk [] s ≡ true = sym (walk_ascii 38 s (lit< tt)) ∙ rw e at w in
    let d : walk [] (drop y.len s) ≡ true = walk_drop_after [] s y.len refl (omega (arith, t.some)) t.within (rw t.semicolon (lit< tt)) v in
    rw e (fits_before (encode y.code) [] [] o (λ m k. utf8_encode y.code m t.char ∙ k) (ih d))

utf8_decode : (strict : Bool) (at : ℕ) (s : List ℕ) (k : ℕ) (rs : List Range) → high rs ≡ true → walk rs (drop k s) ≡ true
    → Fits rs (decode strict at k s)
unfolding decode Fits high
utf8_decode strict at [] zero rs h w = w
utf8_decode strict at [] (suc k) rs h w = w
utf8_decode strict at (b ∷ s) (suc k) rs h w = utf8_decode strict (suc at) s k rs h w
utf8_decode strict at (b ∷ s) zero rs h w = go (eqb b 38) (reference strict s) refl refl (utf8_decode strict (suc at) s)
  where
    go : (t : Bool) (r : Option Reference) → eqb b 38 ≡ t → reference strict s ≡ r
        → ((k : ℕ) (rs : List Range) → high rs ≡ true → walk rs (drop k s) ≡ true → Fits rs (decode strict (suc at) k s))
        → Fits rs (elim t [
          | true ↦ elim r [ Some y ↦ before (encode y.code) (decode strict (suc at) y.len s) | None ↦ bad at ]
          | false ↦ before (b ∷ []) (decode strict (suc at) zero s)
        ])
    go true (Some y) e q ih =
        utf8_reference strict s rs (decode strict (suc at) y.len s) h (rw (eqb-true b 38 e) at w) q (λ d. ih y.len [] refl d)
    go true None e q ih = tt
    go false r e q ih = utf8_copy b s rs (decode strict (suc at) zero s) h w (λ next g v. ih zero next g v)

-- UTF-8 when its input is
pub unescaped_utf8 : (t l : List ℕ) → is_utf8 t ≡ true → unescaped t ≡ bytes l → is_utf8 l ≡ true
unfolding unescaped is_utf8 Fits high
unescaped_utf8 t l u e = rw e at (utf8_decode false 0 t 0 [] refl u)
