-- What a field leaves are the last bytes of those that it is read from, and how many it takes at most.
use Rattle.std.proofs.Common.{◌≡◌, ℕ, suc, ◌+◌, ◌-◌, ◌≤◌, Bool, true, false, List, [], ◌∷◌, refl, length, take, drop, leb, ltb, arith}
use Rattle.std.proofs.Common.{subst, leb-true}
use Rattle.std.proofs.lemmas.List.{length-drop, drop-drop, get_or-drop}
use Rattle.sheet.specs.Front.{Front, front, broken, then, where_holds, byte, bit_map, bit, name, name_if}
use Rattle.sheet.specs.Sheet.{Member, member}
use Rattle.lists.specs.Tests.{pick}
use Rattle.lists.proofs.Tests.{false_true}
use Rattle.sheet.proofs.Exact.Fields.{AllBytes}

-- r are the last bytes of s, at most so many after the first
pub record After (most : ℕ) (s r : List ℕ) : Type 0 where
  pub fewer : length r ≤ length s
  pub is : r ≡ drop (length s - length r) s
  pub near : length s ≤ length r + most
  pub bytes : AllBytes r

pub after_same : (s : List ℕ) → AllBytes s → After 0 s s
after_same s h =
    let z : length s - length s ≡ 0 = omega arith in
    record { fewer = omega arith; is = rw z; near = omega arith; bytes = h }

after_drop : (n most : ℕ) (s : List ℕ) → AllBytes s → n ≤ length s → n ≤ most → After most s (drop n s)
after_drop n most s b h m =
    let z : length s - length (drop n s) ≡ n = omega (arith, length-drop n s) in
    record {
      fewer = omega (arith, length-drop n s);
      is = rw z;
      near = omega (arith, length-drop n s);
      bytes = record { each = λ i. rw (get_or-drop n s i 0) (b.each (n + i)) };
    }

pub after_after : {m n : ℕ} {s r t : List ℕ} → After m s r → After n r t → After (m + n) s t
after_after {s = s} {r} {t} h k =
    let i = length s - length r in
    let j = length r - length t in
    let z : length s - length t ≡ i + j = omega (arith, h.fewer, k.fewer) in
    record {
      fewer = omega (arith, h.fewer, k.fewer);
      is = rw (z, ← drop-drop j i s, ← h.is) k.is;
      near = omega (arith, h.near, k.near);
      bytes = k.bytes;
    }

-- what a field leaves, if it is not broken
abbrev Onward : {A : Type 0} → ℕ → List ℕ → Front A → Type 0
Onward most s (front a r) = After most s r
Onward most s broken = Unit {0}

onward_from : {A : Type 0} (m n : ℕ) (s r : List ℕ) → After m s r → (x : Front A) → Onward n r x → Onward (m + n) s x
onward_from m n s r h (front a t) k = after_after h k
onward_from m n s r h broken k = tt

onward_then : {A B : Type 0} (m n : ℕ) (s : List ℕ) (x : Front A) (f : A → List ℕ → Front B) → Onward m s x
    → ((a : A) (r : List ℕ) → AllBytes r → Onward n r (f a r)) → Onward (m + n) s (then x f)
onward_then m n s (front a r) f h k = onward_from m n s r h (f a r) (k a r h.bytes)
onward_then m n s broken f h k = tt

onward_where : {A : Type 0} (m : ℕ) (s : List ℕ) (t : Bool) (x : Front A) → (t ≡ true → Onward m s x) → Onward m s (where_holds t x)
onward_where m s true x h = h refl
onward_where m s false x h = tt

byte_onward : (s : List ℕ) → AllBytes s → Onward 1 s (byte s)
byte_onward [] h = tt
byte_onward (b ∷ s) h = after_drop 1 1 (b ∷ s) h (omega arith) (omega arith)

bit_map_onward : (values : ℕ) (s : List ℕ) → AllBytes s → Onward 1 s (bit_map values s)
bit_map_onward values s h =
    onward_then 1 0 s (byte s) _ (byte_onward s h)
    (λ b r g. onward_where 0 r (ltb b values) (front b r) (λ e. after_same r g))

name_onward : (s : List ℕ) → AllBytes s → Onward 256 s (name s)
name_onward [] h = tt
name_onward (n ∷ r) h =
    onward_where 256 (n ∷ r) (pick (leb 1 n) (leb n (length r)) false) (front (take n r) (drop n r)) (λ e. long (leb 1 n) e)
  where
    long : (t : Bool) → pick t (leb n (length r)) false ≡ true → After 256 (n ∷ r) (drop n r)
    long true e = after_drop (suc n) 256 (n ∷ r) h (omega (arith, leb-true n (length r) e)) (h.each 0)
    long false e = false_true e

name_if_onward : (t : Bool) (s : List ℕ) → AllBytes s → Onward 256 s (name_if t s)
name_if_onward true s h = onward_then 256 0 s (name s) _ (name_onward s h) (λ n r g. after_same r g)
name_if_onward false s h = after_drop 0 256 s h (omega arith) (omega arith)

member_onward : (s : List ℕ) → AllBytes s → Onward 513 s (member s)
member_onward s h =
    onward_then 1 512 s (bit_map 32 s) _ (bit_map_onward 32 s h)
    (λ b s1 h1. onward_then 256 256 s1 (name_if (bit 1 b) s1) _ (name_if_onward (bit 1 b) s1 h1)
    (λ x s2 h2. onward_then 256 0 s2 (name_if (bit 2 b) s2) _ (name_if_onward (bit 2 b) s2 h2) (λ m s3 h3. after_same s3 h3)))

pub after_member : {s r : List ℕ} {m : Member} → AllBytes s → member s ≡ front m r → After 513 s r
after_member {s} {r} {m} h e = let P : Front Member → Type 0 = λ x. Onward 513 s x in subst P e (member_onward s h)
