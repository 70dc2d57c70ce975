-- The name of a member at the front of some bytes: of its two names the first that is there, right after the bit map.
use Rattle.std.proofs.Common.{◌≡◌, ℕ, ◌+◌, ◌≤◌, ◌<◌, Bool, true, false, List, [], ◌∷◌, refl, length, get_or, take, drop, leb, ltb, arith}
use Rattle.std.proofs.Common.{leb-true}
use Rattle.std.proofs.Math.Option.{Option, none, some}
use Rattle.lists.specs.Tests.{pick}
use Rattle.lists.proofs.Tests.{false_true}
use Rattle.sheet.specs.Front.{Front, front, broken, then, where_holds, bit, name, name_if}
use Rattle.sheet.specs.Sheet.{Member, member}
use Rattle.sheet.specs.Names.{child_name}
use Rattle.codec.specs.Members.{is_front, member_of, member_at, Stands}
use Rattle.sheet.proofs.Exact.Fields.{front_value, not_broken}

-- the name right after the bit map
pub record NameNext (s : List ℕ) (m : Member) : Type 0 where
  pub inside : 2 + get_or s 1 0 ≤ length s
  pub is : child_name m ≡ some (take (get_or s 1 0) (drop 2 s))

-- a name that was read, and what comes of it
name_next : {A : Type 0} (b : ℕ) (s : List ℕ) (f : List ℕ → List ℕ → Front A) (a : A) (r : List ℕ) → then (name s) f ≡ front a r
    → {G : Type 0}
    → (2 + get_or (b ∷ s) 1 0 ≤ length (b ∷ s)
    → f (take (get_or (b ∷ s) 1 0) (drop 2 (b ∷ s))) (drop (get_or s 0 0) (drop 1 s)) ≡ front a r → G)
    → G
name_next b [] f a r e k = not_broken e
name_next b (n ∷ s) f a r e {G} k = go (leb 1 n) (leb n (length s)) refl e
  where
    go : (t u : Bool) → leb n (length s) ≡ u → then (where_holds (pick t u false) (front (take n s) (drop n s))) f ≡ front a r → G
    go true true q e = k (omega (arith, leb-true n (length s) q)) e
    go true false q e = not_broken e
    go false u q e = not_broken e

-- the second name, after the first
then_second : (u : Bool) (x : Option (List ℕ)) (s : List ℕ) (g : Option (List ℕ) → Option (List ℕ) → Member) (m : Member) (r : List ℕ)
    → then (name_if u s) (λ y e. front (g x y) e) ≡ front m r → {G : Type 0} → ((y : Option (List ℕ)) → g x y ≡ m → G) → G
then_second true x s g m r e {G} k = go (name s) e
  where
    go : (z : Front (List ℕ)) → then (then z (λ n rest. front (some n) rest)) (λ y e. front (g x y) e) ≡ front m r → G
    go (front n rest) e = k (some n) (front_value e)
    go broken e = not_broken e
then_second false x s g m r e k = k none (front_value e)

then_name : {A : Type 0} (z : Front (List ℕ)) (f : Option (List ℕ) → List ℕ → Front A)
    → then (then z (λ n rest. front (some n) rest)) f ≡ then z (λ n rest. f (some n) rest)
then_name (front n rest) f = refl
then_name broken f = refl

-- a member by its bit map and its names
abbrev made : ℕ → Option (List ℕ) → Option (List ℕ) → Member
made b x y = record { xml_name = x; member_name = y; attribute = bit 4 b; flattened = bit 8 b; aggregate = bit 16 b }

abbrev after_map : Bool → Bool → ℕ → List ℕ → Front Member
after_map t u b s = then (name_if t s) (λ x s2. then (name_if u s2) (λ y s3. front (made b x y) s3))

named_by : (t u : Bool) (b : ℕ) (s : List ℕ) (m : Member) (r : List ℕ) → after_map t u b s ≡ front m r
    → pick (pick t true u) (NameNext (b ∷ s) m) (child_name m ≡ none)
named_by true u b s m r e =
    name_next b s (λ n s2. then (name_if u s2) (λ y s3. front (made b (some n) y) s3)) m r
    (rw (then_name (name s) (λ x s2. then (name_if u s2) (λ y s3. front (made b x y) s3))) at e)
    (λ h e. then_second u _ _ (made b) m r e (λ y q. record { inside = h; is = rw (← q) }))
named_by false true b s m r e =
    name_next b s (λ n s2. front (made b none (some n)) s2) m r
    (rw (then_name (name s) (λ y s3. front (made b none y) s3)) at e)
    (λ h e. record { inside = h; is = rw (← front_value e) })
named_by false false b s m r e = rw (← front_value e)

-- what is left after it
abbrev pub rest_of : Front Member → List ℕ
rest_of (front m rest) = rest
rest_of broken = []

pub fronted : (x : Front Member) → is_front x ≡ true → x ≡ front (member_of x) (rest_of x)
fronted (front m rest) e = refl
fronted broken e = false_true e

-- a member stands at the front
module _ {s : List ℕ} (w : Stands s 0) where
  pub front_there : 0 < length s
  front_there = go s (fronted (member s) w.is)
    where
      go : (s : List ℕ) {m : Member} {r : List ℕ} → member s ≡ front m r → 0 < length s
      go [] e = not_broken e
      go (b ∷ s) e = omega arith

  by_bits : pick (pick (bit 1 (get_or s 0 0)) true (bit 2 (get_or s 0 0))) (NameNext s (member_at s 0)) (child_name (member_at s 0) ≡ none)
  by_bits = go s (member_at s 0) (rest_of (member s)) (fronted (member s) w.is)
    where
      go : (s : List ℕ) (m : Member) (r : List ℕ) → member s ≡ front m r
          → pick (pick (bit 1 (get_or s 0 0)) true (bit 2 (get_or s 0 0))) (NameNext s m) (child_name m ≡ none)
      go [] m r e = not_broken e
      go (b ∷ s) m r e = named_by (bit 1 b) (bit 2 b) b s m r (fits (ltb b 32) e)
        where
          fits : (t : Bool) → then (where_holds t (front b s)) (λ b s1. after_map (bit 1 b) (bit 2 b) b s1) ≡ front m r
              → after_map (bit 1 b) (bit 2 b) b s ≡ front m r
          fits true e = e
          fits false e = not_broken e

  pub front_named : pick (bit 1 (get_or s 0 0)) true (bit 2 (get_or s 0 0)) ≡ true → NameNext s (member_at s 0)
  front_named e = rw e at by_bits

  pub front_unnamed : pick (bit 1 (get_or s 0 0)) true (bit 2 (get_or s 0 0)) ≡ false → child_name (member_at s 0) ≡ none
  front_unnamed e = rw e at by_bits
