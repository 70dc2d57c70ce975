-- Laws of patterns and names.
use Prim.Native.Nat.{ℕ, suc, ◌+◌, ◌-◌, ◌≤◌, ◌<◌}
use mathlib.Core.Path.{◌≡◌, refl, sym, ap, ◌∙◌}
use mathlib.Core.Bool.{Bool, true, false, cond, not, ◌&&◌}
use mathlib.Core.List.{List, [], ◌∷◌}
use native.Mathlib.Omega.{arith}
use borrow.Author.Rules.{rules}
use borrow.Author.Tests.{ltb-false}
use lib.Dec.{eqb, ltb}
use lib.Pointwise.{pointwise}
use lib.ListN.{length, take, drop, length-drop}
use lib.Seq.{take-length}
use Rattle.std.specs.List.{position, position_or_len}
use Rattle.std.specs.Option.{unwrap_or}
use Rattle.std.specs.Bool.{nat_lt, nat_eq}
use Rattle.std.specs.declared.option.Option.{Option}
use Rattle.std.specs.Prelude.{Some, None}
use Rattle.lists.specs.Tests.{pick}
use Rattle.lists.specs.Bytes.{sameb}
use Rattle.table.specs.Row.{Name}
use Rattle.table.specs.Names.{before_colon, name_matches}
use Rattle.table.proofs.Names.{split, prefixed, matches_split, split_alone, split_prefixed, split_matches}

abbrev is_colon : ℕ → Bool
is_colon b = eqb b 58

-- the place of the first colon, or the length
first_is : (s : List ℕ) → position_or_len is_colon s ≡ before_colon s
unfolding before_colon
first_is [] = refl
first_is (b ∷ s) = go (eqb b 58) (first_is s)
  where
    go : (t : Bool) → position_or_len is_colon s ≡ before_colon s
        → cond (not t) (1 + position_or_len is_colon s) 0 ≡ pick t 0 (suc (before_colon s))
    go true h = refl
    go false h = omega (arith, h)

first_low : (s : List ℕ) → before_colon s ≤ length s
unfolding before_colon
first_low [] = omega arith
first_low (b ∷ s) = go (eqb b 58) (first_low s)
  where
    go : (t : Bool) → before_colon s ≤ length s → pick t 0 (suc (before_colon s)) ≤ suc (length s)
    go true h = omega arith
    go false h = omega arith

pub colon_is : (s : List ℕ) {r : Option ℕ} {n : ℕ} → r ≡ position is_colon s → n ≡ unwrap_or r (length s) → n ≡ before_colon s
colon_is s {r} {n} e f = f ∙ rw e (go (nat_lt (position_or_len is_colon s) (length s)) refl)
  where
    go : (t : Bool) → nat_lt (position_or_len is_colon s) (length s) ≡ t
        → unwrap_or (cond t (Some (position_or_len is_colon s)) None) (length s) ≡ before_colon s
    go true q = first_is s
    go false q = omega (arith, first_is s, first_low s, ltb-false (position_or_len is_colon s) (length s) q)

-- ---- whether a pattern asks for a name
take_rest : (m : ℕ) (p : List ℕ) → take (length p - m) (drop m p) ≡ drop m p
take_rest m p = ap (λ (n : ℕ). take n (drop m p)) (sym (length-drop m p)) ∙ take-length (drop m p)

same_is : (a b : List ℕ) → pointwise nat_eq a b ≡ sameb a b
unfolding sameb
same_is [] [] = refl
same_is [] (y ∷ ys) = refl
same_is (x ∷ xs) [] = refl
same_is (x ∷ xs) (y ∷ ys) = go (eqb x y) (same_is xs ys)
  where
    go : (t : Bool) → pointwise nat_eq xs ys ≡ sameb xs ys → (t && pointwise nat_eq xs ys) ≡ pick t (sameb xs ys) false
    go true h = h
    go false h = refl

-- by its parts, as they stand in it
by_parts : (n : Name) (p : List ℕ) {u : Bool} → u ≡ matches_split n (split p) → u ≡ name_matches n p
by_parts n p q = q ∙ split_matches n.prefix n.local p

module _ (n : Name) (p : List ℕ) {c : ℕ} (s : c ≡ before_colon p) {a b : List ℕ} {r : Bool} (e : r ≡ pointwise nat_eq a b) where
  pub matches_none : length p ≤ c → a ≡ p → b ≡ n.local → r ≡ name_matches n p
  matches_none l f g = by_parts n p (rw (split_alone p (omega (arith, s, l)), ← f, ← g) (e ∙ same_is a b))

  module _ (l : c < length p) (f : a ≡ n.local) (g : b ≡ take (length p - (c + 1)) (drop (c + 1) p)) where
    parts : split p ≡ prefixed (take c p) b
    parts = rw (g ∙ take_rest (c + 1) p, s) (split_prefixed p (omega (arith, s, l)))

    pub matches_not : r ≡ false → r ≡ name_matches n p
    matches_not q = by_parts n p (rw (parts, ← f, ← same_is a b, ← e, q))

    pub matches_both : r ≡ true → {x y : List ℕ} {u : Bool} → u ≡ pointwise nat_eq x y → x ≡ n.prefix → y ≡ take c p → u ≡ name_matches n p
    matches_both q {x} {y} d i j = by_parts n p (rw (parts, ← f, ← same_is a b, ← e, q, ← i, ← j) (d ∙ same_is x y))

pub ruleset match_laws = (rules, matches_none, matches_not, matches_both)
