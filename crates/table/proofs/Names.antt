-- Worked examples of `Name::matches`, and its law of the split: a pattern that was split once matches every name as the whole one does.
use Prim.Native.Nat.{ℕ, suc, ◌+◌, ◌≤◌, ◌<◌}
use mathlib.Core.Path.{◌≡◌, refl}
use mathlib.Core.Bool.{Bool, true, false}
use mathlib.Core.List.{List, [], ◌∷◌, map}
use native.Mathlib.Omega.{arith}
use borrow.Author.Tests.{ltb-true, ltb-false}
use lib.Dec.{ltb, eqb}
use lib.ListN.{length, take, drop}
use Rattle.lists.specs.Characters.{colon}
use Rattle.lists.specs.Tests.{pick}
use Rattle.lists.specs.Bytes.{ascii, sameb}
use Rattle.lists.proofs.Tests.{pick_cases}
use Rattle.table.specs.Row.{Name}
use Rattle.table.specs.Names.{named, before_colon, name_matches}

-- ---- worked examples, as the Rust has them: of the name `p:b`, and of `b` without a prefix
pub match_examples :
    map (name_matches (named (ascii "p") (ascii "b"))) (map ascii ("b" ∷ "p:b" ∷ "q:b" ∷ ":b" ∷ "p:" ∷ "p" ∷ "p:b:c" ∷ ":" ∷ "" ∷ []))
    ≡ true ∷ true ∷ false ∷ false ∷ false ∷ false ∷ false ∷ false ∷ false ∷ []
unfolding name_matches before_colon sameb
match_examples = refl

pub match_plain_examples :
    map (name_matches (named [] (ascii "b"))) (map ascii ("b" ∷ ":b" ∷ "p:b" ∷ "b:" ∷ "" ∷ [])) ≡ true ∷ true ∷ false ∷ false ∷ false ∷ []
unfolding name_matches before_colon sameb
match_plain_examples = refl

-- of a pattern with two colons: it is split at the first
pub match_first_colon :
    map (λ n. name_matches n (ascii "p:b:c")) (named (ascii "p") (ascii "b:c") ∷ named (ascii "p:b") (ascii "c") ∷ []) ≡ true ∷ false ∷ []
unfolding name_matches before_colon sameb
match_first_colon = refl

-- ---- a pattern that was split at its first colon: a local name alone, or a prefix and a local name
pub data Split : Type 0 where
  alone : List ℕ → Split
  prefixed : List ℕ → List ℕ → Split

-- with a byte more in front
abbrev behind : ℕ → Split → Split
behind b (alone local) = alone (b ∷ local)
behind b (prefixed prefix local) = prefixed (b ∷ prefix) local

unfoldable pub split : List ℕ → Split
split [] = alone []
split (b ∷ s) = pick (eqb b colon) (prefixed [] s) (behind b (split s))

-- matching by the parts, without a look at the whole
abbrev pub matches_split : Name → Split → Bool
matches_split n (alone local) = sameb local n.local
matches_split n (prefixed prefix local) = pick (sameb n.local local) (sameb n.prefix prefix) false

-- where the parts stand in the pattern
pub split_alone : (pattern : List ℕ) → length pattern ≤ before_colon pattern → split pattern ≡ alone pattern
unfolding split before_colon
split_alone [] h = refl
split_alone (b ∷ s) h = go (eqb b colon) (split_alone s) h
  where
    go : (t : Bool) → (length s ≤ before_colon s → split s ≡ alone s) → suc (length s) ≤ pick t 0 (suc (before_colon s))
        → pick t (prefixed [] s) (behind b (split s)) ≡ alone (b ∷ s)
    go true f k = absurd (omega arith)
    go false f k = rw (f (omega arith))

pub split_prefixed : (pattern : List ℕ) → before_colon pattern < length pattern
    → split pattern ≡ prefixed (take (before_colon pattern) pattern) (drop (before_colon pattern + 1) pattern)
unfolding split before_colon
split_prefixed [] h = absurd (omega arith)
split_prefixed (b ∷ s) h = go (eqb b colon) (split_prefixed s) h
  where
    go : (t : Bool) → (before_colon s < length s → split s ≡ prefixed (take (before_colon s) s) (drop (before_colon s + 1) s))
        → pick t 0 (suc (before_colon s)) < suc (length s)
        → pick t (prefixed [] s) (behind b (split s))
        ≡ prefixed (take (pick t 0 (suc (before_colon s))) (b ∷ s)) (drop (pick t 0 (suc (before_colon s)) + 1) (b ∷ s))
    go true f k = refl
    go false f k = let z : suc (before_colon s) + 1 ≡ suc (before_colon s + 1) = omega arith in rw (z, f (omega arith))

-- for every name and every pattern: matching by the split pattern is `Name::matches` on the whole one
pub split_matches : (prefix local pattern : List ℕ)
    → matches_split (named prefix local) (split pattern) ≡ name_matches (named prefix local) pattern
unfolding name_matches
split_matches prefix local pattern =
    pick_cases (λ x. matches_split (named prefix local) (split pattern) ≡ x) (ltb (before_colon pattern) (length pattern)) _ _
    (λ e. rw (split_prefixed pattern (ltb-true _ _ e)))
    (λ e. rw (split_alone pattern (ltb-false _ _ e)))
