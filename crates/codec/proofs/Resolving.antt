-- Laws of members in sheet order, and of the first with a name.
use Rattle.std.proofs.Common.{◌≡◌, ℕ, zero, suc, ◌+◌, ◌≤◌, ◌<◌, true, false, List, [], ◌∷◌, refl, sym, ◌∙◌, length, get_or, drop}
use Rattle.std.proofs.Common.{drop-cons, add-one, arith, drop_of_length-le}
use Rattle.std.proofs.Math.Option.{none, some}
use Rattle.sheet.specs.Sheet.{Member}
use Rattle.sheet.specs.Names.{child_name, is_named, indexed, first_named}
use Rattle.codec.specs.Members.{nameless}

-- ---- in sheet order
indexed_drop : (k i : ℕ) (l : List Member) → drop i (indexed k l) ≡ indexed (k + i) (drop i l)
unfolding indexed
indexed_drop k zero l = let e : k + zero ≡ k = omega arith in rw e
indexed_drop k (suc i) [] = refl
indexed_drop k (suc i) (m ∷ l) = let e : k + suc i ≡ suc k + i = omega arith in rw e (indexed_drop (suc k) i l)

from_start : (i : ℕ) (l : List Member) → drop i (indexed 0 l) ≡ indexed i (drop i l)
from_start i l = let e : 0 + i ≡ i = omega arith in rw e at (indexed_drop 0 i l)

-- the member at an index, and those after it
pub members_next : (l : List Member) (i : ℕ) → i < length l
    → drop i (indexed 0 l) ≡ record { index = i; member = get_or l i nameless } ∷ drop (i + 1) (indexed 0 l)
unfolding indexed
members_next l i h = rw (from_start (i + 1) l, from_start i l, drop-cons l i nameless h, add-one i)

-- past the last
pub members_end : (l : List Member) (i : ℕ) → length l ≤ i → drop i (indexed 0 l) ≡ []
unfolding indexed
members_end l i h = from_start i l ∙ rw (drop_of_length-le l h)

-- ---- by name
-- the members before this one have another name
pub record Looking (l : List Member) (local : List ℕ) (i : ℕ) : Type 0 where
  pub rest : first_named (drop i (indexed 0 l)) local ≡ first_named (indexed 0 l) local

pub looking_start : (l : List Member) (local : List ℕ) → Looking l local 0
looking_start l local = record { rest = refl }

module _ {l : List Member} {local : List ℕ} {i : ℕ} (w : Looking l local i) where
  module _ (h : i < length l) {m : Member} (x : m ≡ get_or l i nameless) where
    pub looking_found : true ≡ is_named (child_name m) local
        → first_named (indexed 0 l) local ≡ some (record { index = i; member = get_or l i nameless })
    unfolding first_named
    looking_found e = sym (rw (members_next l i h, ← x, ← e) at w.rest) ∙ rw x

    pub looking_turn : false ≡ is_named (child_name m) local → Looking l local (i + 1)
    unfolding first_named
    looking_turn e = record { rest = rw (members_next l i h, ← x, ← e) at w.rest }

  pub looking_end : length l ≤ i → first_named (indexed 0 l) local ≡ none
  unfolding first_named
  looking_end h = sym (rw (members_end l i h) at w.rest)

pub ruleset looking_laws = (looking_found, looking_turn, looking_end)
