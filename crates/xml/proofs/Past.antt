-- How many rows a part of the grammar takes, counted exactly as a walk counts: the number of the row after a part that begins at row k.
use Prim.Native.Nat.{ℕ, zero, suc, ◌+◌, ◌≤◌, ◌<◌}
use mathlib.Core.Path.{◌≡◌}
use mathlib.Core.List.{List, [], ◌∷◌}
use native.Mathlib.Numerals.{add-one}
use native.Mathlib.Omega.{arith}
use lib.ListN.{length, drop}
use lib.Seq.{drop-drop}
use Rattle.table.specs.Row.{Name, Tok, start, gt}
use Rattle.xml.specs.Grammar.{Attributes, no_attribute, attribute, Element, empty_element, full_element, Content, no_content}
use Rattle.xml.specs.Grammar.{between_tags, child, Miscs, no_misc, one_misc}

unfoldable pub past_attributes : {s : List Name} {l r : List Tok} → Attributes s l r → ℕ → ℕ
past_attributes no_attribute k = k
past_attributes (attribute f v a) k = past_attributes a (suc k)

unfoldable mutual
  unfolding past_attributes

  pub past_element : {l r : List Tok} → Element l r → ℕ → ℕ
  past_element (empty_element n a) k = suc (past_attributes a (suc k))
  past_element (full_element n a c) k = suc (past_content c (suc (past_attributes a (suc k))))

  pub past_content : {l r : List Tok} → Content l r → ℕ → ℕ
  past_content no_content k = k
  past_content (between_tags v c) k = past_content c (suc k)
  past_content (child e c) k = past_content c (past_element e k)

unfoldable pub past_miscs : {l r : List Tok} → Miscs l r → ℕ → ℕ
past_miscs no_misc k = k
past_miscs (one_misc m) k = past_miscs m (suc k)

-- ---- what stands after a part: `all` is the list that is walked, and the part stands at k
pub at_next {ℓ} : {A : Type ℓ} (all : List A) (k : ℕ) {x : A} {l : List A} → drop k all ≡ x ∷ l → drop (suc k) all ≡ l
at_next all k h = rw (← add-one k, ← drop-drop 1 k all, h)

module _ (all : List Tok) where
  pub past_attributes_lem : {s : List Name} {l r : List Tok} (a : Attributes s l r) (k : ℕ) → drop k all ≡ l
      → drop (past_attributes a k) all ≡ r
  unfolding past_attributes
  past_attributes_lem no_attribute k h = h
  past_attributes_lem (attribute f v a) k h = past_attributes_lem a (suc k) (at_next all k h)

  -- where the content of an element begins
  pub in_content : {n : Name} {l m : List Tok} (a : Attributes [] l (gt ∷ m)) (k : ℕ) → drop k all ≡ start n ∷ l
      → drop (suc (past_attributes a (suc k))) all ≡ m
  in_content a k h = at_next all (past_attributes a (suc k)) (past_attributes_lem a (suc k) (at_next all k h))

  mutual
    unfolding past_element

    pub past_element_lem : {l r : List Tok} (e : Element l r) (k : ℕ) → drop k all ≡ l → drop (past_element e k) all ≡ r
    past_element_lem (empty_element n a) k h = at_next all (past_attributes a (suc k)) (past_attributes_lem a (suc k) (at_next all k h))
    past_element_lem (full_element n a c) k h =
        at_next all (past_content c (suc (past_attributes a (suc k))))
        (past_content_lem c (suc (past_attributes a (suc k))) (in_content a k h))

    pub past_content_lem : {l r : List Tok} (c : Content l r) (k : ℕ) → drop k all ≡ l → drop (past_content c k) all ≡ r
    past_content_lem no_content k h = h
    past_content_lem (between_tags v c) k h = past_content_lem c (suc k) (at_next all k h)
    past_content_lem (child e c) k h = past_content_lem c (past_element e k) (past_element_lem e k h)

  pub past_miscs_lem : {l r : List Tok} (m : Miscs l r) (k : ℕ) → drop k all ≡ l → drop (past_miscs m k) all ≡ r
  unfolding past_miscs
  past_miscs_lem no_misc k h = h
  past_miscs_lem (one_misc m) k h = past_miscs_lem m (suc k) (at_next all k h)

-- ---- how much a part takes
-- the number of direct child elements
unfoldable pub count : {l r : List Tok} → Content l r → ℕ
count no_content = zero
count (between_tags v c) = count c
count (child e c) = suc (count c)

pub grow_attributes : {s : List Name} {l r : List Tok} → Attributes s l r → length r ≤ length l
grow_attributes no_attribute = omega arith
grow_attributes (attribute f v a) = omega (arith, grow_attributes a)

mutual
  unfolding count

  pub grow_element : {l r : List Tok} → Element l r → length r < length l
  grow_element (empty_element n a) = omega (arith, grow_attributes a)
  grow_element (full_element n a c) = omega (arith, grow_attributes a, grow_content c)

  -- each child takes a row at least
  pub grow_content : {l r : List Tok} (c : Content l r) → length r + count c ≤ length l
  grow_content no_content = omega arith
  grow_content (between_tags v c) = omega (arith, grow_content c)
  grow_content (child e c) = omega (arith, grow_element e, grow_content c)

pub grow_miscs : {l r : List Tok} → Miscs l r → length r ≤ length l
grow_miscs no_misc = omega arith
grow_miscs (one_misc m) = omega (arith, grow_miscs m)
