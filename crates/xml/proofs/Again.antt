-- A part of the grammar does not depend on what follows it: the same rows with another rest are the same part.
use Prim.Native.Nat.{ℕ, suc, ◌+◌}
use mathlib.Core.Path.{◌≡◌, refl, ap, ◌∙◌}
use mathlib.Core.List.{List, ◌∷◌, ◌++◌}
use native.Mathlib.Omega.{arith}
use lib.ListN.{length}
use Rattle.table.specs.Row.{Name, Tok, start, attr, gt, close, slash, matter}
use Rattle.xml.specs.Grammar.{Attributes, no_attribute, attribute, Element, empty_element, full_element, Content, no_content}
use Rattle.xml.specs.Grammar.{between_tags, child}
use Rattle.xml.proofs.Past.{past_attributes, past_element, past_content}

-- the tokens of the part, and then q
unfoldable pub again_attributes : {s : List Name} {l r : List Tok} → Attributes s l r → List Tok → List Tok
again_attributes no_attribute q = q
again_attributes (attribute {m = m} {v = v} f e a) q = attr m v ∷ again_attributes a q

unfoldable mutual
  unfolding again_attributes

  pub again_element : {l r : List Tok} → Element l r → List Tok → List Tok
  again_element (empty_element n a) q = start n ∷ again_attributes a (slash ∷ q)
  again_element (full_element n a c) q = start n ∷ again_attributes a (gt ∷ again_content c (close n ∷ q))

  pub again_content : {l r : List Tok} → Content l r → List Tok → List Tok
  again_content no_content q = q
  again_content (between_tags {b = b} e c) q = matter b ∷ again_content c q
  again_content (child e c) q = again_element e (again_content c q)

-- with its own rest it is the list that it was
pub same_attributes : {s : List Name} {l r : List Tok} (a : Attributes s l r) → again_attributes a r ≡ l
unfolding again_attributes
same_attributes no_attribute = refl
same_attributes (attribute f e a) = rw (same_attributes a)

mutual
  unfolding again_element

  pub same_element : {l r : List Tok} (e : Element l r) → again_element e r ≡ l
  same_element (empty_element n a) = rw (same_attributes a)
  same_element (full_element n a c) = rw (same_content c, same_attributes a)

  pub same_content : {l r : List Tok} (c : Content l r) → again_content c r ≡ l
  same_content no_content = refl
  same_content (between_tags e c) = rw (same_content c)
  same_content (child e c) = ap (again_element e) (same_content c) ∙ same_element e

-- with another rest it is the same part
pub is_attributes : {s : List Name} {l r : List Tok} (a : Attributes s l r) (q : List Tok) → Attributes s (again_attributes a q) q
unfolding again_attributes
is_attributes no_attribute q = no_attribute
is_attributes (attribute f e a) q = attribute f e (is_attributes a q)

mutual
  unfolding again_element

  pub is_element : {l r : List Tok} (e : Element l r) (q : List Tok) → Element (again_element e q) q
  is_element (empty_element n a) q = empty_element n (is_attributes a (slash ∷ q))
  is_element (full_element n a c) q = full_element n (is_attributes a (gt ∷ again_content c (close n ∷ q))) (is_content c (close n ∷ q))

  pub is_content : {l r : List Tok} (c : Content l r) (q : List Tok) → Content (again_content c q) q
  is_content no_content q = no_content
  is_content (between_tags e c) q = between_tags e (is_content c q)
  is_content (child e c) q = child (is_element e (again_content c q)) (is_content c q)

-- the rest stands after its tokens
pub append_attributes : {s : List Name} {l r : List Tok} (a : Attributes s l r) (p q : List Tok)
    → again_attributes a (p ++ q) ≡ again_attributes a p ++ q
unfolding again_attributes
append_attributes no_attribute p q = refl
append_attributes (attribute f e a) p q = rw (append_attributes a p q)

mutual
  unfolding again_element

  pub append_element : {l r : List Tok} (e : Element l r) (p q : List Tok) → again_element e (p ++ q) ≡ again_element e p ++ q
  append_element (empty_element n a) p q = rw (append_attributes a (slash ∷ p) q)
  append_element (full_element n a c) p q =
      rw (append_content c (close n ∷ p) q, append_attributes a (gt ∷ again_content c (close n ∷ p)) q)

  pub append_content : {l r : List Tok} (c : Content l r) (p q : List Tok) → again_content c (p ++ q) ≡ again_content c p ++ q
  append_content no_content p q = refl
  append_content (between_tags e c) p q = rw (append_content c p q)
  append_content (child e c) p q = ap (again_element e) (append_content c p q) ∙ append_element e (again_content c p) q

-- how many they are
pub length_attributes : {s : List Name} {l r : List Tok} (a : Attributes s l r) (k : ℕ) (q : List Tok)
    → past_attributes a k + length q ≡ k + length (again_attributes a q)
unfolding again_attributes past_attributes
length_attributes no_attribute k q = refl
length_attributes (attribute f e a) k q = omega (arith, length_attributes a (suc k) q)

mutual
  unfolding again_element past_element

  pub length_element : {l r : List Tok} (e : Element l r) (k : ℕ) (q : List Tok)
      → past_element e k + length q ≡ k + length (again_element e q)
  length_element (empty_element n a) k q = omega (arith, length_attributes a (suc k) (slash ∷ q))
  length_element (full_element n a c) k q =
      omega (
        arith,
        length_attributes a (suc k) (gt ∷ again_content c (close n ∷ q)),
        length_content c (suc (past_attributes a (suc k))) (close n ∷ q),
      )

  pub length_content : {l r : List Tok} (c : Content l r) (k : ℕ) (q : List Tok)
      → past_content c k + length q ≡ k + length (again_content c q)
  length_content no_content k q = refl
  length_content (between_tags e c) k q = omega (arith, length_content c (suc k) q)
  length_content (child e c) k q = omega (arith, length_element e k (again_content c q), length_content c (past_element e k) q)
