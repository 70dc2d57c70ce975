-- On what is in the grammar of XML 1.0, scopes end at their elements' own end tags: what a reader meets is what the grammar has.
use Prim.Native.Nat.{ℕ, zero, suc, ◌<◌}
use mathlib.Core.Path.{◌≡◌, refl, ap, ◌∙◌}
use mathlib.Core.Bool.{Bool, true, false}
use mathlib.Core.List.{List, [], ◌∷◌}
use native.Mathlib.Omega.{arith}
use borrow.Author.Tests.{eq-eqb, ne_eqb}
use lib.ListN.{length}
use Rattle.lists.specs.Tests.{pick}
use Rattle.reference.specs.Xml.{EachReference}
use Rattle.reference.specs.Text.{bytes, unescaped, meaning}
use Rattle.reference.proofs.Lenient.{valid_unescapes}
use Rattle.reference.proofs.Grammar.{validate_complete}
use Rattle.table.specs.Row.{Name, Tok, close}
use Rattle.xml.specs.Grammar.{Attributes, no_attribute, attribute, Element, empty_element, full_element, Content, no_content, between_tags}
use Rattle.xml.specs.Grammar.{child}
use Rattle.xml.proofs.Tests.{name_same}
use Rattle.xml.proofs.Past.{past_attributes, past_element, past_content, count, grow_content}
use Rattle.document.specs.declared.Depth.{Depth}
use Rattle.document.specs.Reader.{deeper, Reader, reader, Scope, element, Past, skip, StartEl, blank, begun, add_attribute, as_closed}
use Rattle.document.specs.Reader.{found, next}
use Rattle.document.specs.Scope.{Child, shut, dropped, Level, meets, done, level, level_in, children, end_of, dropping, children_of}
use Rattle.document.specs.Scope.{after_children}

-- ---- what a text stands for, where all its references are right
pub unescapes : (v : List ℕ) → EachReference v → unescaped v ≡ bytes (meaning (unescaped v))
unescapes v e = let w = valid_unescapes v (validate_complete v e) in rw w.1

-- ---- the start element of an element at depth d and row k, and the reader at its content
unfoldable pub with_attributes : {s : List Name} {l r : List Tok} → Attributes s l r → StartEl → StartEl
with_attributes no_attribute o = o
with_attributes (attribute {m = m} {v = v} f e a) o = with_attributes a (add_attribute o m (meaning (unescaped v)))

unfoldable pub as_child : {l r : List Tok} → Element l r → Depth → ℕ → Child
unfolding past_attributes with_attributes
as_child (empty_element n {r = r} a) d k =
    record { start = as_closed (with_attributes a (begun blank n d k)); inner = reader d (suc (past_attributes a (suc k))) r }
as_child (full_element n {m = m} a c) d k =
    record { start = with_attributes a (begun blank n d k); inner = reader (deeper d) (suc (past_attributes a (suc k))) m }

-- the direct children of a content at depth d that begins at row k, and then the end of the level
unfoldable pub as_level : {l r : List Tok} → Content l r → Depth → ℕ → Past → Level
unfolding as_child past_element
as_level no_content d k p = done p
as_level (between_tags e c) d k p = as_level c d (suc k) p
as_level (child x c) d k p = meets (as_child x d k) (as_level c d (past_element x k) p)

-- attributes change neither name nor depth nor row, and do not close a tag
pub with_name : {s : List Name} {l r : List Tok} (a : Attributes s l r) (o : StartEl) → (with_attributes a o).name ≡ o.name
unfolding with_attributes
with_name no_attribute o = refl
with_name (attribute {m = m} {v = v} f e a) o = with_name a (add_attribute o m (meaning (unescaped v)))

pub with_depth_lem : {s : List Name} {l r : List Tok} (a : Attributes s l r) (o : StartEl) → (with_attributes a o).depth ≡ o.depth
unfolding with_attributes
with_depth_lem no_attribute o = refl
with_depth_lem (attribute {m = m} {v = v} f e a) o = with_depth_lem a (add_attribute o m (meaning (unescaped v)))

pub with_row : {s : List Name} {l r : List Tok} (a : Attributes s l r) (o : StartEl) → (with_attributes a o).row ≡ o.row
unfolding with_attributes
with_row no_attribute o = refl
with_row (attribute {m = m} {v = v} f e a) o = with_row a (add_attribute o m (meaning (unescaped v)))

pub with_closed : {s : List Name} {l r : List Tok} (a : Attributes s l r) (o : StartEl) → (with_attributes a o).closed ≡ o.closed
unfolding with_attributes
with_closed no_attribute o = refl
with_closed (attribute {m = m} {v = v} f e a) o = with_closed a (add_attribute o m (meaning (unescaped v)))

-- ---- the skip over a part of the grammar that lies deeper than the scope
skip_attributes : (s : Scope) {b : List Name} {l r : List Tok} (a : Attributes b l r) (d : Depth) (k : ℕ)
    → skip s d k l ≡ skip s d (past_attributes a k) r
unfolding skip past_attributes
skip_attributes s no_attribute d k = refl
skip_attributes s (attribute f e a) d k = skip_attributes s a d (suc k)

module _ (own : Depth) (n : Name) where
  -- an end tag inside is passed over
  skip_inner : (m : Name) (l : List Tok) (d : Depth) (k : ℕ) → own.0 < d.0
      → skip (element own n) (deeper d) k (close m ∷ l) ≡ skip (element own n) d (suc k) l
  unfolding skip
  skip_inner m l d k h = rw (ne_eqb d.0 own.0 (omega arith))

  skip_own : (l : List Tok) (k : ℕ) → skip (element own n) (deeper own) k (close n ∷ l) ≡ shut (reader own (suc k) l)
  unfolding skip
  skip_own l k = rw (eq-eqb own.0 own.0 refl, name_same n)

  mutual
    unfolding skip past_element

    skip_element : {l r : List Tok} (e : Element l r) (d : Depth) (k : ℕ) → own.0 < d.0
        → skip (element own n) d k l ≡ skip (element own n) d (past_element e k) r
    skip_element (empty_element m a) d k h = skip_attributes (element own n) a (deeper d) (suc k)
    skip_element (full_element m {r = r} a c) d k h =
        skip_attributes (element own n) a (deeper d) (suc k)
        ∙ skip_content c (deeper d) (suc (past_attributes a (suc k))) (omega arith)
        ∙ skip_inner m r d _ h

    skip_content : {l r : List Tok} (c : Content l r) (d : Depth) (k : ℕ) → own.0 < d.0
        → skip (element own n) d k l ≡ skip (element own n) d (past_content c k) r
    skip_content no_content d k h = refl
    skip_content (between_tags e c) d k h = skip_content c d (suc k) h
    skip_content (child x c) d k h = skip_element x d k h ∙ skip_content c d (past_element x k) h

  -- from the content of an element to right after its own end tag
  pub skip_to_end : {l r : List Tok} (c : Content l (close n ∷ r)) (k : ℕ)
      → skip (element own n) (deeper own) k l ≡ shut (reader own (suc (past_content c k)) r)
  skip_to_end {r = r} c k = skip_content c (deeper own) k (omega arith) ∙ skip_own r _

-- ---- the next start element
pub next_attributes : (s : Scope) {b : List Name} {l r : List Tok} (a : Attributes b l r) (o : StartEl) (d : Depth) (k : ℕ)
    → next s o d k l ≡ next s (with_attributes a o) d (past_attributes a k) r
unfolding next past_attributes with_attributes
next_attributes s no_attribute o d k = refl
next_attributes s (attribute {m = m} {v = v} f e a) o d k =
    rw (unescapes v e) (next_attributes s a (add_attribute o m (meaning (unescaped v))) d (suc k))

pub next_element : (s : Scope) {l r : List Tok} (e : Element l r) (d : Depth) (k : ℕ)
    → next s blank d k l ≡ found (as_child e d k).start (as_child e d k).inner
unfolding next as_child
next_element s (empty_element n a) d k = rw (next_attributes s a)
next_element s (full_element n a c) d k = rw (next_attributes s a)

-- an element that is dropped has been read to its end
pub dropped_element : {l r : List Tok} (e : Element l r) (d : Depth) (k : ℕ)
    → dropped (as_child e d k) ≡ shut (reader d (past_element e k) r)
unfolding as_child past_element
dropped_element (empty_element n a) d k = refl
dropped_element (full_element n a c) d k =
    rw (with_name a (begun blank n d k), with_depth_lem a (begun blank n d k), with_closed a (begun blank n d k)) (skip_to_end d n c _)

-- ---- the children
-- after an element, past says, the reader stands after its end
pub record PastElements (past : Child → Reader) : Type 0 where
  pub after : {l r : List Tok} (e : Element l r) (d : Depth) (k : ℕ) → past (as_child e d k) ≡ reader d (past_element e k) r

pub dropping_past : PastElements dropping
dropping_past = record { after = λ e d k. ap (λ (p : Past). p.reader) (dropped_element e d k) }

module _ (past : Child → Reader) (goes : PastElements past) (own : Depth) (n : Name) where
  level_child : {l r : List Tok} (e : Element l r) (f k : ℕ)
      → level (suc f) past (element own n) (reader (deeper own) k l)
      ≡ meets (as_child e (deeper own) k) (level f past (element own n) (reader (deeper own) (past_element e k) r))
  unfolding level
  level_child e f k = rw (next_element (element own n) e, goes.after e (deeper own) k)

  level_done : (f k : ℕ) (r : List Tok)
      → level (suc f) past (element own n) (reader (deeper own) k (close n ∷ r)) ≡ done (shut (reader own (suc k) r))
  unfolding level
  level_done f k r = rw (eq-eqb own.0 own.0 refl, name_same n)

  -- in the content of an element the level is the grammar's, and ends at the element's end tag
  level_within : {l q r : List Tok} (c : Content l q) → q ≡ close n ∷ r → (f k : ℕ) → count c < f
      → level f past (element own n) (reader (deeper own) k l) ≡ as_level c (deeper own) k (shut (reader own (suc (past_content c k)) r))
  unfolding level as_level count past_element
  level_within no_content e zero k h = absurd (omega (arith, h))
  level_within {r = r} no_content e (suc f) k h = rw e (level_done f k r)
  level_within (between_tags b c) e zero k h = absurd (omega (arith, h))
  level_within (between_tags b c) e (suc f) k h = level_within c e (suc f) (suc k) h
  level_within (child x c) e zero k h = absurd (omega (arith, h))
  level_within (child x c) e (suc f) k h =
      level_child x f k
      ∙ ap {B = Level} (λ t. meets (as_child x (deeper own) k) t) (level_within c e f (past_element x k) (omega (arith, h)))

  pub level_content : {l r : List Tok} (c : Content l (close n ∷ r)) (f k : ℕ) → count c < f
      → level f past (element own n) (reader (deeper own) k l) ≡ as_level c (deeper own) k (shut (reader own (suc (past_content c k)) r))
  level_content c f k h = level_within c refl f k h

-- the children of an element, by the grammar
unfoldable pub contents : {l r : List Tok} → Content l r → Depth → ℕ → List Child
unfolding as_child past_element
contents no_content d k = []
contents (between_tags e c) d k = contents c d (suc k)
contents (child x c) d k = as_child x d k ∷ contents c d (past_element x k)

unfoldable pub inside : {l r : List Tok} → Element l r → Depth → ℕ → List Child
unfolding contents past_attributes
inside (empty_element n a) d k = []
inside (full_element n a c) d k = contents c (deeper d) (suc (past_attributes a (suc k)))

contents_are : {l r : List Tok} (c : Content l r) (d : Depth) (k : ℕ) (p : Past) → children (as_level c d k p) ≡ contents c d k
unfolding children as_level contents
contents_are no_content d k p = refl
contents_are (between_tags e c) d k p = contents_are c d (suc k) p
contents_are (child x c) d k p = rw (contents_are c d (past_element x k) p)

contents_end : {l r : List Tok} (c : Content l r) (d : Depth) (k : ℕ) (p : Past) → end_of (as_level c d k p) ≡ p
unfolding end_of as_level
contents_end no_content d k p = refl
contents_end (between_tags e c) d k p = contents_end c d (suc k) p
contents_end (child x c) d k p = contents_end c d (past_element x k) p

-- a loop over the children of an element meets those of the grammar, and reads to the element's end
module _ (past : Child → Reader) (goes : PastElements past) where
  pub level_in_lem : {l r : List Tok} (e : Element l r) (d : Depth) (k : ℕ) → children (level_in past (as_child e d k)) ≡ inside e d k
  unfolding children as_child inside
  level_in_lem (empty_element n a) d k = refl
  level_in_lem (full_element n {m = m} {r = r} a c) d k =
      rw (
        with_name a (begun blank n d k),
        with_depth_lem a (begun blank n d k),
        with_closed a (begun blank n d k),
        level_content past goes d n c (suc (length m)) (suc (past_attributes a (suc k))) (omega (arith, grow_content c)),
      )
      (contents_are c (deeper d) (suc (past_attributes a (suc k))) _)

  pub level_end : {l r : List Tok} (e : Element l r) (d : Depth) (k : ℕ)
      → end_of (level_in past (as_child e d k)) ≡ shut (reader d (past_element e k) r)
  unfolding end_of as_child past_element
  level_end (empty_element n a) d k = refl
  level_end (full_element n {m = m} {r = r} a c) d k =
      rw (
        with_name a (begun blank n d k),
        with_depth_lem a (begun blank n d k),
        with_closed a (begun blank n d k),
        level_content past goes d n c (suc (length m)) (suc (past_attributes a (suc k))) (omega (arith, grow_content c)),
      )
      (contents_end c (deeper d) (suc (past_attributes a (suc k))) _)

pub children_are : {l r : List Tok} (e : Element l r) (d : Depth) (k : ℕ) → children_of (as_child e d k) ≡ inside e d k
unfolding children_of
children_are e d k = level_in_lem dropping dropping_past e d k

pub after_children_past : PastElements after_children
unfolding after_children
after_children_past = record { after = λ e d k. rw (level_end dropping dropping_past e d k) }

-- one or the other, by any test of the child
pick_either : (t : Bool) {a b r : Reader} → a ≡ r → b ≡ r → pick t a b ≡ r
pick_either true e f = e
pick_either false e f = f

pub either_past : (test : Child → Bool) (past past' : Child → Reader) → PastElements past → PastElements past'
    → PastElements (λ c. pick (test c) (past c) (past' c))
either_past test past past' f g = record { after = λ e d k. pick_either (test (as_child e d k)) (f.after e d k) (g.after e d k) }
