-- THEOREM 1: the drain passes exactly the tables that obey the rules and whose tokens are a document, or have no element at all.
use Prim.Native.Nat.{ℕ, zero, suc}
use mathlib.Core.Path.{◌≡◌, refl, sym}
use mathlib.Core.Bool.{Bool, true, false}
use mathlib.Core.Logic.{◌↔◌, ◌⊎◌, inl, inr}
use mathlib.Core.List.{List, [], ◌∷◌, Memᴰ}
use lib.ListN.{length}
use Rattle.lists.specs.Tests.{pick}
use Rattle.reference.specs.Xml.{EachReference}
use Rattle.reference.proofs.Grammar.{validate_sound, validate_complete, validated_none}
use Rattle.reference.specs.Text.{validated}
use Rattle.reference.specs.declared.BadReference.{BadReference}
use Rattle.table.specs.Row.{Name, Tok, start, attr, gt, close, slash, Matter, text, misc, references_in, matter, bad, rows_of, toks_of}
use Rattle.table.specs.Rules.{TableRules}
use Rattle.xml.specs.declared.Cause.{Cause}
use Rattle.xml.specs.Grammar.{Attributes, no_attribute, attribute, Element, empty_element, full_element, Content, no_content}
use Rattle.xml.specs.Grammar.{between_tags, child, Miscs, no_misc, one_misc, Document, document}
use Rattle.table.specs.Test.{dec_table}
use Rattle.xml.specs.Drain.{same_name, has_name, State, going, failed, with_value, with_attribute, step, walk, verdict, walked, drained_by}
use Rattle.xml.specs.Drain.{drained}
use Rattle.xml.proofs.Tests.{same_name_lem, name_same, not_seen, not_member}
use Rattle.xml.proofs.Order.{Phase, before, in_tag, within, behind, back, ruled, not_broken, table_ruled}
use Rattle.xml.proofs.First.{not_ill, passes_not_table}
use Rattle.std.specs.Prelude.{Result, Ok, Err}

-- the walk has come to an end at which the drain passes
abbrev Ends : State → Type 0
Ends (going [] a) = Unit {0}
Ends (going (n ∷ s) a) = ⊥
Ends (failed k c) = ⊥

ends_passes : (n : ℕ) (st : State) → Ends st → verdict n st ≡ Ok tt
ends_passes n (going [] a) h = refl
ends_passes n (going (x ∷ s) a) h = absurd h
ends_passes n (failed k c) h = absurd h

passes_ends : (n : ℕ) (st : State) → verdict n st ≡ Ok tt → Ends st
passes_ends n (going [] a) e = tt
passes_ends n (going (x ∷ s) a) e = not_ill (sym e)
passes_ends n (failed k c) e = not_ill (sym e)

-- ---- from the grammar to the walk: with the elements s open and the attributes a, from any row on, l leads to a good end
record Good (s a : List Name) (l : List Tok) : Type 0 where
  at : (k : ℕ) → Ends (walk k (going s a) l)

good_attributes : {s a : List Name} {l r : List Tok} → Attributes a l r → ((b : List Name) → Good s b r) → Good s a l
unfolding walk
good_attributes {a = a} no_attribute g = g a
good_attributes {a = a} (attribute {m = m} {v = v} f e x) g =
    record { at = λ k. rw (not_seen m a f, validate_complete v e) ((good_attributes x g).at (suc k)) }

mutual
  unfolding walk

  good_element : {l r : List Tok} → Element l r → (s : List Name) → ((a : List Name) → Good s a r) → (a : List Name) → Good s a l
  good_element (empty_element n x) s g a = record { at = λ k. (good_attributes x (λ b. record { at = λ j. (g b).at (suc j) })).at (suc k) }
  good_element (full_element n {r = r} x c) s g a =
      let closes : (b : List Name) → Good (n ∷ s) b (close n ∷ r) = λ b. record { at = λ j. rw (name_same n) ((g b).at (suc j)) } in
      record { at = λ k. (good_attributes x (λ b. record { at = λ j. (good_content c (n ∷ s) closes b).at (suc j) })).at (suc k) }

  good_content : {l r : List Tok} → Content l r → (s : List Name) → ((a : List Name) → Good s a r) → (a : List Name) → Good s a l
  good_content no_content s g a = g a
  good_content (between_tags {b = b} e c) s g a =
      record { at = λ k. rw (validate_complete (references_in b) e) ((good_content c s g a).at (suc k)) }
  good_content (child e c) s g a = good_element e s (good_content c s g) a

good_miscs : {l r : List Tok} → Miscs l r → (a : List Name) → Good [] a r → Good [] a l
unfolding walk
good_miscs no_misc a g = g
good_miscs (one_misc m) a g = record { at = λ k. rw validated_none ((good_miscs m a g).at (suc k)) }

good_end : (a : List Name) → Good [] a []
unfolding walk
good_end a = record { at = λ k. tt }

good_passes : {toks : List Tok} → Good [] [] toks → walked toks ≡ Ok tt
unfolding walked
good_passes {toks} g = ends_passes (length toks) (walk zero (going [] []) toks) (g.at zero)

-- the walk passes documents, and lists with no element
pub document_passes : {toks : List Tok} → Document toks ⊎ Miscs toks [] → walked toks ≡ Ok tt
document_passes (inl (document m e q)) = good_passes (good_miscs m [] (good_element e [] (λ a. good_miscs q a (good_end a)) []))
document_passes (inr m) = good_passes (good_miscs m [] (good_end []))

-- ---- from the walk and the order to the grammar
-- content and an end tag for each name of s, innermost first, and then only others
abbrev Closes : List Name → List Tok → Type 0
Closes [] l = Miscs l []
Closes (n ∷ s) l = (r : List Tok) × Content l (close n ∷ r) × Closes s r

-- the rest of a start tag of n after the attributes a, and what follows it, with s open around it
data InTag (n : Name) (s a : List Name) (l : List Tok) : Type 0 where
  ends : {r : List Tok} → Attributes a l (slash ∷ r) → Closes s r → InTag n s a l
  goes : {m : List Tok} → Attributes a l (gt ∷ m) → Closes (n ∷ s) m → InTag n s a l

-- where the walk stands, in the words of the grammar
data Spot : Type 0 where
  prolog : Spot
  tag : Name → List Name → Spot
  content : Name → List Name → Spot
  epilog : Spot

abbrev phase_of : Spot → Phase
phase_of prolog = before
phase_of (tag n s) = in_tag (length s)
phase_of (content n s) = within (length s)
phase_of epilog = behind

abbrev stack_of : Spot → List Name
stack_of prolog = []
stack_of (tag n s) = n ∷ s
stack_of (content n s) = n ∷ s
stack_of epilog = []

-- what is to come there
abbrev Lang : Spot → List Name → List Tok → Type 0
Lang prolog a l = Document l ⊎ Miscs l []
Lang (tag n s) a l = InTag n s a l
Lang (content n s) a l = Closes (n ∷ s) l
Lang epilog a l = Miscs l []

failed_ends {ℓ} : {A : Type ℓ} (j k : ℕ) (c : Cause) (l : List Tok) → Ends (walk j (failed k c) l) → A
unfolding walk
failed_ends j k c [] h = absurd h
failed_ends j k c (t ∷ l) h = absurd h

more_misc : {l : List Tok} → Document l ⊎ Miscs l [] → Document (matter misc ∷ l) ⊎ Miscs (matter misc ∷ l) []
more_misc (inl (document m e q)) = inl (document (one_misc m) e q)
more_misc (inr m) = inr (one_misc m)

root : {n : Name} {l : List Tok} → InTag n [] [] l → Document (start n ∷ l) ⊎ Miscs (start n ∷ l) []
root {n} (ends x h) = inl (document no_misc (empty_element n x) h)
root {n} (goes x h) = inl (document no_misc (full_element n x h.1) h.2)

more_attribute : {m : Name} {v : List ℕ} {n : Name} {s a : List Name} {l : List Tok} → (Memᴰ m a → ⊥) → EachReference v
    → InTag n s (m ∷ a) l → InTag n s a (attr m v ∷ l)
more_attribute f e (ends x h) = ends (attribute f e x) h
more_attribute f e (goes x h) = goes (attribute f e x) h

more_child : {m n : Name} {s : List Name} {l : List Tok} → InTag m (n ∷ s) [] l → Closes (n ∷ s) (start m ∷ l)
more_child {m} (ends x h) = (h.0, child (empty_element m x) h.1, h.2)
more_child {m} (goes x h) = (h.2.0, child (full_element m x h.1) h.2.1, h.2.2)

-- one token back, when the rest l is known to be what is to come, from wherever the walk gets to
module _ (k : ℕ) (l : List Tok)
    (rest : (x : Spot) (a : List Name) → ruled (phase_of x) l ≡ true → Ends (walk (suc k) (going (stack_of x) a) l) → Lang x a l) where
  after_end : (s a : List Name) → ruled (back (length s)) l ≡ true → Ends (walk (suc k) (going s a) l) → Closes s l
  after_end [] a h e = rest epilog a h e
  after_end (n ∷ s) a h e = rest (content n s) a h e

  prolog_back : (a : List Name) (t : Tok) → ruled before (t ∷ l) ≡ true → Ends (walk (suc k) (step k [] a t) l)
      → Document (t ∷ l) ⊎ Miscs (t ∷ l) []
  unfolding ruled
  prolog_back a (start n) h e = root (rest (tag n []) [] h e)
  prolog_back a (attr m v) h e = not_broken l h
  prolog_back a gt h e = not_broken l h
  prolog_back a (close n) h e = not_broken l h
  prolog_back a slash h e = not_broken l h
  prolog_back a (matter (text v)) h e = not_broken l h
  prolog_back a (matter misc) h e = more_misc (rest prolog a h (rw validated_none at e))
  prolog_back a bad h e = failed_ends (suc k) k Cause.TokenError l e

  attribute_back : (n : Name) (s a : List Name) (m : Name) (v : List ℕ) (x : Bool) (y : Result (Unit {0}) BadReference) → has_name m a ≡ x
      → validated v ≡ y
      → ruled (in_tag (length s)) l ≡ true
      → Ends (walk (suc k) (with_attribute x k (with_value y k (going (n ∷ s) (m ∷ a)))) l) → InTag n s a (attr m v ∷ l)
  attribute_back n s a m v true y p q h e = failed_ends (suc k) k Cause.RepeatedAttribute l e
  attribute_back n s a m v false (Ok u) p q h e =
      more_attribute (not_member m a p) (validate_sound v q) (rest (tag n s) (m ∷ a) h e)
  attribute_back n s a m v false (Err why) p q h e = failed_ends (suc k) k Cause.BadReference l e

  tag_back : (n : Name) (s a : List Name) (t : Tok) → ruled (in_tag (length s)) (t ∷ l) ≡ true → Ends (walk (suc k) (step k (n ∷ s) a t) l)
      → InTag n s a (t ∷ l)
  unfolding ruled
  tag_back n s a (start m) h e = not_broken l h
  tag_back n s a (attr m v) h e = attribute_back n s a m v (has_name m a) (validated v) refl refl h e
  tag_back n s a gt h e = goes no_attribute (rest (content n s) a h e)
  tag_back n s a (close m) h e = not_broken l h
  tag_back n s a slash h e = ends no_attribute (after_end s a h e)
  tag_back n s a (matter b) h e = not_broken l h
  tag_back n s a bad h e = failed_ends (suc k) k Cause.TokenError l e

  matter_back : (n : Name) (s a : List Name) (b : Matter) (y : Result (Unit {0}) BadReference) → validated (references_in b) ≡ y
      → ruled (within (length s)) l ≡ true
      → Ends (walk (suc k) (with_value y k (going (n ∷ s) a)) l) → Closes (n ∷ s) (matter b ∷ l)
  matter_back n s a b (Ok u) q h e =
      let c : Closes (n ∷ s) l = rest (content n s) a h e in (c.0, between_tags (validate_sound (references_in b) q) c.1, c.2)
  matter_back n s a b (Err why) q h e = failed_ends (suc k) k Cause.BadReference l e

  close_back : (n : Name) (s a : List Name) (m : Name) (x : Bool) → same_name m n ≡ x → ruled (back (length s)) l ≡ true
      → Ends (walk (suc k) (pick x (going s a) (failed k Cause.MismatchedEnd)) l) → Closes (n ∷ s) (close m ∷ l)
  close_back n s a m true q h e = (l, rw (same_name_lem m n q) no_content, after_end s a h e)
  close_back n s a m false q h e = failed_ends (suc k) k Cause.MismatchedEnd l e

  content_back : (n : Name) (s a : List Name) (t : Tok) → ruled (within (length s)) (t ∷ l) ≡ true
      → Ends (walk (suc k) (step k (n ∷ s) a t) l) → Closes (n ∷ s) (t ∷ l)
  unfolding ruled
  content_back n s a (start m) h e = more_child (rest (tag m (n ∷ s)) [] h e)
  content_back n s a (attr m v) h e = not_broken l h
  content_back n s a gt h e = not_broken l h
  content_back n s a (close m) h e = close_back n s a m (same_name m n) refl h e
  content_back n s a slash h e = not_broken l h
  content_back n s a (matter b) h e = matter_back n s a b (validated (references_in b)) refl h e
  content_back n s a bad h e = failed_ends (suc k) k Cause.TokenError l e

  epilog_back : (a : List Name) (t : Tok) → ruled behind (t ∷ l) ≡ true → Ends (walk (suc k) (step k [] a t) l) → Miscs (t ∷ l) []
  unfolding ruled
  epilog_back a (start n) h e = not_broken l h
  epilog_back a (attr m v) h e = not_broken l h
  epilog_back a gt h e = not_broken l h
  epilog_back a (close n) h e = not_broken l h
  epilog_back a slash h e = not_broken l h
  epilog_back a (matter (text v)) h e = not_broken l h
  epilog_back a (matter misc) h e = one_misc (rest epilog a h (rw validated_none at e))
  epilog_back a bad h e = failed_ends (suc k) k Cause.TokenError l e

  spot_back : (x : Spot) (a : List Name) (t : Tok) → ruled (phase_of x) (t ∷ l) ≡ true → Ends (walk (suc k) (step k (stack_of x) a t) l)
      → Lang x a (t ∷ l)
  spot_back prolog a t h e = prolog_back a t h e
  spot_back (tag n s) a t h e = tag_back n s a t h e
  spot_back (content n s) a t h e = content_back n s a t h e
  spot_back epilog a t h e = epilog_back a t h e

at_end_lem : (x : Spot) (a : List Name) → Ends (going (stack_of x) a) → Lang x a []
at_end_lem prolog a e = inr no_misc
at_end_lem (tag n s) a e = absurd e
at_end_lem (content n s) a e = absurd e
at_end_lem epilog a e = no_misc

to_grammar : (k : ℕ) (l : List Tok) (x : Spot) (a : List Name) → ruled (phase_of x) l ≡ true → Ends (walk k (going (stack_of x) a) l)
    → Lang x a l
unfolding walk
to_grammar k [] x a h e = at_end_lem x a e
to_grammar k (t ∷ l) x a h e = spot_back k l (to_grammar (suc k) l) x a t h e

-- tokens in order that pass the walk are a document, or have no element
pub ruled_document : (toks : List Tok) → ruled before toks ≡ true → walked toks ≡ Ok tt → Document toks ⊎ Miscs toks []
unfolding walked
ruled_document toks h e = to_grammar zero toks prolog [] h (passes_ends (length toks) (walk zero (going [] []) toks) e)

-- ---- documents are in order
ruled_attributes : {a : List Name} {l r : List Tok} → Attributes a l r → (d : ℕ) → ruled (in_tag d) r ≡ true → ruled (in_tag d) l ≡ true
unfolding ruled
ruled_attributes no_attribute d h = h
ruled_attributes (attribute f e x) d h = ruled_attributes x d h

-- where an element may begin that has d open around it
abbrev begins : ℕ → Phase
begins zero = before
begins (suc d) = within d

ruled_start : (d : ℕ) (n : Name) (l : List Tok) → ruled (in_tag d) l ≡ true → ruled (begins d) (start n ∷ l) ≡ true
unfolding ruled
ruled_start zero n l h = h
ruled_start (suc d) n l h = h

mutual
  unfolding ruled

  ruled_element : {l r : List Tok} → Element l r → (d : ℕ) → ruled (back d) r ≡ true → ruled (begins d) l ≡ true
  ruled_element (empty_element n {l = l} x) d h = ruled_start d n l (ruled_attributes x d h)
  ruled_element (full_element n {l = l} x c) d h = ruled_start d n l (ruled_attributes x d (ruled_content c d h))

  ruled_content : {l r : List Tok} → Content l r → (d : ℕ) → ruled (within d) r ≡ true → ruled (within d) l ≡ true
  ruled_content no_content d h = h
  ruled_content (between_tags e c) d h = ruled_content c d h
  ruled_content (child e c) d h = ruled_element e (suc d) (ruled_content c d h)

ruled_before : {l r : List Tok} → Miscs l r → ruled before r ≡ true → ruled before l ≡ true
unfolding ruled
ruled_before no_misc h = h
ruled_before (one_misc m) h = ruled_before m h

ruled_behind : {l : List Tok} → Miscs l [] → ruled behind l ≡ true
unfolding ruled
ruled_behind no_misc = refl
ruled_behind (one_misc m) = ruled_behind m

pub document_ruled : {toks : List Tok} → Document toks ⊎ Miscs toks [] → ruled before toks ≡ true
unfolding ruled
document_ruled (inl (document m e q)) = ruled_before m (ruled_element e zero (ruled_behind q))
document_ruled (inr m) = ruled_before m refl

-- ---- THEOREM 1, of the tokens alone: those that are in order and pass the walk are the documents, and the lists with no element
pub ruled_document_is : (toks : List Tok) → ((ruled before toks ≡ true) × (walked toks ≡ Ok tt)) ↔ (Document toks ⊎ Miscs toks [])
ruled_document_is toks = (λ h. ruled_document toks h.0 h.1, λ d. (document_ruled d, document_passes d))

-- THEOREM 1, of a table that obeys the rules: the walk passes exactly the documents, and the lists with no element
pub walk_document_is : {body table : List ℕ} {final : ℕ} → TableRules body table final
    → walked (toks_of body (rows_of table)) ≡ Ok tt
    ↔ (Document (toks_of body (rows_of table)) ⊎ Miscs (toks_of body (rows_of table)) [])
walk_document_is r = (ruled_document _ (table_ruled r), document_passes)

-- THEOREM 1: the drain, by any decision of the rules, passes exactly where the rules hold and the tokens are a document or have no element
pub drain_document_is : (body table : List ℕ) (final : ℕ) (d : Dec (TableRules body table final))
    → drained_by d (toks_of body (rows_of table)) ≡ Ok tt
    ↔ (TableRules body table final × (Document (toks_of body (rows_of table)) ⊎ Miscs (toks_of body (rows_of table)) []))
drain_document_is body table final (yes p) = let w = walk_document_is p in (λ e. (p, w.0 e), λ h. w.1 h.1)
drain_document_is body table final (no f) = (λ e. passes_not_table (sym e), λ h. absurd (f h.0))

-- theorem 1, of the drain: it passes exactly where the rules hold and the tokens are a document, or have no element at all
pub drained_document_is : (body table : List ℕ) (final : ℕ)
    → (drained body table final ≡ Ok tt) ↔
    (TableRules body table final × (Document (toks_of body (rows_of table)) ⊎ Miscs (toks_of body (rows_of table)) []))
unfolding drained
drained_document_is body table final = drain_document_is body table final (dec_table body table final)
