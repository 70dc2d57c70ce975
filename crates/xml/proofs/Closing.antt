-- The row that closes an element (table/specs/Piece.antt goes by the numbers of kinds) is the last of its rows by the grammar.
use Prim.Native.Nat.{ℕ, zero, suc, ◌+◌}
use mathlib.Core.Path.{◌≡◌, refl, sym, ap, ◌∙◌}
use mathlib.Core.Bool.{Bool, true, false}
use mathlib.Core.List.{List, [], ◌∷◌, ◌++◌}
use native.Mathlib.Omega.{arith}
use borrow.Author.Tests.{ne_eqb}
use lib.Dec.{eqb}
use lib.ListN.{take, drop}
use lib.Seq.{take-add, take_at}
use Rattle.lists.specs.Tests.{pick, less}
use Rattle.lists.proofs.Tests.{false_true, less_is}
use Rattle.table.specs.Row.{Row, Name, Tok, Move, enters, leaves, stays, move_of, name_of, value_of, tok_of, toks_of}
use Rattle.table.specs.Rules.{open_count, last_position}
use Rattle.table.specs.Piece.{closing, is_closed, element_rows, piece_start, ElementAt}
use Rattle.table.proofs.Classes.{Kind, of_start, of_attr, of_gt, of_close, of_slash, of_matter, of_error, kind_of_lem}
use Rattle.table.proofs.Element.{element_is}
use Rattle.xml.specs.Grammar.{Attributes, no_attribute, attribute, Element, empty_element, full_element, Content, no_content}
use Rattle.xml.specs.Grammar.{between_tags, child}
use Rattle.xml.proofs.Past.{past_attributes, past_element, past_content}
use Rattle.xml.proofs.Again.{again_element, same_element, append_element, length_element}

-- ---- `closing` and `is_closed` by tokens
-- one of two: where none is open, or where some are
abbrev around : {A : Type 0} → ℕ → A → A → A
around zero a b = a
around (suc n) a b = b

pick_around : {A : Type 0} (n : ℕ) (a b : A) → pick (eqb n 0) a b ≡ around n a b
pick_around zero a b = refl
pick_around (suc n) a b = rw (ne_eqb (suc n) 0 (λ q. omega arith))

-- how many elements are open after a token
abbrev opened_by : ℕ → Move → ℕ
opened_by n (enters m) = suc n
opened_by n leaves = less n
opened_by n stays = n

abbrev opened_after : ℕ → Tok → ℕ
opened_after n t = opened_by n (move_of t)

unfoldable closing_at : ℕ → List Tok → ℕ
closing_at n [] = zero
closing_at n (t ∷ l) = suc (around (opened_after n t) 0 (closing_at (opened_after n t) l))

unfoldable closed_at : ℕ → List Tok → Bool
closed_at n [] = false
closed_at n (t ∷ l) = around (opened_after n t) true (closed_at (opened_after n t) l)

-- by the number of a row's kind and by its token
opened_same : (n : ℕ) {m : Name} {v : List ℕ} {k : ℕ} {t : Tok} → Kind m v k t → open_count n k ≡ opened_after n t
opened_same n of_start = refl
opened_same n of_attr = refl
opened_same n of_gt = refl
opened_same n of_close = sym (less_is n)
opened_same n of_slash = sym (less_is n)
opened_same n (of_matter w) = rw (w.loose.start, w.loose.closing)
opened_same n (of_error w) = rw (w.loose.start, w.loose.closing)

opened_row : (body : List ℕ) (n : ℕ) (r : Row) → open_count n r.kind ≡ opened_after n (tok_of body r)
opened_row body n r = opened_same n (kind_of_lem r.kind (name_of body r) (value_of body r))

closing_toks : (body : List ℕ) (n : ℕ) (rows : List Row) → closing n rows ≡ closing_at n (toks_of body rows)
unfolding closing closing_at
closing_toks body n [] = refl
closing_toks body n (r ∷ rest) =
    rw (opened_row body n r, closing_toks body (opened_after n (tok_of body r)) rest, pick_around (opened_after n (tok_of body r)))

closed_toks : (body : List ℕ) (n : ℕ) (rows : List Row) → is_closed n rows ≡ closed_at n (toks_of body rows)
unfolding is_closed closed_at
closed_toks body n [] = refl
closed_toks body n (r ∷ rest) =
    rw (opened_row body n r, closed_toks body (opened_after n (tok_of body r)) rest, pick_around (opened_after n (tok_of body r)))

-- ---- parts of the grammar, with n elements open around them: none is left open, and where n is 0 the element itself is the one that
-- closes
closing_attributes : {s : List Name} {l r : List Tok} (a : Attributes s l r) (n k : ℕ)
    → k + closing_at (suc n) l ≡ past_attributes a k + closing_at (suc n) r
unfolding closing_at past_attributes
closing_attributes no_attribute n k = refl
closing_attributes (attribute f v a) n k = omega (arith, closing_attributes a n (suc k))

closed_attributes : {s : List Name} {l r : List Tok} → Attributes s l r → (n : ℕ) → closed_at (suc n) l ≡ closed_at (suc n) r
unfolding closed_at
closed_attributes no_attribute n = refl
closed_attributes (attribute f v a) n = closed_attributes a n

mutual
  unfolding closing_at past_element

  closing_element : {l r : List Tok} (e : Element l r) (n k : ℕ) → k + closing_at n l ≡ past_element e k + around n 0 (closing_at n r)
  closing_element (empty_element m {r = r} a) n k = omega (arith, closing_attributes a n (suc k))
  closing_element (full_element m {r = r} a c) n k =
      omega (arith, closing_attributes a n (suc k), closing_content c n (suc (past_attributes a (suc k))))

  closing_content : {l r : List Tok} (c : Content l r) (n k : ℕ) → k + closing_at (suc n) l ≡ past_content c k + closing_at (suc n) r
  closing_content no_content n k = refl
  closing_content (between_tags v c) n k = omega (arith, closing_content c n (suc k))
  closing_content (child e c) n k = closing_element e (suc n) k ∙ closing_content c n (past_element e k)

mutual
  unfolding closed_at

  closed_element : {l r : List Tok} → Element l r → (n : ℕ) → closed_at n l ≡ around n true (closed_at n r)
  closed_element (empty_element m {r = r} a) n = closed_attributes a n
  closed_element (full_element m {r = r} a c) n = closed_attributes a n ∙ closed_content c n

  closed_content : {l r : List Tok} → Content l r → (n : ℕ) → closed_at (suc n) l ≡ closed_at (suc n) r
  closed_content no_content n = refl
  closed_content (between_tags v c) n = closed_content c n
  closed_content (child e c) n = closed_element e (suc n) ∙ closed_content c n

-- ---- an element in row k
abbrev starts : List Tok → Bool
starts [] = false
starts (t ∷ l) = eqb (opened_after 0 t) 1

-- only a token of kind 1 opens an element
starts_one : {m : Name} {v : List ℕ} {k : ℕ} {t : Tok} → Kind m v k t → eqb (opened_after 0 t) 1 ≡ true → k ≡ 1
starts_one of_start o = refl
starts_one of_attr o = false_true o
starts_one of_gt o = false_true o
starts_one of_close o = false_true o
starts_one of_slash o = false_true o
starts_one (of_matter w) o = false_true o
starts_one (of_error w) o = false_true o

element_starts : {l r : List Tok} → Element l r → starts l ≡ true
element_starts (empty_element n a) = refl
element_starts (full_element n a c) = refl

toks_drop : (body : List ℕ) (k : ℕ) (rows : List Row) → toks_of body (drop k rows) ≡ drop k (toks_of body rows)
toks_drop body zero rows = refl
toks_drop body (suc k) [] = refl
toks_drop body (suc k) (r ∷ rows) = toks_drop body k rows

pub toks_take : (body : List ℕ) (c : ℕ) (rows : List Row) → toks_of body (take c rows) ≡ take c (toks_of body rows)
toks_take body zero rows = refl
toks_take body (suc c) [] = refl
toks_take body (suc c) (r ∷ rows) = rw (toks_take body c rows)

-- after some rows the last position is that of the others
last_append : (p q : ℕ) (before : List Row) (r : Row) (rest : List Row) → last_position p (before ++ r ∷ rest) ≡ last_position q (r ∷ rest)
last_append p q [] r rest = refl
last_append p q (x ∷ before) r rest = last_append x.position q before r rest

module _ (body : List ℕ) (rows : List Row) {l r : List Tok} (e : Element l r) (k : ℕ) (h : drop k (toks_of body rows) ≡ l) where
  here : toks_of body (drop k rows) ≡ l
  here = toks_drop body k rows ∙ h

  -- the row that closes it is its last by the grammar
  pub element_closing : (j : ℕ) → j + closing 0 (drop k rows) ≡ past_element e j
  element_closing j = rw (closing_toks body 0 (drop k rows), here) (omega (arith, closing_element e 0 j))

  pub element_closed : is_closed 0 (drop k rows) ≡ true
  element_closed = rw (closed_toks body 0 (drop k rows), here) (closed_element e 0)

  -- it is an element of the table, and begins at the last `<` before its start row's local name
  pub element_at : ElementAt body rows k (piece_start body (drop k rows))
  unfolding is_closed
  element_at = go (drop k rows) refl (ap starts here ∙ element_starts e)
    where
      go : (d : List Row) → drop k rows ≡ d → starts (toks_of body d) ≡ true → ElementAt body rows k (piece_start body (drop k rows))
      go [] q o = false_true o
      go (first ∷ rest) q o =
          let one : first.kind ≡ 1 = starts_one (kind_of_lem first.kind (name_of body first) (value_of body first)) o in
          record { first = first; rest = rest; cut_at = q; starts = one; closes = rw (q, one) at element_closed; begins = rw q }

  -- its rows stand for its own tokens, with nothing after
  pub element_toks : toks_of body (element_rows rows k) ≡ again_element e []
  element_toks =
      toks_take body (closing 0 (drop k rows)) (drop k rows)
      ∙ ap (take (closing 0 (drop k rows))) (here ∙ sym (same_element e) ∙ append_element e [] r)
      ∙ take_at (again_element e []) r (closing 0 (drop k rows)) (omega (arith, element_closing 0, length_element e 0 []))

  -- the position after it
  pub element_last : last_position 0 (element_rows rows k) ≡ last_position 0 (take (past_element e k) rows)
  element_last =
      let a = element_at in
      let is = element_is rows k a.cut_at a.starts in
      rw (← element_closing k, take-add k (closing 0 (drop k rows)) rows, is)
      (sym (last_append 0 0 (take k rows) a.first (take (closing 1 a.rest) a.rest)))
