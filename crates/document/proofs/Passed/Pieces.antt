-- Of a table that passes the drain: the root and the children that a reader meets are elements of the table, their texts are texts or have
-- an element inside, and their pieces are the elements' own (demand 3).
use Prim.Native.Nat.{ℕ, zero, suc}
use mathlib.Core.Path.{◌≡◌, refl}
use mathlib.Core.Logic.{◌⊎◌, inl, inr, ⊎_elim}
use mathlib.Core.List.Memᴰ
use mathlib.Core.List.{List, [], ◌∷◌, Memᴰ}
use mathlib.Core.Option.{Option, none, some}
use borrow.Author.Tests.{eq-eqb}
use lib.ListN.{drop}
use Rattle.std.specs.Prelude.{Ok}
use Rattle.refusal.specs.declared.Refusal.{Refusal}
use Rattle.refusal.specs.Answer.{Answer, gives, refuses}
use Rattle.table.specs.Row.{Row, Name, text, misc, Tok, close, rows_of, toks_of}
use Rattle.xml.specs.Grammar.{Element, empty_element, full_element, Content, no_content, between_tags, child, Miscs, no_misc, one_misc}
use Rattle.xml.specs.Grammar.{Document}
use Rattle.xml.specs.Grammar as grammar
use Rattle.xml.specs.Drain.{drained}
use Rattle.xml.proofs.Tests.{name_same}
use Rattle.xml.proofs.Past.{past_attributes, past_element, past_miscs, at_next, in_content, past_element_lem, past_miscs_lem}
use Rattle.xml.specs.Piece.{PieceAt}
use Rattle.xml.proofs.Piece.{element_piece}
use Rattle.document.specs.declared.Depth.{Depth}
use Rattle.document.specs.View.{View, whole}
use Rattle.document.specs.Reader.{depth, deeper, document, element, StartEl, blank, begun, next}
use Rattle.document.specs.declared.part.Piece.{Piece}
use Rattle.document.specs.Scope.{Child, children_of, root_of, piece_of}
use Rattle.document.specs.Text.{first_text, text_of}
use Rattle.document.proofs.Passed.Walks.{unescapes, as_child, contents, inside, with_name, with_depth_lem, with_row, with_closed}
use Rattle.document.proofs.Passed.Walks.{next_element, dropped_element, children_are}

-- ---- an element of the tokens that was met in its own row
pub data Met (all : List Tok) : Child → Type 0 where
  met : {l r : List Tok} (e : Element l r) (d : Depth) (k : ℕ) → drop k all ≡ l → Met all (as_child e d k)

module _ (all : List Tok) where
  contents_met : {l r : List Tok} (c : Content l r) (d : Depth) (k : ℕ) → drop k all ≡ l → (x : Child) → Memᴰ x (contents c d k)
      → Met all x
  unfolding contents
  contents_met no_content d k h x i = absurd (Memᴰ.not-nil i)
  contents_met (between_tags e c) d k h x i = contents_met c d (suc k) (at_next all k h) x i
  contents_met (child e c) d k h x i =
      ⊎_elim (λ q. rw q (met e d k h)) (λ j. contents_met c d (past_element e k) (past_element_lem all e k h) x j) (Memᴰ.cases_cons i)

  pub inside_met : {l r : List Tok} (e : Element l r) (d : Depth) (k : ℕ) → drop k all ≡ l → (x : Child) → Memᴰ x (inside e d k)
      → Met all x
  unfolding inside
  inside_met (empty_element n a) d k h x i = absurd (Memᴰ.not-nil i)
  inside_met (full_element n a c) d k h x i = contents_met c (deeper d) (suc (past_attributes a (suc k))) (in_content all a k h) x i

  -- the children of what was met are met
  pub children_met : (c : Child) → Met all c → (x : Child) → Memᴰ x (children_of c) → Met all x
  children_met c (met e d k h) x i = inside_met e d k h x (rw (children_are e d k) at i)

-- ---- the root
next_miscs : {l r : List Tok} (m : Miscs l r) (o : StartEl) (d : Depth) (k : ℕ)
    → next document o d k l ≡ next document o d (past_miscs m k) r
unfolding next past_miscs
next_miscs no_misc o d k = refl
next_miscs (one_misc m) o d k = next_miscs m o d (suc k)

-- the root that is met, if any
pub data RootMet (all : List Tok) : Option Child → Type 0 where
  root_met : {c : Child} → Met all c → RootMet all (some c)
  no_root : RootMet all none

pub document_root : (all : List Tok) → Document all ⊎ Miscs all [] → RootMet all (root_of all)
unfolding root_of next
document_root all (inl (grammar.document m e q)) =
    rw (next_miscs m blank (depth zero) zero, next_element document e (depth zero) (past_miscs m zero))
    (root_met (met e (depth zero) (past_miscs m zero) (past_miscs_lem all m zero refl)))
document_root all (inr m) = rw (next_miscs m blank (depth zero) zero) no_root

-- ---- texts
-- a text, or 6: nothing else is wrong with it
pub data TextOrElement : Answer (List ℕ) → Type 0 where
  is_text_lem : (t : List ℕ) → TextOrElement (gives t)
  is_element : TextOrElement (refuses Refusal.ElementInText)

module _ (rows : List Row) (failure : Option Refusal) (own : Depth) (n : Name) where
  first_element : {l r : List Tok} (e : Element l r) (d : Depth) (k : ℕ)
      → first_text rows failure (element own n) d k l ≡ refuses Refusal.ElementInText
  unfolding first_text
  first_element (empty_element m a) d k = refl
  first_element (full_element m a c) d k = refl

  first_content : {l r : List Tok} → Content l (close n ∷ r) → (k : ℕ)
      → TextOrElement (first_text rows failure (element own n) (deeper own) k l)
  unfolding first_text
  first_content no_content k = rw (eq-eqb own.0 own.0 refl, name_same n) (is_text_lem [])
  first_content (between_tags {b = text v} e c) k = rw (unescapes v e) (is_text_lem _)
  first_content (between_tags {b = misc} e c) k = first_content c (suc k)
  first_content (child e c) k = rw (first_element e (deeper own) k) is_element

-- whatever the view: the reader does not come to the end of its rows
pub text_met : {all : List Tok} (w : View) (c : Child) → Met all c → TextOrElement (text_of w c)
unfolding text_of as_child
text_met w c (met (empty_element n a) d k h) = is_text_lem []
text_met w c (met (full_element n a x) d k h) =
    rw (with_name a (begun blank n d k), with_depth_lem a (begun blank n d k), with_closed a (begun blank n d k))
    (first_content w.rows w.failure d n x (suc (past_attributes a (suc k))))

-- ---- pieces
pub element_row : {l r : List Tok} (e : Element l r) (d : Depth) (k : ℕ) → (as_child e d k).start.row ≡ k
unfolding as_child
element_row (empty_element n a) d k = with_row a (begun blank n d k)
element_row (full_element n a c) d k = with_row a (begun blank n d k)

-- a piece is the one of the element that starts in a row
abbrev pub IsPieceAt : List ℕ → List ℕ → ℕ → Piece → Type 0
IsPieceAt body table row p = PieceAt body table row p.start p.len

-- what is handed out as the piece of a child is that element's piece
pub piece_met : {body table : List ℕ} (final : ℕ) → drained body table final ≡ Ok tt → (c : Child)
    → Met (toks_of body (rows_of table)) c
    → IsPieceAt body table c.start.row (piece_of body (whole (rows_of table) final) c)
unfolding piece_of
piece_met final passes c (met e d k h) = rw (element_row e d k, dropped_element e d k) (element_piece final passes e k h)
