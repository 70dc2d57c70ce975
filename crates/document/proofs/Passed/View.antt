-- On a table that passes the drain the strict and the lenient view are one: the whole table, with no failure.
use Prim.Native.Nat.{ℕ}
use mathlib.Core.Path.{◌≡◌, refl}
use mathlib.Core.Bool.{Bool, true, false}
use mathlib.Core.Logic.{◌⊎◌, inl, inr}
use mathlib.Core.List.{List, []}
use mathlib.Core.Option.{none}
use Rattle.std.specs.Prelude.{Ok}
use Rattle.table.specs.Row.{Name, Tok, rows_of}
use Rattle.xml.specs.Grammar.{Attributes, no_attribute, attribute, Element, empty_element, full_element, Content, no_content, between_tags}
use Rattle.xml.specs.Grammar.{child, Miscs, no_misc, one_misc, Document, document}
use Rattle.xml.specs.Drain.{drained}
use Rattle.xml.proofs.Pass.{document_passes, drained_document_is}
use Rattle.document.specs.View.{whole, error_at, view}

-- ---- no token of a document is an error: none stands in a part, where none stands in what follows it
right_attributes : {a : List Name} {l r : List Tok} → Attributes a l r → error_at r ≡ none → error_at l ≡ none
unfolding error_at
right_attributes no_attribute h = h
right_attributes (attribute f v a) h = rw (right_attributes a h)

mutual
  unfolding error_at

  right_element : {l r : List Tok} → Element l r → error_at r ≡ none → error_at l ≡ none
  right_element (empty_element n a) h = rw (right_attributes a (rw h))
  right_element (full_element n a c) h = rw (right_attributes a (rw (right_content c (rw h))))

  right_content : {l r : List Tok} → Content l r → error_at r ≡ none → error_at l ≡ none
  right_content no_content h = h
  right_content (between_tags v c) h = rw (right_content c h)
  right_content (child e c) h = right_element e (right_content c h)

right_miscs : {l r : List Tok} → Miscs l r → error_at r ≡ none → error_at l ≡ none
unfolding error_at
right_miscs no_misc h = h
right_miscs (one_misc m) h = rw (right_miscs m h)

no_error_lem : {toks : List Tok} → Document toks ⊎ Miscs toks [] → error_at toks ≡ none
unfolding error_at
no_error_lem (inl (document m e q)) = right_miscs m (right_element e (right_miscs q refl))
no_error_lem (inr m) = right_miscs m refl

-- ---- the view of a table that passes
pub view_passed : (body table : List ℕ) (final : ℕ) → drained body table final ≡ Ok tt → (strict : Bool)
    → view strict body (rows_of table) final ≡ whole (rows_of table) final
unfolding view
view_passed body table final h true = rw (document_passes ((drained_document_is body table final).0 h).1)
view_passed body table final h false = rw (no_error_lem ((drained_document_is body table final).0 h).1)
