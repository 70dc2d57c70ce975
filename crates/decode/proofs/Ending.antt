-- Laws of the row that ends a scope: a close tag of its depth and its name.
use Prim.Native.Nat.{ℕ, ◌+◌, ◌*◌}
use mathlib.Core.Path.{◌≡◌, refl, ◌∙◌}
use native.Mathlib.Omega.{arith}
use borrow.Author.Tests.{eq-eqb, ne_eqb}
use mathlib.Core.Bool.{Bool, false}
use mathlib.Core.List.{List}
use lib.ListN.{get_or}
use Rattle.lists.specs.Decide.{Says}
use Rattle.table.specs.Row.{Name, tok_as}
use Rattle.table.specs.Rows.{name_at, value_at, tok_at}
use Rattle.table.specs.Kinds.{IsKind, kind_number}
use Rattle.table.specs.declared.kinds.Kind.{Kind}
use Rattle.table.proofs.Classes.{kind_of_lem}
use Rattle.document.specs.declared.Depth.{Depth}
use Rattle.document.specs.Reader.{depth, element, is_end, ends_at}
use Rattle.decode.specs.declared.place.Scope.{Scope}
use Rattle.decode.specs.Reader.{scope_at}
use Rattle.decode.proofs.Known.{kind_same, no_end}
use Rattle.decode.proofs.Faults.{same_is}

-- ---- a close tag
pub end_name : (own : Depth) (d : ℕ) {m n : Name} → d ≡ own.0 → {r : Bool} → Says (m ≡ n) r → r ≡ is_end (element own n) (depth d) m
end_name own d q x = rw (eq-eqb d own.0 q) (same_is x)

pub end_depth : (own : Depth) (d : ℕ) (m n : Name) → (d ≡ own.0 → ⊥) → false ≡ is_end (element own n) (depth d) m
end_depth own d m n q = rw (ne_eqb d own.0 q) refl

-- ---- a row by its kind
module _ (body t : List ℕ) (s : Scope) (d k : ℕ) where
  pub end_close : 4 ≡ get_or t (k * 8 + 0) 0 → {r : Bool} → r ≡ is_end (scope_at body t s) (depth d) (name_at body t k)
      → r ≡ ends_at (scope_at body t s) (depth d) (tok_at body t k)
  unfolding tok_as
  end_close h x = rw (← h) x

  -- one of another kind, or of none
  not_close : (get_or t (k * 8 + 0) 0 ≡ 4 → ⊥) → false ≡ ends_at (scope_at body t s) (depth d) (tok_at body t k)
  not_close f =
      no_end (kind_of_lem (get_or t (k * 8 + 0) 0) (name_at body t k) (value_at body t k)) f (scope_at body t s) (depth d)

  pub end_none : (IsKind (get_or t (k * 8 + 0) 0) → ⊥) → false ≡ ends_at (scope_at body t s) (depth d) (tok_at body t k)
  end_none f = not_close (λ z. f (rw z (omega arith, omega arith)))

  pub end_other : {kind : Kind} → kind_number kind ≡ get_or t (k * 8 + 0) 0 → (kind ≡ Kind.Close → ⊥)
      → false ≡ ends_at (scope_at body t s) (depth d) (tok_at body t k)
  end_other {kind} f a = not_close (λ z. a (kind_same kind Kind.Close (f ∙ z)))
