-- Elements as a reading meets them: the root (`root_element`), the children of an element (a loop over `next_tag`), and where the reader
-- stands after each.
use Rattle.std.specs.Prelude.{ℕ, zero, suc, ◌-◌, true, false, List, [], ◌∷◌, length, take, drop}
use Rattle.std.proofs.Math.Option.{Option, none, some}
use Rattle.lists.specs.Tests.{pick}
use Rattle.table.specs.Row.{Tok}
use Rattle.table.specs.Rules.{last_position}
use Rattle.table.specs.Piece.{piece_start}
use Rattle.document.specs.declared.part.Piece.{Piece}
use Rattle.document.specs.View.{View}
use Rattle.document.specs.Reader.{Reader, fresh, Scope, document, element, Past, skip, StartEl, blank, Next, found}
use Rattle.document.specs.Reader.{gone, next}

-- an element whose start tag was read, and the reader at its content
pub record Child : Type 0 where
  pub start : StartEl
  pub inner : Reader

abbrev pub scope_of : StartEl → Scope
scope_of el = element el.depth el.name

-- from a reader on, to the end of the scope
abbrev pub skip_from : Scope → Reader → Past
skip_from s r = skip s r.depth r.row r.rest

abbrev pub shut : Reader → Past
shut r = record { ended = true; reader = r }

-- "Drop becomes an explicit drain": to the end of an element of which no more is read; `/>` ended it already
abbrev pub dropped : Child → Past
dropped c = let rest = skip_from (scope_of c.start) c.inner in pick c.start.closed (shut c.inner) rest

-- ---- the children of a scope, in order, and where the reader stands when there is none left
pub data Level : Type 0 where
  meets : Child → Level → Level
  done : Past → Level

abbrev pub on_next : (Child → Reader) → (Reader → Level) → Next → Level
on_next past more (found el r) = let c : Child = record { start = el; inner = r } in meets c (more (past c))
on_next past more (gone p) = done p

abbrev pub next_from : Scope → Reader → Next
next_from s r = next s blank r.depth r.row r.rest

-- the loop over `next_tag`; past says where the reader stands after a child, and the fuel is enough where it exceeds the tokens that are
-- left
unfoldable pub level : ℕ → (Child → Reader) → Scope → Reader → Level
unfolding next
level zero past s r = done (record { ended = false; reader = r })
level (suc fuel) past s r = on_next past (level fuel past s) (next_from s r)

-- the children of a scope from a reader on
abbrev pub level_from : (Child → Reader) → Scope → Reader → Level
level_from past s r = level (suc (length r.rest)) past s r

-- of an element; one that ended in `/>` has none
abbrev pub level_in : (Child → Reader) → Child → Level
level_in past c =
    let inside = level (suc (length c.inner.rest)) past (scope_of c.start) c.inner in
    pick c.start.closed (done (shut c.inner)) inside

unfoldable pub children : Level → List Child
children (meets c l) = c ∷ children l
children (done p) = []

unfoldable pub end_of : Level → Past
end_of (meets c l) = end_of l
end_of (done p) = p

-- where nothing of a child's own children is asked
abbrev pub dropping : Child → Reader
dropping c = (dropped c).reader

-- the children of an element
unfoldable pub children_of : Child → List Child
unfolding skip level children
children_of c = children (level_in dropping c)

-- after the children of an element: the rest of its scope is dropped, if its end was not read yet
abbrev pub leave : Child → Past → Reader
leave c p = let rest = (skip_from (scope_of c.start) p.reader).reader in pick p.ended p.reader rest

-- where the reader stands after an element whose children were asked for
unfoldable pub after_children : Child → Reader
unfolding skip level end_of
after_children c = leave c (end_of (level_in dropping c))

-- ---- the root: the first start element of all, at whatever place
abbrev pub on_root : Next → Option Child
on_root (found el r) = some (record { start = el; inner = r })
on_root (gone p) = none

unfoldable pub root_of : List Tok → Option Child
unfolding next
root_of toks = on_root (next_from document (fresh toks))

-- ---- pieces: a part of the body
-- "A piece ends at the position of the last row read for it, or at the final position when the rows run out."
abbrev pub piece_end : View → Past → ℕ
piece_end v p = pick p.ended (last_position 0 (take p.reader.row v.rows)) v.ends

-- from the last `<` before the start row's local name
abbrev pub piece_to : List ℕ → View → Child → ℕ → Piece
piece_to body v c end = let from = piece_start body (drop c.start.row v.rows) in record { start = from; len = end - from }

unfoldable pub piece_of : List ℕ → View → Child → Piece
unfolding skip
piece_of body v c = piece_to body v c (piece_end v (dropped c))
