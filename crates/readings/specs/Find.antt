-- 01, "Find": `find_depth2_element_slice_by`, for the elements of one local name.
use Rattle.std.specs.Prelude.{ℕ, Bool, false, List, [], ◌∷◌, length}
use Rattle.std.proofs.Math.Option.{Option, none, some}
use Rattle.lists.specs.Tests.{pick}
use Rattle.lists.specs.Bytes.{sameb}
use Rattle.refusal.specs.declared.Refusal.{Refusal}
use Rattle.refusal.specs.Answer.{Answer, gives, refuses, onward}
use Rattle.refusal.specs.Numbers.{number}
use Rattle.table.specs.Row.{rows_of, toks_of}
use Rattle.table.specs.Test.{dec_table}
use Rattle.document.specs.View.{View, view}
use Rattle.document.specs.declared.part.Piece.{Piece}
use Rattle.document.specs.Scope.{Child, root_of, children_of, piece_of}
use Rattle.readings.specs.Call.{Upload}
use Rattle.readings.specs.Opening.{with_table, present}

abbrev pub has_local : List ℕ → Child → Bool
has_local name c = sameb c.start.name.local name

-- the first child of that name
unfoldable pub first_child : List ℕ → List Child → Option Child
unfolding sameb
first_child name [] = none
first_child name (c ∷ rest) = pick (has_local name c) (some c) (first_child name rest)

abbrev pub whole_body : List ℕ → Piece
whole_body body = record { start = 0; len = length body }

-- "the whole body if the root's local name is equal, else the first such child"
unfoldable pub find_in : List ℕ → View → List ℕ → Child → Answer Piece
unfolding first_child children_of piece_of
find_in body v name root =
    let inside = onward (present Refusal.NoSuchElement (first_child name (children_of root))) (λ (c : Child). gives (piece_of body v c)) in
    pick (has_local name root) (gives (whole_body body)) inside

-- "Find. Lenient." .. "1 or 13 (13 also without a root)"
unfoldable pub find : Upload → List ℕ → Answer Piece
unfolding dec_table view root_of find_in
find u name =
    let v = view false u.body (rows_of u.rows) u.end in
    with_table (dec_table u.body u.rows u.end)
    (onward (present Refusal.NoSuchElement (root_of (toks_of u.body v.rows))) (find_in u.body v name))

-- "It answers a part of the body": "An empty part means 1 or 13"
abbrev pub part_of : Answer Piece → Piece
part_of (gives p) = p
part_of (refuses r) = record { start = 0; len = 0 }

-- "a sister question gives which": 0 where there is such an element
abbrev pub refusal_of : Answer Piece → ℕ
refusal_of (gives p) = 0
refusal_of (refuses r) = number r
