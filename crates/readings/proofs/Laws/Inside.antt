-- Every piece that a reading hands out is a filled part of the body that begins with `<`: on every input, strict or lenient, finished or
-- refused. Where the table breaks the rules nothing is written.
use Prim.Native.Nat.{ℕ, ◌≤◌}
use mathlib.Core.Path.{◌≡◌}
use mathlib.Core.List.{List}
use mathlib.Core.Option.{none}
use native.Mathlib.Omega.{arith}
use lib.Dec.{eqb}
use lib.ListN.{length, take, drop}
use Rattle.lists.specs.Every.{Every, none}
use Rattle.lists.proofs.Every.{every_snoc}
use Rattle.lists.specs.Tests.{pick}
use Rattle.lists.proofs.Tests.{pick_all}
use Rattle.table.specs.Row.{Row, toks_of}
use Rattle.table.specs.Rules.{open_count, last_position}
use Rattle.table.specs.Piece.{closing, is_closed}
use Rattle.table.proofs.Moved.{last_taken}
use Rattle.table.proofs.Element.{each_take, last_drop}
use Rattle.document.proofs.Laws.Placed.{Placed}
use Rattle.document.proofs.Laws.Inside.{StartRow, start_row, view_end_in, PieceIn, piece_to_in, piece_inside}
use Rattle.readings.specs.Call.{Upload, Call}
use Rattle.readings.specs.Output.{Entry, piece_kind, Output, nothing, output, Room}
use Rattle.readings.specs.Opening.{Opened, Asked}
use Rattle.readings.specs.Structure.{root_piece}
use Rattle.readings.specs.Shape.{Shape, structure, list, map, strings, SheetOf, read}
use Rattle.readings.proofs.Plans.Readings.{output_carried, may_stop, plan_made}
use Rattle.readings.proofs.Plans.Made.{Keeps, made_kept}
use Rattle.readings.proofs.Plans.Sources.{Source, of_text_lem, of_failed, of_piece, of_group, of_key_text, of_key_piece, Anything}
use Rattle.readings.proofs.Plans.Sources.{Sources, ShapeSources}
use Rattle.readings.proofs.Plans.Placed.{OpenedIn, opened_in, placed_sources}

-- ---- the root's piece
abbrev root_rows : Opened → List Row
root_rows o = drop o.root.start.row o.seen.rows

pub root_piece_inside : {u : Upload} {o : Opened} → OpenedIn u o → PieceIn u.body (root_piece u.body o)
unfolding root_piece closing
root_piece_inside {u} {o = o} w = piece_to_in w.view o.root w.root _ end.0 end.1
  where
    at : StartRow u.body 0 o.seen.rows o.root.start.row
    at = start_row w.view o.root w.root

    closes : (at.first.position ≤ last_position 0 (take (closing 0 (root_rows o)) (root_rows o)))
        × (last_position 0 (take (closing 0 (root_rows o)) (root_rows o)) ≤ length u.body)
    closes =
        let k = pick (eqb (open_count 0 at.first.kind) 0) 0 (closing (open_count 0 at.first.kind) at.later) in
        let far = last_drop o.root.start.row w.view.each 0 (omega arith) in
        let far' : last_position at.first.position at.later ≤ last_position 0 o.seen.rows = rw at.at at far in
        rw at.at (last_taken at.each k, omega (arith, each_take k at.each, far', w.view.last, w.view.ends, w.view.within))

    end : (at.first.position ≤ pick (is_closed 0 (root_rows o)) (last_position 0 (take (closing 0 (root_rows o)) (root_rows o)))
        o.seen.ends)
        × (pick (is_closed 0 (root_rows o)) (last_position 0 (take (closing 0 (root_rows o)) (root_rows o))) o.seen.ends ≤ length u.body)
    end = pick_all (λ (e : ℕ). (at.first.position ≤ e) × (e ≤ length u.body)) (is_closed 0 (root_rows o)) _ _ closes
        (view_end_in w.view o.root w.root)

-- ---- entries
-- an entry that is a piece
pub record EntryIn (body : List ℕ) (e : Entry) : Type 0 where
  pub piece : e.kind ≡ piece_kind → PieceIn body (record { start = e.start; len = e.len })

-- of each entry of an output
pub record AllIn (body : List ℕ) (out : Output) : Type 0 where
  pub each : Every (EntryIn body) out.entries

none_in : (body : List ℕ) → AllIn body nothing
none_in body = record { each = none }

-- nothing is said of members, texts and groups
abbrev InSource : List ℕ → (ℕ → Entry) → List ℕ → Type 0
InSource body = Source Anything Anything Anything (λ (i : ℕ). Anything) (PieceIn body)

entry_in : {body : List ℕ} {entry : ℕ → Entry} {bytes : List ℕ} → InSource body entry bytes → (at : ℕ) → EntryIn body (entry at)
entry_in (of_text_lem m t) at = record { piece = λ e. absurd (omega (arith, e)) }
entry_in (of_failed m r) at = record { piece = λ e. absurd (omega (arith, e)) }
entry_in (of_piece m h) at = record { piece = λ e. h }
entry_in (of_group m g) at = record { piece = λ e. absurd (omega (arith, e)) }
entry_in (of_key_text k t) at = record { piece = λ e. absurd (omega (arith, e)) }
entry_in (of_key_piece k h) at = record { piece = λ e. h }

in_keeps : (body : List ℕ) (room : Room) → Keeps room (InSource body) (λ (n : ℕ). AllIn body)
in_keeps body room =
    record {
      start = none_in body;
      idle = λ n m out h q. q;
      write = λ n out entry bytes s f q. record { each = every_snoc q.each (entry_in s (length out.texts)) };
    }

in_sources : {u : Upload} {o : Opened} → OpenedIn u o
    → Sources (Placed (toks_of u.body o.seen.rows)) Anything Anything (PieceIn u.body) u.body o
in_sources w = placed_sources w (λ c h b e. tt {0}) (λ c h r e. tt {0}) (piece_inside w.view)

in_shape : {body : List ℕ} (shape : Shape) (a : Asked (SheetOf shape)) → PieceIn body (root_piece body a.opened)
    → ShapeSources Anything Anything (λ (i : ℕ). Anything) (PieceIn body) body shape a
in_shape structure a h = record { member = λ m i. tt {0}; attribute = λ name v e. tt {0}; group = λ i. tt {0}; root = h }
in_shape list a h = tt {0}
in_shape map a h = tt {0}
in_shape strings a h = tt {0}

-- ---- THE LAW: for every input and each reading
pub entries_inside : (shape : Shape) (u : Upload) (call : Call) (room : Room)
    → AllIn u.body (output (read shape u call room))
entries_inside shape u call room =
    output_carried u call room shape (AllIn u.body) (none_in u.body) (λ a w.
    let o = opened_in w.begun in
    made_kept (in_keeps u.body room)
    (plan_made call.settings call.depth shape a (in_sources o) (in_shape shape a (root_piece_inside o))
    (may_stop call.settings call.depth shape a)))
