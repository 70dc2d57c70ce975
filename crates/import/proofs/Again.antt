-- Laws of a piece that is read again by its own rows, and of the pieces of an upload one after another.
use Prim.Native.Nat.{ℕ, ◌+◌, ◌-◌, ◌*◌, ◌/◌, ◌≤◌, ◌<◌}
use mathlib.Core.Path.{◌≡◌, refl, ◌∙◌, subst}
use mathlib.Core.Bool.{Bool, true, false}
use mathlib.Core.List.{List}
use native.Mathlib.Omega.{arith}
use borrow.Author.Tests.{eqb-true, eqb-false}
use lib.Dec.{eqb}
use lib.ListN.{length, get_or, take}
use Rattle.std.specs.Prelude.{None}
use Rattle.lists.specs.Parts.{part}
use Rattle.table.specs.Row.{rows_of, table_of}
use Rattle.table.specs.Rules.{TableRules}
use Rattle.table.specs.Flat.{rows_from}
use Rattle.table.proofs.Flat.{length_rows}
use Rattle.table.specs.Piece.{closing, element_rows, piece_rows}
use Rattle.xml.proofs.Pass.{drained_document_is}
use Rattle.xml.specs.Piece.{PieceAt, ElementPiece}
use Rattle.readings.specs.Call.{Upload, Call, uploaded}
use Rattle.readings.specs.Output.{piece_kind}
use Rattle.output.specs.Call.{number_of}
use Rattle.deserializer.specs.declared.Shape.{Shape}
use Rattle.deserializer.specs.declared.Reading.{Reading}
use Rattle.deserializer.specs.Call.{SheetCall}
use Rattle.deserializer.specs.Demand.{Demanded}
use Rattle.element.specs.Rows.{moved_table, OwnRows}
use Rattle.element.proofs.Rows.{closing_low}
use Rattle.import.specs.Import.{EachReread, Outcomes, Passes, piece_upload, Reread, RereadAt, RereadOne}
use Rattle.import.proofs.Rows.{few_rows_lem, row_is, piece_table, copied}

-- ---- one piece
module _ {t : List ℕ} {place : ℕ} {old new : List ℕ} {n : ℕ} (o : OwnRows t place old new n) {body : List ℕ} {end : ℕ}
    (passed : Passes (uploaded body t end)) (wide : 65536 ≤ length old) where
  table_rules : TableRules body t end
  table_rules = ((drained_document_is body t end).0 passed.is).0

  room : closing 0 (rows_from t o.row (length t / 8 - o.row)) ≤ length old / 8
  room =
      let low = closing_low 0 (rows_from t o.row (length t / 8 - o.row)) in
      omega (arith, low, length_rows t o.row (length t / 8 - o.row), few_rows_lem table_rules)

  -- the table that is lent is that of the element's rows
  own_table : {row len : ℕ} → PieceAt body t row place len → take (n * 8) new ≡ table_of (piece_rows body (element_rows (rows_of t) row))
  own_table {row} p =
      let z : o.row ≡ row = row_is table_rules p.element o.first in
      let front : take (n * 8) new ≡ moved_table place (rows_from t o.row n) =
      rw ((o.fit room).1) (copied old t place o.row n (omega (arith, (o.fit room).0, room))) in
      front ∙ (rw ((o.fit room).0, z) (piece_table table_rules p.element))

  pub reread : {len : ℕ} → ElementPiece body t place len → {shape : Shape} {call : Call} {e tx e' tx' : List ℕ} {r : Reading}
      → SheetCall shape (uploaded (part body place (place + len)) (take (n * 8) new) len) call e tx e' tx' r.count r.length
      (number_of r.outcome)
      → Demanded shape (uploaded (part body place (place + len)) (take (n * 8) new) len) call e tx e' r.count (number_of r.outcome)
      → Reread shape (uploaded body t end) place len call (length e) (length tx) r
  reread {len} x {shape} {call} {e} {tx} {e'} {tx'} {r} reads d =
      let l : place + len - place ≡ len = omega arith in
      let is : uploaded (part body place (place + len)) (take (n * 8) new) len ≡ piece_upload (uploaded body t end) x.row place len =
      rw (l, own_table x.is) in
      let kept = (subst (λ (u : Upload). Demanded shape u call e tx e' r.count (number_of r.outcome)) is d).kept x.is.again in
      record {
        row = x.row;
        piece = x.is;
        e = e;
        t = tx;
        e' = e';
        t' = tx';
        entry_room = refl;
        text_room = refl;
        reads = subst (λ (u : Upload). SheetCall shape u call e tx e' tx' r.count r.length (number_of r.outcome)) is reads;
        may = kept.number;
      }

-- ---- one after another: the first k are done
pub record Onward (shape : Shape) (u : Upload) (entries : List ℕ) (call : Call) (room texts : ℕ) (before outcomes : Outcomes) (k : ℕ)
    : Type 0 where
  pub done : EachReread shape u entries k call room texts before outcomes
  pub long : length outcomes ≡ length before

module _ {shape : Shape} {u : Upload} {entries : List ℕ} {call : Call} {room texts : ℕ} where
  pub onward_more : {before outcomes outcomes' : Outcomes} {k room' texts' : ℕ} → Onward shape u entries call room texts before outcomes k
      → RereadOne shape u entries call room' texts' outcomes outcomes' k → room' ≡ room → texts' ≡ texts
      → Onward shape u entries call room texts before outcomes' (k + 1)
  onward_more {before} {outcomes} {outcomes'} {k} a o same_room same_texts =
      record {
        done = record { each = λ j h. go j h (eqb j k) refl; others = λ j h. rest j h (eqb j k) refl };
        long = o.long ∙ a.long;
      }
    where
      go : (j : ℕ) → j < k + 1 → (b : Bool) → eqb j k ≡ b → RereadAt shape u entries call room texts outcomes' j
      go j h true e = let z = eqb-true j k e in rw (z, ← same_room, ← same_texts) o.here
      go j h false e =
          let f = eqb-false j k e in
          let earlier = a.done.each j (omega (arith, f)) in
          record { is = λ x y w. rw (o.others j f) (earlier.is x (rw o.long at y) w) }

      rest : (j : ℕ) → (j < k + 1 → get_or entries (j * 6) 0 ≡ piece_kind → ⊥) → (b : Bool) → eqb j k ≡ b
          → get_or outcomes' j None ≡ get_or before j None
      rest j h true e =
          let z = eqb-true j k e in
          let f : get_or entries (k * 6) 0 ≡ piece_kind → ⊥ = rw z at (h (omega (arith, z))) in
          rw z (o.idle f) ∙ a.done.others j (λ l. h (omega arith))
      rest j h false e = o.others j (eqb-false j k e) ∙ a.done.others j (λ l. h (omega arith))
