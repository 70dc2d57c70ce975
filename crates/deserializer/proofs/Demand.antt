-- Demand 3 of a call follows from its promise: the entries in the buffer are the definition's, and of those the theorem speaks.
use Prim.Native.Nat.{ℕ, zero, suc, ◌+◌, ◌*◌, ◌<◌}
use mathlib.Core.Path.{◌≡◌, refl, sym, subst}
use mathlib.Core.List.{List, [], ◌∷◌, ◌++◌}
use native.Mathlib.Omega.{arith}
use lib.ListN.{length, drop}
use Rattle.std.specs.Prelude.{Ok}
use Rattle.lists.specs.Every.{Every}
use Rattle.lists.proofs.Every.{every_first, every_rest}
use Rattle.lists.specs.Overwrite.{overwritten}
use Rattle.xml.specs.Drain.{drained}
use Rattle.xml.proofs.Means.{drained_passes_is}
use Rattle.readings.specs.Call.{Upload, Call}
use Rattle.readings.specs.Output.{Entry, Room, Reading, output, outcome, six_numbers, numbers_of}
use Rattle.readings.specs.Shape as readings
use Rattle.readings.specs.Shape.{read}
use Rattle.readings.specs.Demand.{Handed, Promised, finishes, refuses}
use Rattle.readings.proofs.Demand.Theorem.{demand_3, promised_output}
use Rattle.output.specs.Call.{room_of, ReadingCall}
use Rattle.deserializer.specs.declared.Shape.{Shape}
use Rattle.deserializer.specs.Call.{ShapeCall, SheetCall}
use Rattle.deserializer.specs.Demand.{MayAnswer, finished, refused, PieceEntry, defined_as, Demanded}

-- ---- the numbers of the k-th entry stand at k * 6
first_piece_lem : {u : Upload} {sheet texts : List ℕ} (y : Entry) (s : List ℕ) → Handed u sheet texts y
    → PieceEntry u (six_numbers y ++ s) 0
first_piece_lem y s p = record { is = p.piece }

later_piece : {u : Upload} (y : Entry) (s : List ℕ) (i : ℕ) → PieceEntry u s i
    → PieceEntry u (six_numbers y ++ s) (suc (suc (suc (suc (suc (suc i))))))
later_piece y s i p =
    let b : suc (suc (suc (suc (suc (suc i))))) + 4 ≡ suc (suc (suc (suc (suc (suc (i + 4)))))) = omega arith in
    let c : suc (suc (suc (suc (suc (suc i))))) + 5 ≡ suc (suc (suc (suc (suc (suc (i + 5)))))) = omega arith in
    record { is = λ h. rw (b, c) (p.is h) }

numbers_cons : (y : Entry) (l : List Entry) (x : List ℕ) → numbers_of (y ∷ l) ++ x ≡ six_numbers y ++ (numbers_of l ++ x)
unfolding numbers_of
numbers_cons y l x = refl

six_more : (k : ℕ) → suc k * 6 ≡ suc (suc (suc (suc (suc (suc (k * 6))))))
six_more k = omega arith

pieces_of : {u : Upload} {sheet texts : List ℕ} (l : List Entry) → Every (Handed u sheet texts) l → (x : List ℕ) (k : ℕ) → k < length l
    → PieceEntry u (numbers_of l ++ x) (k * 6)
pieces_of [] every x k h = absurd (omega arith)
pieces_of {u} (y ∷ l) every x zero h =
    subst (λ (s : List ℕ). PieceEntry u s 0) (sym (numbers_cons y l x)) (first_piece_lem y (numbers_of l ++ x) (every_first every))
pieces_of {u} (y ∷ l) every x (suc k) h =
    subst (λ (s : List ℕ). PieceEntry u s (suc k * 6)) (sym (numbers_cons y l x))
    (subst (λ (i : ℕ). PieceEntry u (six_numbers y ++ (numbers_of l ++ x)) i) (sym (six_more k))
    (later_piece y (numbers_of l ++ x) (k * 6) (pieces_of l (every_rest every) x k (omega arith))))

-- ---- the number
may_answer : {u : Upload} {call : Call} {room : Room} {shape : readings.Shape} {x : Reading}
    → Promised u call room shape x → MayAnswer shape u call room (outcome x)
may_answer (finishes a) = finished
may_answer (refuses m a) = refused m

-- ---- from the promise of a call
module _ {u : Upload} {call : Call} {e t e' t' : List ℕ} {n m r : ℕ} where
  keeps : (shape : Shape) → ReadingCall (read (defined_as shape) u call) e t e' t' n m r → Demanded shape u call e t e' n r
  unfolding overwritten
  keeps shape c =
      record {
        kept = λ p. record {
          number = rw c.number (may_answer (holds p));
          pieces = rw (c.entries, c.count)
              (record { each = pieces_of entries (promised_output (holds p)) (drop (length (numbers_of entries)) e) });
          promised = holds p;
        };
      }
    where
      entries : List Entry
      entries = (output (read (defined_as shape) u call (room_of e t))).entries

      holds : drained u.body u.rows u.end ≡ Ok tt
          → Promised u call (room_of e t) (defined_as shape) (read (defined_as shape) u call (room_of e t))
      holds p = demand_3 u ((drained_passes_is u.body u.rows u.end).0 p) (defined_as shape) call (room_of e t)

  pub demanded : {shape : Shape} → SheetCall shape u call e t e' t' n m r → Demanded shape u call e t e' n r
  demanded {shape} c = go shape c.is
    where
      go : (shape : Shape) → ShapeCall shape u call e t e' t' n m r → Demanded shape u call e t e' n r
      go Shape.Struct c = keeps Shape.Struct c
      go Shape.List c = keeps Shape.List c
      go Shape.Map c = keeps Shape.Map c
      go Shape.StringList c = keeps Shape.StringList c
