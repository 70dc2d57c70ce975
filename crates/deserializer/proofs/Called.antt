-- A call from its promise: its answer, the place beside the number, and demand 3.
use Prim.Native.Nat.{ℕ}
use mathlib.Core.Path.{◌≡◌, refl, ◌∙◌}
use mathlib.Core.List.{List}
use Rattle.std.specs.Prelude.{Result}
use Rattle.std.specs.Borrow.{MutBor}
use Rattle.refusal.specs.declared.Refusal.{Refusal}
use Rattle.readings.specs.Call.{Upload, Call}
use Rattle.readings.specs.Shape.{read, plan_of}
use Rattle.readings.proofs.Laws.Place.{structure_tells_none, list_tells_none}
use Rattle.output.specs.declared.Output.{Output}
use Rattle.output.specs.Held.{Does, Begun}
use Rattle.output.specs.Call.{room_of, number_of, place_of, ReadingCall, ReadingPlace}
use Rattle.output.proofs.Called.{reading_called, reading_placed, lent_entries, lent_texts}
use Rattle.deserializer.specs.declared.Shape.{Shape}
use Rattle.deserializer.specs.Call.{SheetCall, SheetPlace}
use Rattle.deserializer.specs.Demand.{defined_as, Demanded}
use Rattle.deserializer.proofs.Demand.{demanded}

sheet_call : (shape : Shape) (u : Upload) (call : Call) {e t e' t' : List ℕ} {n m r : ℕ}
    → ReadingCall (read (defined_as shape) u call) e t e' t' n m r → SheetCall shape u call e t e' t' n m r
sheet_call Shape.Struct u call x = record { is = x }
sheet_call Shape.List u call x = record { is = x }
sheet_call Shape.Map u call x = record { is = x }
sheet_call Shape.StringList u call x = record { is = x }

sheet_place : (shape : Shape) (u : Upload) (call : Call) {e t : List ℕ} {at : ℕ}
    → ReadingPlace (read (defined_as shape) u call) e t at → SheetPlace shape u call e t at
sheet_place Shape.Struct u call {e} {t} x = record { is = x.place ∙ structure_tells_none u call (room_of e t) }
sheet_place Shape.List u call {e} {t} x = record { is = x.place ∙ list_tells_none u call (room_of e t) }
sheet_place Shape.Map u call x = record { is = x }
sheet_place Shape.StringList u call x = record { is = x }

-- the buffers that were lent end as the reading left them
module _ (shape : Shape) (u : Upload) (call : Call) {e t : MutBor (List ℕ)} {b b' : Output} {r : Result (Unit {0}) Refusal}
    (z : Begun e t b) (d : Does (plan_of (defined_as shape) u call) b b' r) where
  pub read_called : {e' t' : List ℕ} → (e.ghost_name ≡ b'.entries.ghost_name → e' ≡ b'.entries.now)
      → (t.ghost_name ≡ b'.texts.ghost_name → t' ≡ b'.texts.now)
      → SheetCall shape u call e.now t.now e' t' b'.count b'.used (number_of r)
  read_called p q =
      rw (p (lent_entries (defined_as shape) u call z d), q (lent_texts (defined_as shape) u call z d))
      (sheet_call shape u call (reading_called (defined_as shape) u call z d))

  pub read_placed : SheetPlace shape u call e.now t.now (place_of r)
  read_placed = sheet_place shape u call (reading_placed (defined_as shape) u call z d)

  pub read_demanded : {e' : List ℕ} → (e.ghost_name ≡ b'.entries.ghost_name → e' ≡ b'.entries.now)
      → Demanded shape u call e.now t.now e' b'.count (number_of r)
  read_demanded p = demanded (read_called p (λ x. refl))
