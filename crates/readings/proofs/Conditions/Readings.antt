-- 01, "Structure", "List", "Map" and "String list": each refusal, on every input, with its condition: "no number where its condition does
-- not hold". The conditions of 1, 2, 3 and 4 are in Opening.antt, those of 5 and 10 in specs/Demand.antt; what 6 to 9 mean for the table is
-- in Text.antt and View.antt. That a reading ends so exactly where its plan does is `perform_exactly` (Plans/Perform.antt).
use Prim.Native.Nat.{ℕ}
use mathlib.Core.Path.{◌≡◌, sym, ◌∙◌}
use mathlib.Core.Bool.{true}
use mathlib.Core.List.{List}
use Rattle.refusal.specs.declared.Refusal.{Refusal}
use Rattle.refusal.specs.Answer.{refuses}
use Rattle.document.specs.Scope.{Child}
use Rattle.document.specs.Text.{text_of}
use Rattle.sheet.specs.declared.ShapeDepth.{ShapeDepth}
use Rattle.sheet.specs.declared.Settings.{Settings}
use Rattle.readings.specs.Call.{Upload, Call}
use Rattle.readings.specs.Output.{Entry, Room, Output, nothing, refused, appended}
use Rattle.readings.specs.Plan.{Plan, put, stop}
use Rattle.readings.specs.Opening.{Opened, Asked}
use Rattle.readings.specs.Shape.{Shape, structure, list, map, strings, SheetOf, sheet_of, plan_of, read}
use Rattle.readings.specs.Demand.{Reaches, here, Exceeds, RootDiffers, TextWanted}
use Rattle.readings.proofs.Conditions.Opening.{AskedRefused, AskedAs}
use Rattle.readings.proofs.Plans.Perform.{Ended, at_stop, no_room, perform_exactly}
use Rattle.readings.proofs.Plans.Made.{Made, made_stops}
use Rattle.readings.proofs.Plans.Sources.{Source, Anything, Sources, ShapeSources}
use Rattle.readings.proofs.Plans.Readings.{read_is, asked_plan, PlanIs, before, while, plan_is, most_entries, plan_made}

-- ---- why a plan stops that goes on with what was asked
pub data Stops (settings : Settings) (depth : ShapeDepth) (shape : Shape) (a : Asked (SheetOf shape)) : Refusal → Type 0 where
  root_differs : RootDiffers settings depth shape a → Stops settings depth shape a Refusal.RootName
  no_text : (c : Child) {r : Refusal} → TextWanted settings shape a c → text_of a.opened.seen c ≡ refuses r
      → Stops settings depth shape a r
  ill_formed_lem : a.opened.seen.ill_formed ≡ true → Stops settings depth shape a Refusal.IllFormed

pub any_source : (body : List ℕ) (o : Opened) → Sources Anything Anything Anything Anything body o
any_source body o =
    record {
      root = tt {0};
      children = λ c h x i. tt {0};
      entries = λ name c h x i. tt {0};
      text = λ c h b e. tt {0};
      failed = λ c h r e. tt {0};
      piece = λ c h. tt {0};
    }

pub any_shape : (body : List ℕ) (shape : Shape) (a : Asked (SheetOf shape))
    → ShapeSources Anything Anything (λ (i : ℕ). Anything) Anything body shape a
any_shape body structure a = record { member = λ m i. tt {0}; attribute = λ name v e. tt {0}; group = λ i. tt {0}; root = tt {0} }
any_shape body list a = tt {0}
any_shape body map a = tt {0}
any_shape body strings a = tt {0}

plan_stops : (body : List ℕ) (settings : Settings) (depth : ShapeDepth) (shape : Shape) (a : Asked (SheetOf shape))
    → Made (Source Anything Anything Anything (λ (i : ℕ). Anything) Anything) (Stops settings depth shape a)
    (most_entries settings shape a) (asked_plan shape body settings depth a)
plan_stops body settings depth shape a =
    plan_made settings depth shape a (any_source body a.opened) (any_shape body shape a)
    (record { ill_formed = ill_formed_lem; root_name = root_differs; text = λ c h w r e. no_text c w e })

module _ (u : Upload) (call : Call) (room : Room) (shape : Shape) where
  -- it is refused before it reads, having written nothing; or where it stops; or where there is no room for the next entry
  pub data Refused : Refusal → Output → Type 0 where
    early : {r : Refusal} → AskedRefused u (sheet_of shape call.sheet) call.settings call.depth r → Refused r nothing
    stops : {a : Asked (SheetOf shape)} {r : Refusal} {out : Output}
        → AskedAs u (sheet_of shape call.sheet) call.settings call.depth a
        → Stops call.settings call.depth shape a r → Refused r out
    full : {entry : ℕ → Entry} {bytes : List ℕ} {more : Plan} {out : Output}
        → Reaches (plan_of shape u call) nothing (put entry bytes more) out
        → Exceeds room (appended entry bytes out) → Refused Refusal.NoRoom out

  -- where the plan stops
  stopped : {p : Plan} → PlanIs u call shape p → {r : Refusal} {out : Output} → Reaches p nothing (stop r) out → Refused r out
  stopped (before x) here = early x
  stopped (while {a = a} x) t = stops x (made_stops (plan_stops u.body call.settings call.depth shape a) t)

  pub reading_refused : {r : Refusal} {out : Output} → read shape u call room ≡ refused r out → Refused r out
  reading_refused {r} {out} e = go ((perform_exactly room (plan_of shape u call) (refused r out)).0 (sym (read_is shape u call room) ∙ e))
    where
      go : {r : Refusal} {out : Output} → Ended room (plan_of shape u call) nothing (refused r out) → Refused r out
      go (at_stop t w) = stopped (plan_is u call shape) t
      go (no_room t w f) = full t f
