-- Plans one after another: what is midway through a plan, and the whole from its parts.
use Prim.Native.Nat.{ℕ}
use mathlib.Core.Path.{◌≡◌, refl, ◌∙◌, ap}
use mathlib.Core.Bool.{Bool, true, false}
use mathlib.Core.List.{List, [], ◌∷◌}
use lib.ListN.{length}
use Rattle.std.specs.Prelude.{Result, Ok, Err}
use Rattle.refusal.specs.declared.Refusal.{Refusal}
use Rattle.readings.specs.Output.{Room, Output, Reading, output}
use Rattle.readings.specs.Plan.{Plan, end, perform, followed_by, one_by_one, end_test}
use Rattle.readings.proofs.Plans.Perform.{and_then, perform_followed}
use Rattle.output.specs.declared.Output.{Output as Buffers}
use Rattle.output.specs.Held.{room_in, Holds, Ends, SameBuffers, Does}
use Rattle.output.proofs.Writing.{same_buffers}

-- an output that the buffers hold, from which the rest gives the whole
pub record Reached (x : Reading) (rest : Plan) (e t : List ℕ) (b : Buffers) : Type 0 where
  pub out : Output
  pub holds : Holds out e t b
  pub goes : x ≡ perform (room_in (length e) (length t)) rest out

-- midway: whatever the buffers held at first, they hold now what is written so far, and the rest is still to be done
pub record Midway (whole rest : Plan) (b b' : Buffers) : Type 0 where
  pub is : {e t : List ℕ} {out : Output} → Holds out e t b
      → Reached (perform (room_in (length e) (length t)) whole out) rest e t b'
  pub same : SameBuffers b b'

pub midway_start : (p : Plan) (b : Buffers) → Midway p p b b
midway_start p b = record { is = λ h. record { out = _; holds = h; goes = refl }; same = same_buffers b }

ends_as : {x y : Reading} {e t : List ℕ} {b : Buffers} {r : Result (Unit {0}) Refusal} → x ≡ y → Ends y e t b r → Ends x e t b r
ends_as p d = rw p d

pub same_then : {a b c : Buffers} → SameBuffers a b → SameBuffers b c → SameBuffers a c
same_then p q = record { entries = q.entries ∙ p.entries; texts = q.texts ∙ p.texts }

-- a plan that is another
pub does_as : {f g : Plan} {b b' : Buffers} {r : Result (Unit {0}) Refusal} → f ≡ g → Does g b b' r → Does f b b' r
does_as p d = rw p d

-- nothing to do
pub does_nothing : (b : Buffers) → Does end b b (Ok (tt {0}))
unfolding perform
does_nothing b = record { is = λ h. record { is = refl; holds = h }; same = same_buffers b }

-- one that begins with a plan
begun : (room : Room) {rest : Plan} (step more : Plan) (out : Output) {x : Reading} → rest ≡ followed_by step more
    → perform room step out ≡ x
    → perform room rest out ≡ and_then x (perform room more)
begun room step more out p q =
    ap (λ (z : Plan). perform room z out) p ∙ (perform_followed room step more out ∙ ap (λ (y : Reading). and_then y (perform room more)) q)

module _ {whole rest : Plan} {b b₁ : Buffers} (m : Midway whole rest b b₁) where
  -- the rest is one plan
  pub midway_last : {b₂ : Buffers} {r : Result (Unit {0}) Refusal} → Does rest b₁ b₂ r → Does whole b b₂ r
  midway_last d = record { is = λ h. let x = m.is h in ends_as x.goes (d.is x.holds); same = same_then m.same d.same }

  -- the rest is nothing
  pub midway_ends : rest ≡ end → Does whole b b₁ (Ok (tt {0}))
  unfolding perform
  midway_ends p = midway_last (does_as p (does_nothing b₁))

  -- the rest begins with a plan
  module _ {step : Plan} (more : Plan) (begins : rest ≡ followed_by step more) {b₂ : Buffers} where
    pub midway_goes : Does step b₁ b₂ (Ok (tt {0})) → Midway whole more b b₂
    midway_goes d =
        record {
          is = λ {e} {t} h.
              let room = room_in (length e) (length t) in
              let x = m.is h in
              let y = d.is x.holds in
              record { out = output (perform room step x.out); holds = y.holds; goes = x.goes ∙ begun room step more x.out begins y.is };
          same = same_then m.same d.same;
        }

    pub midway_stops : {why : Refusal} → Does step b₁ b₂ (Err why) → Does whole b b₂ (Err why)
    midway_stops d =
        record {
          is = λ {e} {t} h.
              let room = room_in (length e) (length t) in
              let x = m.is h in
              let y = d.is x.holds in
              ends_as (x.goes ∙ begun room step more x.out begins y.is) (record { is = refl; holds = y.holds });
          same = same_then m.same d.same;
        }

-- a plan, and another after it
module _ (p q : Plan) {b b₁ : Buffers} where
  pub does_then : {b₂ : Buffers} {r : Result (Unit {0}) Refusal} → Does p b b₁ (Ok (tt {0})) → Does q b₁ b₂ r
      → Does (followed_by p q) b b₂ r
  does_then d f = midway_last (midway_goes (midway_start (followed_by p q) b) q refl d) f

  pub does_stop : {why : Refusal} → Does p b b₁ (Err why) → Does (followed_by p q) b b₁ (Err why)
  does_stop d = midway_stops (midway_start (followed_by p q) b) q refl d

-- the test at the end
module _ (b : Buffers) where
  pub tested_well : {ill : Bool} → ill ≡ false → Does (end_test ill) b b (Ok (tt {0}))
  tested_well q = rw q (does_nothing b)

  pub tested_ill : {ill : Bool} → ill ≡ true → Does (end_test ill) b b (Err Refusal.IllFormed)
  unfolding perform
  tested_ill q = rw q (record { is = λ h. record { is = refl; holds = h }; same = same_buffers b })

-- ---- one after another, over a list
module _ {A : Type 0} (f : A → Plan) {whole : Plan} {b b₁ : Buffers} where
  pub each_ends : Midway whole (one_by_one f []) b b₁ → Does whole b b₁ (Ok (tt {0}))
  unfolding one_by_one
  each_ends m = midway_ends m refl

  module _ (a : A) (l : List A) (m : Midway whole (one_by_one f (a ∷ l)) b b₁) {b₂ : Buffers} where
    pub each_goes : Does (f a) b₁ b₂ (Ok (tt {0})) → Midway whole (one_by_one f l) b b₂
    unfolding one_by_one
    each_goes d = midway_goes m (one_by_one f l) refl d

    pub each_stops : {why : Refusal} → Does (f a) b₁ b₂ (Err why) → Does whole b b₂ (Err why)
    unfolding one_by_one
    each_stops d = midway_stops m (one_by_one f l) refl d
