-- What plans are made of: at most so many entries, each of which is W, and stops, each of which is S. What every write keeps is kept by the
-- plan.
use Prim.Native.Nat.{ℕ, zero, suc, ◌+◌, ◌≤◌}
use mathlib.Core.Path.{◌≡◌, refl}
use mathlib.Core.Bool.{Bool, true, false}
use mathlib.Core.List.{List, [], ◌∷◌, Memᴰ}
use native.Mathlib.Omega.{arith}
use lib.ListN.{length}
use Rattle.lists.proofs.Tests.{pick_cases}
use Rattle.refusal.specs.declared.Refusal.{Refusal}
use Rattle.readings.specs.Output.{Entry, Room, Output, nothing, Reading, output, fits, appended}
use Rattle.readings.specs.Plan.{Plan, put, end, stop, perform, followed_by, one_by_one, end_test}
use Rattle.readings.specs.Demand.{Reaches, here, later}

pub data Made (W : (ℕ → Entry) → List ℕ → Type 0) (S : Refusal → Type 0) : ℕ → Plan → Type 0 where
  made_put : {n : ℕ} {entry : ℕ → Entry} {bytes : List ℕ} {p : Plan} → W entry bytes → Made W S n p → Made W S (suc n) (put entry bytes p)
  made_end : {n : ℕ} → Made W S n end
  made_stop : {n : ℕ} {r : Refusal} → S r → Made W S n (stop r)

module _ {W : (ℕ → Entry) → List ℕ → Type 0} {S : Refusal → Type 0} where
  pub made_more : {n : ℕ} (m : ℕ) {p : Plan} → n ≤ m → Made W S n p → Made W S m p
  made_more zero h (made_put w t) = absurd (omega (arith, h))
  made_more (suc m) h (made_put w t) = made_put w (made_more m (omega (arith, h)) t)
  made_more m h made_end = made_end
  made_more m h (made_stop s) = made_stop s

  pub made_followed : {n m : ℕ} {p q : Plan} → Made W S n p → Made W S m q → Made W S (n + m) (followed_by p q)
  unfolding followed_by
  made_followed (made_put w t) u = made_more _ (omega arith) (made_put w (made_followed t u))
  made_followed {n} {m} made_end u = made_more (n + m) (omega arith) u
  made_followed (made_stop s) u = made_stop s

  pub made_each : {A : Type 0} (f : A → Plan) (l : List A) → ((x : A) → Memᴰ x l → Made W S 1 (f x))
      → Made W S (length l) (one_by_one f l)
  unfolding one_by_one
  made_each f [] g = made_end
  made_each {A} f (x ∷ l) g = made_more _ (omega arith)
      (made_followed (g x (Memᴰ.head refl)) (made_each f l (λ (y : A) i. g y (Memᴰ.tail i))))

  pub made_last : {n : ℕ} (b : Bool) → (b ≡ true → S Refusal.IllFormed) → Made W S n (end_test b)
  made_last true f = made_stop (f refl)
  made_last false f = made_end

  -- where it stops, it may
  pub made_stops : {n : ℕ} {p : Plan} {out last : Output} {r : Refusal} → Made W S n p → Reaches p out (stop r) last → S r
  made_stops (made_stop s) here = s
  made_stops (made_put w t) (later u) = made_stops t u
  made_stops {out = out} {last = last} {r = r} (made_end {n = n}) x = elim x [ ]

-- ---- Q n is said of an output after at most n writes
pub record Keeps (room : Room) (W : (ℕ → Entry) → List ℕ → Type 0) (Q : ℕ → Output → Type 0) : Type 0 where
  pub start : Q 0 nothing
  pub idle : (n m : ℕ) (out : Output) → n ≤ m → Q n out → Q m out
  pub write : (n : ℕ) (out : Output) (entry : ℕ → Entry) (bytes : List ℕ) → W entry bytes → fits room bytes out ≡ true → Q n out
      → Q (suc n) (appended entry bytes out)

module _ {room : Room} {W : (ℕ → Entry) → List ℕ → Type 0} {S : Refusal → Type 0} {Q : ℕ → Output → Type 0} (k : Keeps room W Q) where
  keeps_on : {n : ℕ} {p : Plan} → Made W S n p → (m : ℕ) (out : Output) → Q m out → Q (m + n) (output (perform room p out))
  unfolding perform
  keeps_on (made_put {n = n} {entry = entry} {bytes = bytes} w t) m out q =
      pick_cases (λ (x : Reading). Q (m + suc n) (output x)) (fits room bytes out) _ _
      (λ e. k.idle (suc m + n) (m + suc n) _ (omega arith)
      (keeps_on t (suc m) (appended entry bytes out) (k.write m out entry bytes w e q)))
      (λ e. k.idle m (m + suc n) out (omega arith) q)
  keeps_on {n} made_end m out q = k.idle m (m + n) out (omega arith) q
  keeps_on {n} (made_stop s) m out q = k.idle m (m + n) out (omega arith) q

  -- THE LAW: what each write keeps, the whole keeps, finished or refused
  pub made_kept : {n : ℕ} {p : Plan} → Made W S n p → Q n (output (perform room p nothing))
  made_kept {n} t = k.idle (0 + n) n _ (omega arith) (keeps_on t 0 nothing k.start)
