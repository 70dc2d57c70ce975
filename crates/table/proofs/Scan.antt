-- Laws of the look for the last `<`.
use Prim.Native.Nat.{ℕ, zero, suc, ◌-◌, ◌≤◌, ◌<◌}
use mathlib.Core.Path.{◌≡◌, refl, sym, ◌∙◌}
use mathlib.Core.Bool.{Bool, true, false}
use mathlib.Core.List.{List}
use native.Mathlib.Omega.{arith}
use borrow.Author.Rules.{rules}
use borrow.Author.Tests.{eq-eqb, ne_eqb, leb-true, leb-false}
use lib.Dec.{leb}
use lib.ListN.{get_or}
use Rattle.table.specs.Rules.{last_lt}
use Rattle.table.specs.Bytes.{NoLt, LastIn}

-- none stands from i on
pub record BackAt (body : List ℕ) (at i : ℕ) : Type 0 where
  pub high : i ≤ at
  pub same : last_lt body at ≡ last_lt body i
  pub none : (k : ℕ) → i ≤ k → k < at → get_or body k 0 ≡ 60 → ⊥

last_here : (body : List ℕ) (i : ℕ) → 0 < i → get_or body (i - 1) 0 ≡ 60 → last_lt body i ≡ i - 1
unfolding last_lt
last_here body zero h e = absurd (omega arith)
last_here body (suc i) h e = let z : suc i - 1 ≡ i = omega arith in rw (z, eq-eqb (get_or body i 0) 60 (rw z at e))

last_before : (body : List ℕ) (i : ℕ) → 0 < i → (get_or body (i - 1) 0 ≡ 60 → ⊥) → last_lt body i ≡ last_lt body (i - 1)
unfolding last_lt
last_before body zero h f = absurd (omega arith)
last_before body (suc i) h f = let z : suc i - 1 ≡ i = omega arith in rw (z, ne_eqb (get_or body i 0) 60 (rw z at f))

pub back_start : (body : List ℕ) (at : ℕ) → BackAt body at at
back_start body at = record { high = omega arith; same = refl; none = λ k l u e. omega arith }

module _ {body : List ℕ} {low at i : ℕ} (b : BackAt body at i) where
  pub back_turn : low < i → (get_or body (i - 1) 0 ≡ 60 → ⊥) → BackAt body at (i - 1)
  back_turn h f =
      record {
        high = omega (arith, b.high);
        same = b.same ∙ last_before body i (omega arith) f;
        none = λ k l u e. go k l u e (leb i k) refl;
      }
    where
      go : (k : ℕ) → i - 1 ≤ k → k < at → get_or body k 0 ≡ 60 → (t : Bool) → leb i k ≡ t → ⊥
      go k l u e true q = b.none k (leb-true i k q) u e
      go k l u e false q = let z : k ≡ i - 1 = omega (arith, leb-false i k q) in f (rw z at e)

  pub back_found : low < i → get_or body (i - 1) 0 ≡ 60 → LastIn body low at (i - 1)
  back_found h e =
      record {
        late = omega arith;
        high = omega (arith, b.high);
        is = e;
        last = sym (b.same ∙ last_here body i (omega arith) e);
      }

  pub back_none : i ≤ low → NoLt body low at
  back_none h = record { none = λ k l. b.none k (omega arith) }

pub ruleset back_laws = (rules, back_start, back_turn, back_found, back_none)

-- where none stands before a place, the last is 0 by its definition
pub last_none : (body : List ℕ) (at : ℕ) → NoLt body 0 at → last_lt body at ≡ 0
unfolding last_lt
last_none body zero n = refl
last_none body (suc at) n =
    rw (ne_eqb (get_or body at 0) 60 (n.none at (omega arith) (omega arith)))
    (last_none body at (record { none = λ k l u. n.none k l (omega arith) }))
