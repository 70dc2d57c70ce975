-- Laws of the kinds.
use Prim.Native.Nat.{ℕ, suc, ◌-◌, ◌≤◌, ◌<◌}
use mathlib.Core.Path.{◌≡◌, refl}
use native.Mathlib.Omega.{arith}
use borrow.Author.Tests.{eqb-true}
use lib.Dec.{eqb}
use Rattle.std.specs.Prelude.{MatchOption, IsSome}
use Rattle.std.specs.declared.option.Option.{Option}
use Rattle.std.specs.Prelude.{Some, None}
use Rattle.lists.specs.Tests.{pick}
use Rattle.lists.proofs.Tests.{pick_all, pick_cases}
use Rattle.table.specs.Rules.{closes_element, open_count}
use Rattle.table.specs.declared.kinds.Kind.{Kind}
use Rattle.table.specs.Kinds.{DepthIs, IsKind, kind_number}

-- a number that is a kind's has one
pub some_kind : (r : Option Kind) {n : ℕ} → IsKind n → MatchOption r (IsKind n → ⊥) (λ k. kind_number k ≡ n) → IsSome r
some_kind None i m = absurd (m i)
some_kind (Some k) i m = refl

-- ---- how many elements are open after a row: at most one more, and no more than a limit that an element is opened below
pub count_low : (n kind : ℕ) → open_count n kind ≤ suc n
count_low n kind =
    pick_all (λ x. x ≤ suc n) (eqb kind 1) (suc n) (pick (closes_element kind) (n - 1) n) (omega arith)
    (pick_all (λ x. x ≤ suc n) (closes_element kind) (n - 1) n (omega arith) (omega arith))

pub count_within : (n kind most : ℕ) → n ≤ most → (kind ≡ 1 → n < most) → open_count n kind ≤ most
count_within n kind most h f =
    pick_cases (λ x. x ≤ most) (eqb kind 1) (suc n) (pick (closes_element kind) (n - 1) n)
    (λ e. omega (arith, f (eqb-true kind 1 e)))
    (λ e. pick_all (λ x. x ≤ most) (closes_element kind) (n - 1) n (omega arith) h)

-- after one that starts none the count is what `depth_after` says
pub depth_is : {d kind e : ℕ} → (kind ≡ 1 → ⊥) → e ≡ open_count d kind → DepthIs kind d e
depth_is {d} {kind} a x =
    record {
      is = λ z. x;
      low = rw x (pick_cases (λ y. y ≤ d) (eqb kind 1) (suc d) (pick (closes_element kind) (d - 1) d)
          (λ q. absurd (a (eqb-true kind 1 q)))
          (λ q. pick_all (λ y. y ≤ d) (closes_element kind) (d - 1) d (omega arith) (omega arith)));
    }
