-- Laws of where an element's rows are: the row in which it starts, and how many they are.
use Prim.Native.Nat.{ℕ, suc, ◌+◌, ◌-◌, ◌*◌, ◌/◌, ◌≤◌, ◌<◌, ◌^◌}
use mathlib.Core.Path.{◌≡◌, refl, sym, ◌∙◌, ap}
use mathlib.Core.Bool.{Bool, true, false}
use mathlib.Core.List.{List, [], ◌∷◌}
use native.Mathlib.Omega.{arith}
use borrow.Author.Rules.{rules}
use borrow.Author.Tests.{eq-eqb, ne_eqb, leb-true, leb-false}
use lib.Dec.{eqb, leb}
use lib.ListN.{length}
use lib.Seq.{sets}
use Rattle.lists.specs.Tests.{pick}
use Rattle.lists.specs.Decide.{Says}
use Rattle.lists.proofs.Decide.{says_not}
use Rattle.table.specs.Row.{Row}
use Rattle.table.specs.Rules.{open_count}
use Rattle.table.specs.Flat.{row_at, rows_from}
use Rattle.table.proofs.Flat.{length_rows, unroll, rolled_out}
use Rattle.table.proofs.KindLaws.{count_low}
use Rattle.table.specs.Piece.{closing}
use Rattle.element.specs.Rows.{StartsAfter, FirstAfter, moved_table, OwnRows}

-- ---- the start row
-- none before row k
pub record Seeking (t : List ℕ) (place k : ℕ) : Type 0 where
  pub high : k ≤ length t / 8
  pub none : (i : ℕ) → i < k → StartsAfter t place i → ⊥

pub seeking_start : (t : List ℕ) (place : ℕ) → Seeking t place 0
seeking_start t place = record { high = omega arith; none = λ i h s. omega arith }

module _ {t : List ℕ} {place k : ℕ} (s : Seeking t place k) where
  pub seeking_on : {r : Bool} → Says (StartsAfter t place k) r → r ≡ false → k < length t / 8 → Seeking t place (k + 1)
  seeking_on a q h = record { high = omega arith; none = λ i l x. go i l x (leb k i) refl }
    where
      go : (i : ℕ) → i < k + 1 → StartsAfter t place i → (b : Bool) → leb k i ≡ b → ⊥
      go i l x true e = let z : i ≡ k = omega (arith, leb-true k i e) in says_not a q (rw z at x)
      go i l x false e = s.none i (omega (arith, leb-false k i e)) x

  pub seeking_found : {r : Bool} → Says (StartsAfter t place k) r → r ≡ true → k < length t / 8 → FirstAfter t place k
  seeking_found a q h = record { high = omega arith; found = λ i. a.sound q; first = s.none }

  pub seeking_out : length t / 8 ≤ k → FirstAfter t place k
  seeking_out h = record { high = s.high; found = λ i. absurd (omega arith); first = s.none }

pub ruleset seeking_laws = (rules, seeking_start, seeking_on, seeking_found, seeking_out)

-- ---- how many rows: j - k of them are counted, and n elements are open after them
pub record Counting (t : List ℕ) (k n j : ℕ) : Type 0 where
  pub low : k ≤ j
  pub high : j ≤ length t / 8
  pub few : n ≤ j - k
  pub rest : (j - k) + closing n (rows_from t j (length t / 8 - j)) ≡ closing 0 (rows_from t k (length t / 8 - k))

pub counting_start : (t : List ℕ) {k : ℕ} → k ≤ length t / 8 → Counting t k 0 k
counting_start t {k} h = record { low = omega arith; high = h; few = omega arith; rest = omega arith }

closing_here : (n : ℕ) (r : Row) (rest : List Row) → open_count n r.kind ≡ 0 → closing n (r ∷ rest) ≡ 1
unfolding closing
closing_here n r rest e = rw (eq-eqb (open_count n r.kind) 0 e)

closing_on : (n : ℕ) (r : Row) (rest : List Row) → (open_count n r.kind ≡ 0 → ⊥)
    → closing n (r ∷ rest) ≡ suc (closing (open_count n r.kind) rest)
unfolding closing
closing_on n r rest f = rw (ne_eqb (open_count n r.kind) 0 f)

module _ {t : List ℕ} {k n j : ℕ} (c : Counting t k n j) where
  pub counting_out : length t / 8 ≤ j → length t / 8 - k ≡ closing 0 (rows_from t k (length t / 8 - k))
  unfolding closing
  counting_out h =
      let z : length t / 8 - k ≡ (j - k) + 0 = omega (arith, c.high) in z ∙ rw (rolled_out t j (length t / 8) h) at c.rest

  pub counting_few : length t < 2 ^ 64 → n + 1 < 2 ^ 64
  counting_few h = omega (arith, c.few, c.high)

  module _ (h : j < length t / 8) {m : ℕ} (is : m ≡ open_count n (row_at t j).kind) where
    abbrev later : List Row
    later = rows_from t (j + 1) (length t / 8 - (j + 1))

    rest_is : (j - k) + closing n (row_at t j ∷ later) ≡ closing 0 (rows_from t k (length t / 8 - k))
    rest_is = rw (unroll t j (length t / 8) h) at c.rest

    pub counting_more : (m ≡ 0 → ⊥) → Counting t k m (j + 1)
    counting_more f =
        let low : m ≤ suc n = rw is (count_low n (row_at t j).kind) in
        let z : (j + 1) - k ≡ suc (j - k) = omega (arith, c.low) in
        record {
          low = omega (arith, c.low);
          high = omega arith;
          few = omega (arith, c.few, c.low);
          rest =
              let y : (j + 1) - k + closing m later ≡ (j - k) + suc (closing m later) = omega arith in
              y ∙ (ap (λ (x : ℕ). (j - k) + x) (rw is (sym (closing_on n (row_at t j) later (λ q. f (is ∙ q))))) ∙ rest_is);
        }

    pub counting_done : m ≡ 0 → (j + 1) - k ≡ closing 0 (rows_from t k (length t / 8 - k))
    counting_done f =
        let z : (j + 1) - k ≡ (j - k) + 1 = omega (arith, c.low) in
        z ∙ (ap (λ (x : ℕ). (j - k) + x) (sym (closing_here n (row_at t j) later (sym is ∙ f))) ∙ rest_is)

pub ruleset counting_laws = (rules, counting_start, counting_out, counting_few, counting_more, counting_done)

-- ---- the whole
pub closing_low : (n : ℕ) (l : List Row) → closing n l ≤ length l
unfolding closing
closing_low n [] = omega arith
closing_low n (r ∷ l) = go (eqb (open_count n r.kind) 0) (closing_low (open_count n r.kind) l)
  where
    go : (b : Bool) → closing (open_count n r.kind) l ≤ length l → suc (pick b 0 (closing (open_count n r.kind) l)) ≤ suc (length l)
    go true h = omega arith
    go false h = omega arith

module _ {t : List ℕ} {place k n : ℕ} (f : FirstAfter t place k) (c : n ≡ closing 0 (rows_from t k (length t / 8 - k))) where
  few : n ≤ length t / 8 - k
  few = rw c (omega (arith, closing_low 0 (rows_from t k (length t / 8 - k)), length_rows t k (length t / 8 - k)))

  pub own_in : (k + n) * 8 ≤ length t
  own_in = omega (arith, few, f.high)

  pub own_none : (old : List ℕ) → length old / 8 < n → OwnRows t place old old 0
  own_none old h = record { row = k; first = f; fit = λ g. absurd (omega (arith, c)); short = λ g. (refl, refl) }

  pub own_all : {old new : List ℕ} → new ≡ sets old 0 (moved_table place (rows_from t k n)) → n ≤ length old / 8
      → OwnRows t place old new n
  own_all e h = record { row = k; first = f; fit = λ g. (c, e); short = λ g. absurd (omega (arith, c)) }

pub own_high : {t : List ℕ} {place k : ℕ} → FirstAfter t place k → k ≤ length t / 8
own_high f = f.high

pub ruleset own_laws = (rules, own_in, own_none, own_all, own_high)
