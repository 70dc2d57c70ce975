-- The test is the definition: `is_utf8` is true of the well-formed sequences, and of no other.
use Prim.Native.Nat.{ℕ, zero, suc, ◌≤◌, ◌<◌}
use mathlib.Core.Path.{◌≡◌, refl, ap}
use mathlib.Core.Bool.{Bool, true, false}
use mathlib.Core.List.Memᴰ
use mathlib.Core.List.{List, [], ◌∷◌, ◌++◌, Memᴰ}
use native.Mathlib.Omega.{arith}
use borrow.Author.Tests.{ltb-true, ltb-false, leb-true, le-leb, lt-leb}
use mathlib.Core.Logic.{◌⊎◌, inl, inr}
use lib.Dec.{ltb, leb}
use lib.ListN.{length, get_or}
use Rattle.lists.specs.Tests.{pick, within}
use Rattle.lists.proofs.Tests.{pick_same, false_true}
use Rattle.utf8.specs.Table.{Range, ◌to◌, table, in_range, fits, OneChar, WellFormed, none, next, After, due, never, after, walk}
use Rattle.utf8.specs.Table.{is_utf8}

-- by whether a number is below another
pub below : {P : Type 0} (c k : ℕ) → (c < k → P) → (k ≤ c → P) → P
below {P} c k f g = go (ltb c k) refl
  where
    go : (t : Bool) → ltb c k ≡ t → P
    go true e = f (ltb-true c k e)
    go false e = g (ltb-false c k e)

-- both tests of a conjunction hold
pub both : (t u : Bool) → pick t u false ≡ true → (t ≡ true) × (u ≡ true)
both true u e = (refl, e)
both false u e = false_true e

-- a byte in a range stands between its ends
pub in_range_lem : (from last b : ℕ) → in_range (from to last) b ≡ true → (from ≤ b) × (b ≤ last)
unfolding in_range
in_range_lem from last b e =
    let p = both (leb from b) (leb b last) e in
    (leb-true from b p.0, leb-true b last p.1)

-- and what stands between them is in the range
pub range_in : (from last b : ℕ) → from ≤ b → b ≤ last → in_range (from to last) b ≡ true
unfolding in_range
range_in from last b g h = rw (le-leb from b g, le-leb b last h)

-- a row by its number
pub nth : (rows : List (List Range)) (k : ℕ) → k < length rows → Memᴰ (get_or rows k []) rows
nth [] k h = absurd (omega arith)
nth (r ∷ rows) zero h = Memᴰ.head refl
nth (r ∷ rows) (suc k) h = Memᴰ.tail (nth rows k (omega arith))

-- ---- each first byte is in one row only
-- the rows' first ranges begin at n or later, none is empty, and each ends before the next begins
unfoldable rising : ℕ → List (List Range) → Bool
rising n [] = true
rising n ([] ∷ rows) = false
rising n ((from to last ∷ rs) ∷ rows) = pick (within n last from) (rising (suc last) rows) false

-- a first byte of one of these rows is n or more
rising_low : (n : ℕ) (rows : List (List Range)) (b : ℕ) {r : Range} {rs : List Range} → rising n rows ≡ true → Memᴰ (r ∷ rs) rows
    → in_range r b ≡ true → n ≤ b
unfolding rising in_range
rising_low n [] b e m h = absurd (Memᴰ.not-nil m)
rising_low n ([] ∷ rows) b e m h = false_true e
rising_low n ((from to last ∷ ts) ∷ rows) b {r} {rs} e m h =
    let p = both (within n last from) (rising (suc last) rows) e in
    go (Memᴰ.cases_cons m) (in_range_lem n last from p.0) (λ k. rising_low (suc last) rows b p.1 k h)
  where
    go : ((r ∷ rs) ≡ (from to last ∷ ts)) ⊎ Memᴰ (r ∷ rs) rows → (n ≤ from) × (from ≤ last) → (Memᴰ (r ∷ rs) rows → suc last ≤ b)
        → n ≤ b
    go (inl q) g k = let x : r ≡ from to last = cc in omega (arith, in_range_lem from last b (rw x at h))
    go (inr q) g k = omega (arith, k q)

-- a first byte of a row asks for the rest of that row
rising_after : (n : ℕ) (rows : List (List Range)) (b : ℕ) {r : Range} {rs : List Range} → rising n rows ≡ true → Memᴰ (r ∷ rs) rows
    → in_range r b ≡ true → after rows b ≡ due rs
unfolding rising in_range after
rising_after n [] b e m h = absurd (Memᴰ.not-nil m)
rising_after n ([] ∷ rows) b e m h = false_true e
rising_after n ((from to last ∷ ts) ∷ rows) b {r} {rs} e m h =
    let p = both (within n last from) (rising (suc last) rows) e in
    go (Memᴰ.cases_cons m) (λ k. rising_after (suc last) rows b p.1 k h) (λ k. rising_low (suc last) rows b p.1 k h)
  where
    go : ((r ∷ rs) ≡ (from to last ∷ ts)) ⊎ Memᴰ (r ∷ rs) rows → (Memᴰ (r ∷ rs) rows → after rows b ≡ due rs)
        → (Memᴰ (r ∷ rs) rows → suc last ≤ b) → pick (within from last b) (due ts) (after rows b) ≡ due rs
    go (inl q) g k = let x : r ≡ from to last = cc in let y : ts ≡ rs = cc in let z : within from last b ≡ true = rw x at h in rw (z, y)
    go (inr q) g k = rw (lt-leb b last (k q), pick_same) (g q)

-- the rest of the row of a first byte is what `after` finds in the table
pub row_after : (b : ℕ) {r : Range} {rs : List Range} → Memᴰ (r ∷ rs) table → in_range r b ≡ true → after table b ≡ due rs
unfolding rising table
row_after b m h = rising_after 0 table b refl m h

-- ---- what `after` finds is the rest of a row
pub record Row (rows : List (List Range)) (b : ℕ) (rs : List Range) : Type 0 where
  pub first : Range
  pub listed : Memᴰ (first ∷ rs) rows
  pub holds : in_range first b ≡ true

-- the row of what `after` finds
pub after_row : (rows : List (List Range)) (b : ℕ) (rs : List Range) → after rows b ≡ due rs → Row rows b rs
unfolding after
after_row [] b rs e = let z : ◌≡◌ {A = ℕ} 0 1 = cc in absurd (omega arith)
after_row ([] ∷ rows) b rs e =
    let ih = after_row rows b rs e in
    record { first = ih.first; listed = Memᴰ.tail ih.listed; holds = ih.holds }
after_row ((r ∷ ts) ∷ rows) b rs e = go (in_range r b) refl e (after_row rows b rs)
  where
    go : (t : Bool) → in_range r b ≡ t → pick t (due ts) (after rows b) ≡ due rs → (after rows b ≡ due rs → Row rows b rs)
        → Row ((r ∷ ts) ∷ rows) b rs
    go true h q ih = let x : rs ≡ ts = cc in record { first = r; listed = Memᴰ.head {x = r ∷ ts} (rw x); holds = h }
    go false h q ih = let w = ih q in record { first = w.first; listed = Memᴰ.tail w.listed; holds = w.holds }

-- ---- the theorems
-- the bytes that the ranges ask for, and then a well-formed sequence
pub record Begun (rs : List Range) (s : List ℕ) : Type 0 where
  pub front : List ℕ
  pub back : List ℕ
  pub joined : s ≡ front ++ back
  pub fit : fits rs front ≡ true
  pub rest : WellFormed back

-- one more byte, in one more range
pub fits_more : (r : Range) (rs : List Range) (b : ℕ) (s : List ℕ) → in_range r b ≡ true → fits rs s ≡ true → fits (r ∷ rs) (b ∷ s) ≡ true
unfolding fits
fits_more r rs b s h e = rw h e

-- what the walk admits begins with the bytes asked for, and the rest is well-formed
pub begun : (s : List ℕ) (rs : List Range) → walk rs s ≡ true → Begun rs s
unfolding walk fits
begun [] [] e = record { front = []; back = []; joined = refl; fit = refl; rest = none }
begun [] (r ∷ rs) e = false_true e
begun (b ∷ s) (r ∷ rs) e =
    let p = both (in_range r b) (walk rs s) e in
    let ih = begun s rs p.1 in
    record {
      front = b ∷ ih.front;
      back = ih.back;
      joined = ap (b ∷◌) ih.joined;
      fit = fits_more r rs b ih.front p.0 ih.fit;
      rest = ih.rest;
    }
begun (b ∷ s) [] e = go (after table b) refl e (λ rs. begun s rs)
  where
    char : (rs : List Range) → after table b ≡ due rs → Begun rs s → WellFormed (b ∷ s)
    char rs h w =
        let row = after_row table b rs h in
        rw w.joined (next {c = b ∷ w.front}
        (record { row = _; listed = row.listed; bytes = fits_more row.first rs b w.front row.holds w.fit }) w.rest)

    go : (a : After) → after table b ≡ a → elim a [ due rs ↦ walk rs s | never ↦ false ] ≡ true
        → ((rs : List Range) → walk rs s ≡ true → Begun rs s) → Begun [] (b ∷ s)
    go (due rs) h q ih = record { front = []; back = b ∷ s; joined = refl; fit = refl; rest = char rs h (ih rs q) }
    go never h q ih = false_true q

-- what passes the test is well-formed
pub test_sound : (s : List ℕ) → is_utf8 s ≡ true → WellFormed s
unfolding is_utf8 fits
test_sound s e = let w = begun s [] e in go w.front w.back w.joined w.fit w.rest
  where
    go : (f t : List ℕ) → s ≡ f ++ t → fits [] f ≡ true → WellFormed t → WellFormed s
    go [] t q h w = rw q w
    go (b ∷ f) t q h w = false_true h

-- the bytes that the ranges ask for bring the walk to the next character
pub walk_fits : (rs : List Range) (c s : List ℕ) → fits rs c ≡ true → walk rs (c ++ s) ≡ walk [] s
unfolding walk fits
walk_fits [] [] s e = refl
walk_fits [] (b ∷ c) s e = false_true e
walk_fits (r ∷ rs) [] s e = false_true e
walk_fits (r ∷ rs) (b ∷ c) s e =
    let p = both (in_range r b) (fits rs c) e in
    rw p.0 (walk_fits rs c s p.1)

-- a character takes the walk to the next
pub walk_char : (c s : List ℕ) → OneChar c → walk [] (c ++ s) ≡ walk [] s
unfolding walk fits
walk_char c s o = go o.row c o.listed o.bytes
  where
    go : (row : List Range) (c : List ℕ) → Memᴰ row table → fits row c ≡ true → walk [] (c ++ s) ≡ walk [] s
    go [] [] m h = refl
    go [] (b ∷ c) m h = false_true h
    go (r ∷ rs) [] m h = false_true h
    go (r ∷ rs) (b ∷ c) m h =
        let p = both (in_range r b) (fits rs c) h in
        rw (row_after b m p.0, walk) (walk_fits rs c s p.1)

-- what is well-formed passes the test
pub test_complete : {s : List ℕ} → WellFormed s → is_utf8 s ≡ true
unfolding is_utf8 walk
test_complete none = refl
test_complete (next {c} {s} o w) = rw (walk_char c s o) (test_complete w)
