-- Laws on the rows of a flat table by number. The spans of the rows of a table that obeys the rules lie in the body.
use Prim.Native.Nat.{ℕ, zero, suc, ◌+◌, ◌-◌, ◌*◌, ◌/◌, ◌%◌, ◌≤◌, ◌<◌}
use mathlib.Core.Path.{◌≡◌, refl, sym, ap, ◌∙◌}
use mathlib.Core.Bool.{Bool, true, false}
use mathlib.Core.List.{List, [], ◌∷◌}
use native.Mathlib.Nat.{div-add-mod'}
use native.Mathlib.Numerals.{add-one}
use native.Mathlib.Omega.{arith}
use borrow.Author.Tests.{leb-true, leb-false}
use lib.Dec.{leb}
use lib.ListN.{length, get_or, drop}
use lib.Seq.{get_or-drop}
use Rattle.table.specs.Row.{Row, rows_of}
use Rattle.table.specs.Rules.{Place, uses_name, RowRules, EachRow, none, row, last_position, TableRules}
use Rattle.table.specs.Flat.{row_at, rows_from, SpansIn}

pub length_rows : (t : List ℕ) (k m : ℕ) → length (rows_from t k m) ≡ m
length_rows t k zero = refl
length_rows t k (suc m) = ap suc (length_rows t (suc k) m)

-- number j of row k + 1 is number j of row k, eight numbers on
get_next : (t : List ℕ) (k j : ℕ) → get_or t (suc k * 8 + j) 0 ≡ get_or (drop 8 t) (k * 8 + j) 0
get_next t k j =
    let e : suc k * 8 + j ≡ 8 + (k * 8 + j) = omega arith in
    rw (e, get_or-drop 8 t (k * 8 + j) 0)

row_next : (t : List ℕ) (k : ℕ) → row_at t (suc k) ≡ row_at (drop 8 t) k
row_next t k =
    λ i. record {
      kind = get_next t k 0 i;
      prefix_start = get_next t k 1 i;
      prefix_len = get_next t k 2 i;
      local_start = get_next t k 3 i;
      local_len = get_next t k 4 i;
      value_start = get_next t k 5 i;
      value_len = get_next t k 6 i;
      position = get_next t k 7 i;
    }

rows_next : (t : List ℕ) (k m : ℕ) → rows_from t (suc k) m ≡ rows_from (drop 8 t) k m
rows_next t k zero = refl
rows_next t k (suc m) = rw (row_next t k, rows_next t (suc k) m)

-- by pattern and by number they are the same
pub rows_same : (m : ℕ) (t : List ℕ) → length t ≡ m * 8 → rows_of t ≡ rows_from t 0 m
unfolding rows_of
rows_same zero [] h = refl
rows_same zero (a ∷ t) h = absurd (omega (arith, h))
rows_same (suc m) [] h = absurd (omega (arith, h))
rows_same (suc m) (a ∷ []) h = absurd (omega (arith, h))
rows_same (suc m) (a ∷ b ∷ []) h = absurd (omega (arith, h))
rows_same (suc m) (a ∷ b ∷ c ∷ []) h = absurd (omega (arith, h))
rows_same (suc m) (a ∷ b ∷ c ∷ d ∷ []) h = absurd (omega (arith, h))
rows_same (suc m) (a ∷ b ∷ c ∷ d ∷ e ∷ []) h = absurd (omega (arith, h))
rows_same (suc m) (a ∷ b ∷ c ∷ d ∷ e ∷ f ∷ []) h = absurd (omega (arith, h))
rows_same (suc m) (a ∷ b ∷ c ∷ d ∷ e ∷ f ∷ g ∷ []) h = absurd (omega (arith, h))
rows_same (suc m) (a ∷ b ∷ c ∷ d ∷ e ∷ f ∷ g ∷ i ∷ l) h =
    ap {B = List Row} (λ r. row_at (a ∷ b ∷ c ∷ d ∷ e ∷ f ∷ g ∷ i ∷ l) 0 ∷ r)
    (rows_same m l (omega (arith, h)) ∙ sym (rows_next (a ∷ b ∷ c ∷ d ∷ e ∷ f ∷ g ∷ i ∷ l) 0 m))

-- the length of a whole table
pub rows_whole : (t : List ℕ) → length t % 8 ≡ 0 → length t ≡ length t / 8 * 8
rows_whole t h = omega (arith, div-add-mod' (length t) 8)

-- the first of the rows that are left
pub unroll : (t : List ℕ) (k n : ℕ) → k < n → rows_from t k (n - k) ≡ row_at t k ∷ rows_from t (k + 1) (n - (k + 1))
unroll t k n h =
    let e : n - k ≡ suc (n - (k + 1)) = omega arith in
    rw (e, add-one k)

pub rolled_out : (t : List ℕ) (k n : ℕ) → n ≤ k → rows_from t k (n - k) ≡ []
rolled_out t k n h = let e : n - k ≡ 0 = omega arith in rw e

-- the rows after some of them
pub drop_from : (t : List ℕ) (s i m : ℕ) → drop i (rows_from t s m) ≡ rows_from t (s + i) (m - i)
drop_from t s zero m = let z : s + 0 ≡ s = omega arith in let y : m - 0 ≡ m = omega arith in rw (z, y)
drop_from t s (suc i) zero = let y : 0 - suc i ≡ 0 = omega arith in rw y
drop_from t s (suc i) (suc m) =
    let z : s + suc i ≡ suc s + i = omega arith in
    let y : suc m - suc i ≡ m - i = omega arith in
    rw (z, y) (drop_from t (suc s) i m)

-- a number from s on is s or a later one
pub here_or_later : (P : ℕ → Type 0) (s k : ℕ) → s ≤ k → P s → (suc s ≤ k → P k) → P k
here_or_later P s k l here later = go (leb (suc s) k) refl
  where
    go : (b : Bool) → leb (suc s) k ≡ b → P k
    go true h = later (leb-true (suc s) k h)
    go false h = let z : k ≡ s = omega (arith, leb-false (suc s) k h) in rw z here

-- ---- the spans of a row lie in the body
-- a span that begins at 0 where it is empty, and ends in time where it is filled
span_in : (from len own : ℕ) → (len ≡ 0 → from ≤ own) → (0 < len → from + len ≤ own) → from + len ≤ own
span_in from zero own e f = let q : from ≤ own = e refl in omega arith
span_in from (suc len) own e f = f (omega arith)

module _ {body : List ℕ} {p : Place} {r : Row} {rest : List Row} (k : RowRules body p r rest) where
  local_low : (u : Bool) → uses_name r.kind ≡ u → r.local_start ≤ r.position
  local_low true e = (k.local_start e).1
  local_low false e = omega (arith, (k.zero_fields.local e).0)

  -- within the row's own position
  pub own_prefix : r.prefix_start + r.prefix_len ≤ r.position
  own_prefix = span_in r.prefix_start r.prefix_len r.position (λ e. omega (arith, k.zero_fields.empty_prefix e))
      (λ h. (k.filled_spans.prefix h).1)

  pub own_local : r.local_start + r.local_len ≤ r.position
  own_local = span_in r.local_start r.local_len r.position (λ e. local_low (uses_name r.kind) refl)
      (λ h. (k.filled_spans.local h).1)

  pub own_value : r.value_start + r.value_len ≤ r.position
  own_value = span_in r.value_start r.value_len r.position (λ e. omega (arith, k.zero_fields.empty_value e))
      (λ h. (k.filled_spans.value h).1)

-- positions never fall
pub last_high : {body : List ℕ} {p : Place} {rows : List Row} → EachRow body p rows → p.position ≤ last_position p.position rows
last_high none = omega arith
last_high (row k t) = omega (arith, k.position_rises, last_high t)

-- each row of those that are left
module _ (body table : List ℕ) (final : ℕ) (within : final ≤ length body) where
  here : (s : ℕ) {p : Place} {rest : List Row} → RowRules body p (row_at table s) rest → get_or table (s * 8 + 7) 0 ≤ final
      → SpansIn body table s
  here s o h =
      record {
        prefix = omega (arith, own_prefix o);
        local = omega (arith, own_local o);
        value = omega (arith, own_value o);
        position = omega arith;
      }

  each_in : (m s k : ℕ) {p : Place} → EachRow body p (rows_from table s m) → last_position p.position (rows_from table s m) ≤ final → s ≤ k
      → k < s + m → SpansIn body table k
  each_in zero s k e h l u = absurd (omega arith)
  each_in (suc m) s k (row o t) h l u =
      here_or_later (SpansIn body table) s k l (here s o (omega (arith, last_high t))) (λ g. each_in m (suc s) k t h g (omega arith))

-- of a table that obeys the rules
pub spans_in : {body table : List ℕ} {final : ℕ} → TableRules body table final → (k : ℕ) → k < length table / 8 → SpansIn body table k
spans_in {body} {table} {final} t k h =
    let n = length table / 8 in
    let e : rows_of table ≡ rows_from table 0 n = rows_same n table (rows_whole table t.whole) in
    each_in body table final t.rules.within n 0 k (rw e at t.rules.each) (rw e at t.rules.ends) (omega arith) (omega arith)
