-- Laws of the views.
use Prim.Native.Nat.{ℕ, zero, suc, ◌+◌, ◌-◌, ◌*◌, ◌/◌, ◌≤◌, ◌<◌}
use mathlib.Core.Path.{◌≡◌, refl, sym, ◌∙◌, ap}
use mathlib.Core.Bool.{Bool, true, false}
use mathlib.Core.List.{List, ◌∷◌}
use native.Mathlib.Omega.{arith}
use borrow.Author.Tests.{ltb-true, ltb-false}
use lib.Dec.{ltb}
use lib.ListN.{length, get_or, length-append}
use Rattle.std.specs.Prelude.{Ok, Err, Some, None}
use Rattle.std.proofs.Math.Option as math
use Rattle.std.proofs.Math.Bridge.{le_prop}
use Rattle.std.proofs.Props.{props}
use Rattle.refusal.specs.declared.Refusal.{Refusal}
use Rattle.table.specs.Row.{Name, Tok, tok_as, toks_of, rows_of}
use Rattle.table.proofs.Classes.{Kind, of_start, of_attr, of_gt, of_close, of_slash, of_matter, of_error, kind_of_lem}
use Rattle.lists.proofs.Tests.{false_true}
use Rattle.table.specs.Rules.{Place, at_first, EachRow, after}
use Rattle.table.specs.Flat.{row_at, rows_from}
use Rattle.table.specs.Rows.{Obeys, InTable, name_at, value_at, tok_at}
use Rattle.table.specs.declared.rows.ValidTable.{ValidTable}
use Rattle.table.proofs.Test.{first}
use Rattle.table.proofs.Flat.{length_rows}
use Rattle.table.proofs.Valid.{walks, all_rows, each_row, end_within, few_bytes, few_rows, rules_at}
use Rattle.xml.specs.declared.Cause.{Cause}
use Rattle.xml.specs.declared.DrainError.{DrainError}
use Rattle.xml.specs.Drain.{walked, cause_place}
use Rattle.xml.specs.Passed.{FirstFault, at_row, at_the_end}
use Rattle.xml.proofs.First.{walk_ill_formed_is}
use Rattle.document.specs.View.{position_at, failure_of, is_error, error_at, view}
use Rattle.decode.specs.declared.view.View.{View}
use Rattle.decode.specs.Seen.{Sees}
use Rattle.decode.specs.View.{whole_of, ViewIs}
use Rattle.decode.proofs.Walking.{length_toks}
use Rattle.decode.proofs.Known.{take_rows, sees, fresh}

-- ---- a view is what its fields are, whatever proofs stand beside them
sees_prop : (body t : List ℕ) (n : ℕ) → IsProp (Sees body t n)
sees_prop body t n = hlevel props

pub same_view : (v : View) {s : v.count * 8 ≤ length v.table.rows.now} {r : Sees v.table.body.now v.table.rows.now v.count}
    {w : v.ends ≤ length v.table.body.now} {m : length v.table.body.now ≤ 65536} {f : v.count ≤ 8192}
    → record {
      table = v.table;
      count = v.count;
      failure = v.failure;
      ill_formed = v.ill_formed;
      ends = v.ends;
      seen = s;
      sees = r;
      within = w;
      small = m;
      few = f;
    } ≡ v
same_view v {s} {r} {w} {m} {f} =
    let same = sees_prop v.table.body.now v.table.rows.now v.count r v.sees in
    rw (le_prop s v.seen, same, le_prop w v.within, le_prop m v.small, le_prop f v.few)

-- ---- the position of a row, or the final one
position_row : (t : List ℕ) (final s k m : ℕ) → k < m → position_at final (rows_from t s m) k ≡ get_or t ((s + k) * 8 + 7) 0
position_row t final s k zero h = absurd (omega arith)
position_row t final s zero (suc m) h = let z : s + 0 ≡ s = omega arith in rw z
position_row t final s (suc k) (suc m) h =
    let z : s + suc k ≡ suc s + k = omega arith in rw z (position_row t final (suc s) k m (omega arith))

position_past : (t : List ℕ) (final s k m : ℕ) → m ≤ k → position_at final (rows_from t s m) k ≡ final
position_past t final s k zero h = refl
position_past t final s zero (suc m) h = absurd (omega arith)
position_past t final s (suc k) (suc m) h = position_past t final (suc s) k m (omega arith)

module _ {body t : List ℕ} {final : ℕ} (o : Obeys body t final) (k : ℕ) where
  pub position_in : {x : ℕ} → k < length t / 8 → x ≡ get_or t (k * 8 + 7) 0 → x ≡ position_at final (rows_of t) k
  position_in h e =
      let z : 0 + k ≡ k = omega arith in
      rw (all_rows (walks o)) (e ∙ sym (rw z at (position_row t final 0 k (length t / 8) h)))

  pub position_out : length t / 8 ≤ k → final ≡ position_at final (rows_of t) k
  position_out h = rw (all_rows (walks o)) (sym (position_past t final 0 k (length t / 8) h))

  pub position_low : position_at final (rows_of t) k ≤ length body
  position_low = go (ltb k (length t / 8)) refl
    where
      go : (b : Bool) → ltb k (length t / 8) ≡ b → position_at final (rows_of t) k ≤ length body
      go true q =
          let h = ltb-true k (length t / 8) q in
          rw (← position_in h refl) ((walks o).readable.each k (omega arith)).position
      go false q = rw (← position_out (ltb-false k (length t / 8) q)) (end_within o)

-- ---- what a token error in the last row says of all
bad_number : {m : Name} {v : List ℕ} {kind : ℕ} {u : Tok} → Kind m v kind u → is_error u ≡ true → 1 ≤ kind → kind ≤ 8 → kind ≡ 8
bad_number of_start e l h = false_true e
bad_number of_attr e l h = false_true e
bad_number of_gt e l h = false_true e
bad_number of_close e l h = false_true e
bad_number of_slash e l h = false_true e
bad_number (of_matter w) e l h = false_true e
bad_number (of_error w) e l h = w.eight l h

bad_is : (body t : List ℕ) (k : ℕ) → is_error (tok_at body t k) ≡ true → 1 ≤ get_or t (k * 8 + 0) 0 → get_or t (k * 8 + 0) 0 ≤ 8
    → get_or t (k * 8 + 0) 0 ≡ 8
bad_is body t k = bad_number (kind_of_lem (get_or t (k * 8 + 0) 0) (name_at body t k) (value_at body t k))

module _ (body t : List ℕ) where
  -- of m + 1 rows none but the last is one
  error_early : {p : Place} (s m : ℕ) → EachRow body p (rows_from t s (suc (suc m))) → is_error (tok_at body t s) ≡ false
  error_early {p} s m e = go (is_error (tok_at body t s)) refl
    where
      go : (u : Bool) → is_error (tok_at body t s) ≡ u → u ≡ false
      go true q =
          let o = (first e).0 in
          let z = o.error_last (bad_is body t s q o.known_kind.0 o.known_kind.1) in
          absurd (omega (arith, length_rows t (suc s) (suc m)))
      go false q = refl

  error_is : {p : Place} (s m : ℕ) → EachRow body p (rows_from t s (suc m)) → is_error (tok_at body t (s + m)) ≡ true
      → error_at (toks_of body (rows_from t s (suc m))) ≡ math.some m
  unfolding error_at
  error_is {p = p} s zero e q = let z : s + 0 ≡ s = omega arith in rw (rw z at q)
  error_is {p = p} s (suc m) e q =
      let z : s + suc m ≡ suc s + m = omega arith in
      rw (error_early s m e, error_is {p = after p (row_at t s)} (suc s) m (first e).1 (rw z at q))

  error_none : {p : Place} (s m : ℕ) → EachRow body p (rows_from t s (suc m)) → is_error (tok_at body t (s + m)) ≡ false
      → error_at (toks_of body (rows_from t s (suc m))) ≡ math.none
  unfolding error_at
  error_none {p = p} s zero e q = let z : s + 0 ≡ s = omega arith in rw (rw z at q)
  error_none {p = p} s (suc m) e q =
      let z : s + suc m ≡ suc s + m = omega arith in
      rw (error_early s m e, error_none {p = after p (row_at t s)} (suc s) m (first e).1 (rw z at q))

-- ---- the views of a table
module _ (v : ValidTable) where
  abbrev body : List ℕ
  body = v.body.now

  abbrev t : List ℕ
  t = v.rows.now

  abbrev n : ℕ
  n = length t / 8

  -- nothing stops the reader
  pub whole_seen : {x : ℕ} → x ≡ n → x * 8 ≤ length t
  whole_seen e = omega (arith, e)

  -- but for the last row
  pub last_seen : {x : ℕ} → x ≡ n → (x - 1) * 8 ≤ length t
  last_seen e = omega (arith, e)

  pub whole_is : {r : View} → r.table.body.now ≡ body → r.table.rows.now ≡ t → r.count ≡ n → r.failure ≡ None → r.ill_formed ≡ false
      → r.ends ≡ v.end
      → ViewIs v (whole_of v) r
  whole_is g a b c d e =
      record {
        same = rw (a, b, c, d, e, all_rows (walks v.obeys));
        body = g;
        rows = a;
        fresh = rw (g, a, b) (fresh (walks v.obeys) n (omega arith));
      }

  -- the facts of a view of the first k rows
  module _ {b u : List ℕ} (f : b ≡ body) (g : u ≡ t) (k : ℕ) (h : k * 8 ≤ length t) where
    pub seen_of : k * 8 ≤ length u
    seen_of = rw g h

    pub sees_of : Sees b u k
    sees_of = rw (f, g) (sees (walks v.obeys) k h)

    pub within_of : {p : ℕ} → p ≤ length body → p ≤ length b
    within_of q = rw f q

    pub small_of : length b ≤ 65536
    small_of = rw f (few_bytes v.obeys)

    pub few_of : k ≤ 8192
    few_of = omega (arith, h, few_rows v.obeys)

  module _ {k : ℕ} {c : Cause} (e : Err (DrainError.IllFormed k c) ≡ walked (toks_of body (rows_of t))) where
    first_in : k ≤ n
    first_in = go ((walk_ill_formed_is (toks_of body (rows_of t)) k c).0 (sym e))
      where
        size : length (toks_of body (rows_of t)) ≡ n
        size = length_toks body (rows_of t) ∙ rw (all_rows (walks v.obeys)) (length_rows t 0 n)

        go : FirstFault (toks_of body (rows_of t)) k c → k ≤ n
        go (at_row a x b s l f g) = omega (arith, size, ap length s, length-append a (x ∷ b))
        go (at_the_end l d f g) = omega (arith, size)

    pub ill_seen : k * 8 ≤ length t
    ill_seen = omega (arith, first_in)

    pub view_ill : {x : ℕ} {f : Refusal} {p : ℕ} → x ≡ cause_place body (rows_of t) k c → f ≡ failure_of x c
        → p ≡ position_at v.end (rows_of t) k
        → {r : View} → r.table.body.now ≡ body → r.table.rows.now ≡ t → r.count ≡ k → r.failure ≡ Some f → r.ill_formed ≡ true → r.ends ≡ p
        → ViewIs v (view true body (rows_of t) v.end) r
    unfolding view
    view_ill a i j {r} g h l m o q =
        record {
          same = rw (← e, h, l, m, o, q, i, a, j, all_rows (walks v.obeys), take_rows t 0 k n first_in);
          body = g;
          rows = h;
          fresh = rw (g, h, l) (fresh (walks v.obeys) k ill_seen);
        }

  pub view_passes : Ok tt ≡ walked (toks_of body (rows_of t)) → {r : View} → ViewIs v (whole_of v) r
      → ViewIs v (view true body (rows_of t) v.end) r
  unfolding view
  view_passes e x = rw (← e) x

  pub view_table : Err DrainError.Table ≡ walked (toks_of body (rows_of t)) → {r : View} → ViewIs v (whole_of v) r
      → ViewIs v (view true body (rows_of t) v.end) r
  unfolding view
  view_table e x = rw (← e) x

  -- lenient: the last row alone can be a token error
  pub lenient_none : n ≡ 0 → {r : View} → ViewIs v (whole_of v) r → ViewIs v (view false body (rows_of t) v.end) r
  unfolding view error_at
  lenient_none e x = let z : rows_of t ≡ rows_from t 0 0 = all_rows (walks v.obeys) ∙ ap (rows_from t 0) e in rw z (rw z at x)

  module _ (h : (n ≡ 0 → ⊥)) where
    count : n ≡ suc (n - 1)
    count = some_rows n h
      where
        some_rows : (m : ℕ) → (m ≡ 0 → ⊥) → m ≡ suc (m - 1)
        some_rows zero z = absurd (z refl)
        some_rows (suc m) z = omega arith

    rows_are : rows_of t ≡ rows_from t 0 (suc (n - 1))
    rows_are = all_rows (walks v.obeys) ∙ ap (rows_from t 0) count

    each : EachRow body at_first (rows_from t 0 (suc (n - 1)))
    each = rw count at (each_row (walks v.obeys))

    pub last_in : InTable t (n - 1)
    last_in = record { row = omega (arith, count) }

    pub lenient_error : 8 ≡ get_or t ((n - 1) * 8 + 0) 0 → {r : View} → r.table.body.now ≡ body → r.table.rows.now ≡ t → r.count ≡ n - 1
        → r.failure ≡ Some Refusal.TokenError
        → r.ill_formed ≡ false
        → r.ends ≡ v.end
        → ViewIs v (view false body (rows_of t) v.end) r
    unfolding view tok_as
    lenient_error q g a b c d e =
        let m = n - 1 in
        let z : 0 + m ≡ m = omega arith in
        let x = error_is body t 0 m each (rw (z, ← q)) in
        record {
          same = rw (a, b, c, d, e, rows_are, x, take_rows t 0 m (suc m) (omega arith));
          body = g;
          rows = a;
          fresh = rw (g, a, b) (fresh (walks v.obeys) m (omega arith));
        }

    pub lenient_whole : {kind : ℕ} → kind ≡ get_or t ((n - 1) * 8 + 0) 0 → (kind ≡ 8 → ⊥) → {r : View} → ViewIs v (whole_of v) r
        → ViewIs v (view false body (rows_of t) v.end) r
    unfolding view
    lenient_whole {kind} f q x =
        let m = n - 1 in
        let z : 0 + m ≡ m = omega arith in
        let y = error_none body t 0 m each (rw z (not_error (is_error (tok_at body t m)) refl)) in
        rw (rows_are, y) (rw rows_are at x)
      where
        not_error : (u : Bool) → is_error (tok_at body t (n - 1)) ≡ u → u ≡ false
        not_error false e = refl
        not_error true e =
            let r = (rules_at (walks v.obeys) last_in).rules.known_kind in
            absurd (q (f ∙ bad_is body t (n - 1) e r.0 r.1))
