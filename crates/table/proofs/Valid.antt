-- What the one fact of a table that obeys the rules says of it, by row numbers.
use Prim.Native.Nat.{ℕ, zero, suc, ◌+◌, ◌*◌, ◌/◌, ◌≤◌, ◌<◌}
use mathlib.Core.Path.{◌≡◌, refl, sym, ◌∙◌}
use mathlib.Core.Bool.{Bool, true, false}
use mathlib.Core.List.{List, []}
use mathlib.Core.HLevel.{⊥_prop}
use mathlib.Core.Logic.{∥∥₁_elim}
use native.Mathlib.Omega.{arith}
use lib.ListN.{length, get_or}
use base.Stored.{Coded-set}
use Rattle.std.specs.Coded.{coded_ℕ, le_prop}
use Rattle.lists.specs.Decide.{is_yes}
use Rattle.lists.proofs.Decide.{yes_of}
use Rattle.lists.proofs.Tests.{false_true}
use Rattle.table.specs.Row.{Row, rows_of}
use Rattle.table.specs.Rules.{Place, RowRules, EachRow, row, at_first, TableRules}
use Rattle.table.specs.Kinds.{IsKind}
use Rattle.table.specs.Test.{dec_row, dec_each, dec_table}
use Rattle.table.specs.Flat.{row_at, rows_from, SpansIn}
use Rattle.table.specs.Rows.{InTable, Readable, RulesAt, Walkable, Obeys}
use Rattle.table.proofs.Flat.{rows_same, rows_whole, length_rows, here_or_later, spans_in}

-- ---- of m rows from row s on
module _ (body t : List ℕ) where
  pub rules_from : (m s k : ℕ) {p : Place} → EachRow body p (rows_from t s m) → s ≤ k → k < s + m → RulesAt body t k
  rules_from zero s k e l u = absurd (omega arith)
  rules_from (suc m) s k {p} (row o e) l u =
      here_or_later (RulesAt body t) s k l (record { place = p; rest = rows_from t (suc s) m; rules = o })
      (λ h. rules_from m (suc s) k e h (omega arith))

  -- a token error is the last
  pub error_from : (m s k : ℕ) {p : Place} → EachRow body p (rows_from t s m) → s ≤ k → k < s + m → get_or t (k * 8 + 0) 0 ≡ 8
      → s + m ≡ k + 1
  error_from zero s k e l u = absurd (omega arith)
  error_from (suc m) s k (row o e) l u =
      here_or_later (λ k. get_or t (k * 8 + 0) 0 ≡ 8 → s + suc m ≡ k + 1) s k l
      (λ q. omega (arith, o.error_last q, length_rows t (suc s) m))
      (λ h q. omega (arith, error_from m (suc s) k e h (omega arith) q))

-- ---- what the test's answer says, for who calls it
module _ (body t : List ℕ) (final : ℕ) {r : Bool} (e : r ≡ is_yes (dec_table body t final)) where
  pub obeyed : r ≡ true → TableRules body t final
  obeyed y = yes_of (dec_table body t final) (sym y ∙ e)

-- ---- the table
module _ {body t : List ℕ} {final : ℕ} (o : Obeys body t final) where
  pub table_rules : TableRules body t final
  table_rules = yes_of (dec_table body t final) (sym o.is)

  -- its rows can be walked
  pub walks : Walkable body t
  walks =
      record {
        whole = table_rules.whole;
        each = table_rules.rules.each;
        readable = record { each = λ k h. spans_in table_rules k (omega arith) };
      }

  pub few_bytes : length body ≤ 65536
  few_bytes = table_rules.rules.few_bytes

  pub end_within : final ≤ length body
  end_within = table_rules.rules.within

-- as the types of rows keep it
pub obeys_walks : {body t : List ℕ} {final : ℕ} → Obeys body t final → ∥ Walkable body t ∥₁
obeys_walks o = ∣ walks o ∣₁

-- ---- rows that can be walked: of what the type keeps all is known, since the rules of rows can be decided
pub walks_readable : {body t : List ℕ} → ∥ Walkable body t ∥₁ → Readable body t
walks_readable h =
    record {
      each = λ k i. record {
        prefix = ∥∥₁_elim h le_prop (λ w. (w.readable.each k i).prefix);
        local = ∥∥₁_elim h le_prop (λ w. (w.readable.each k i).local);
        value = ∥∥₁_elim h le_prop (λ w. (w.readable.each k i).value);
        position = ∥∥₁_elim h le_prop (λ w. (w.readable.each k i).position);
      };
    }

pub walkable_of : {body t : List ℕ} → ∥ Walkable body t ∥₁ → Walkable body t
walkable_of {body} {t} h =
    record {
      whole = ∥∥₁_elim h (Coded-set coded_ℕ _ _) (λ w. w.whole);
      each = go (dec_each body at_first (rows_of t));
      readable = walks_readable h;
    }
  where
    go : Dec (EachRow body at_first (rows_of t)) → EachRow body at_first (rows_of t)
    go (yes e) = e
    go (no n) = absurd (∥∥₁_elim h ⊥_prop (λ w. n w.each))

-- the rules of a row, where some place has them: the place that asks the least has them then, in a start tag or outside
abbrev weak : Bool → Place
weak b = record { position = 0; in_tag = b; nesting = 1; rooted = false }

weaker : (body : List ℕ) (p : Place) (r : Row) (rest : List Row) → RowRules body p r rest → RowRules body (weak p.in_tag) r []
weaker body p r rest o =
    record {
      known_kind = o.known_kind;
      zero_fields = o.zero_fields;
      position_rises = omega arith;
      filled_spans = record {
        prefix = λ h. (omega arith, (o.filled_spans.prefix h).1);
        local = λ h. (omega arith, (o.filled_spans.local h).1);
        value = λ h. (omega arith, (o.filled_spans.value h).1);
      };
      local_start = λ e. (omega arith, (o.local_start e).1);
      tag_begins = λ e. let x = o.tag_begins e in record { is = x.is; before = x.before; late = omega arith; prefix = x.prefix };
      ending = o.ending;
      tag_order = record { inside = o.tag_order.inside; outside = o.tag_order.outside };
      needs_open = λ e. omega arith;
      after_root = λ e. false_true e;
      error_last = λ e. refl;
      open_limit = λ e. omega arith;
    }

pub rules_of : {body t : List ℕ} {k : ℕ} → ∥ RulesAt body t k ∥₁ → RulesAt body t k
rules_of {body} {t} {k} h = go (dec_row body (weak true) (row_at t k) []) (dec_row body (weak false) (row_at t k) [])
  where
    go : Dec (RowRules body (weak true) (row_at t k) []) → Dec (RowRules body (weak false) (row_at t k) []) → RulesAt body t k
    go (yes r) d = record { place = weak true; rest = []; rules = r }
    go (no n) (yes r) = record { place = weak false; rest = []; rules = r }
    go (no n) (no m) = absurd (∥∥₁_elim h ⊥_prop (λ x. other x.place.in_tag (weaker body x.place (row_at t k) x.rest x.rules)))
      where
        other : (b : Bool) → RowRules body (weak b) (row_at t k) [] → ⊥
        other true r = n r
        other false r = m r

-- the spans of each row lie in the body
pub spans_within : {body t : List ℕ} {k : ℕ} → Readable body t → InTable t k → SpansIn body t k
spans_within {k = k} r i = r.each k i.row

module _ {body t : List ℕ} (w : Walkable body t) where
  pub all_rows : rows_of t ≡ rows_from t 0 (length t / 8)
  all_rows = rows_same (length t / 8) t (rows_whole t w.whole)

  pub each_row : EachRow body at_first (rows_from t 0 (length t / 8))
  each_row = rw all_rows at w.each

  module _ {k : ℕ} (i : InTable t k) where
    pub rules_at : RulesAt body t k
    rules_at = rules_from body t (length t / 8) 0 k each_row (omega arith) (omega (arith, i.row))

    -- it has a kind
    pub kind_known : IsKind (get_or t (k * 8 + 0) 0)
    kind_known = rules_at.rules.known_kind

    -- a token error is the last row
    pub error_last : get_or t (k * 8 + 0) 0 ≡ 8 → length t / 8 ≡ k + 1
    error_last q = omega (arith, error_from body t (length t / 8) 0 k each_row (omega arith) (omega (arith, i.row)) q)

-- there are few of them in a table that obeys the rules
pub few_rows : {body t : List ℕ} {final : ℕ} → Obeys body t final → length t / 8 ≤ 8192
few_rows {body} {t} o =
    omega (arith, rw (all_rows (walks o), length_rows t 0 (length t / 8)) at (table_rules o).rules.few_rows)
