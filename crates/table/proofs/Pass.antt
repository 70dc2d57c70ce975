-- Laws of the loop over the rows, with its invariant, and of the whole test.
use Prim.Native.Nat.{ℕ, zero, suc, ◌+◌, ◌-◌, ◌/◌, ◌≤◌, ◌<◌}
use mathlib.Core.Path.{◌≡◌, refl, sym, ap, ◌∙◌}
use mathlib.Core.Bool.{Bool, true, false}
use mathlib.Core.List.{List, ◌∷◌}
use native.Mathlib.Omega.{arith}
use borrow.Author.Rules.{rules}
use lib.ListN.{length, replicate}
use Rattle.std.proofs.lemmas.List.{length-replicate}
use Rattle.lists.proofs.Tests.{false_true}
use Rattle.lists.specs.Decide.{is_yes, Says}
use Rattle.lists.proofs.Decide.{says_yes, says_no, says_same, says_not, says_is}
use Rattle.utf8.specs.Table.{is_utf8}
use Rattle.table.specs.Row.{Row, rows_of}
use Rattle.table.specs.Rules.{Place, at_first, after, RowRules, none, row, TableRules}
use Rattle.table.specs.Flat.{row_at, rows_from}
use Rattle.table.specs.Pass.{RowIn, Rest, Small}
use Rattle.table.specs.Test.{dec_table}
use Rattle.table.proofs.Test.{first}
use Rattle.table.proofs.KindLaws.{count_low}
use Rattle.table.proofs.Flat.{unroll, rolled_out, length_rows, last_high, rows_same, rows_whole}

-- ---- a row, before others
-- which rows come after it does not matter, but for their number
other_rest : {body : List ℕ} {p : Place} {r : Row} (a b : List Row) → length a ≡ length b → RowRules body p r a → RowRules body p r b
other_rest a b e o =
    record {
      known_kind = o.known_kind;
      zero_fields = o.zero_fields;
      position_rises = o.position_rises;
      filled_spans = o.filled_spans;
      local_start = o.local_start;
      tag_begins = o.tag_begins;
      ending = o.ending;
      tag_order = o.tag_order;
      needs_open = o.needs_open;
      after_root = o.after_root;
      error_last = λ k. sym e ∙ o.error_last k;
      open_limit = o.open_limit;
    }

lengths : (r : Row) (t : List ℕ) (k m : ℕ) → length (replicate m r) ≡ length (rows_from t k m)
lengths r t k m = length-replicate m r ∙ sym (length_rows t k m)

module _ {body : List ℕ} {p : Place} {r : Row} (t : List ℕ) (k m : ℕ) where
  before : RowRules body p r (replicate m r) → RowRules body p r (rows_from t k m)
  before = other_rest (replicate m r) (rows_from t k m) (lengths r t k m)

  alone : RowRules body p r (rows_from t k m) → RowRules body p r (replicate m r)
  alone = other_rest (rows_from t k m) (replicate m r) (sym (lengths r t k m))

-- ---- the rows that are left obey the rules where all do
pub record Walking (body : List ℕ) (last : ℕ) (t : List ℕ) (n k : ℕ) (p : Place) : Type 0 where
  pub within : k ≤ n
  pub low : p.position ≤ last
  pub few : p.nesting ≤ k
  pub on : Rest body last at_first (rows_from t 0 n) → Rest body last p (rows_from t k (n - k))
  pub back : Rest body last p (rows_from t k (n - k)) → Rest body last at_first (rows_from t 0 n)

pub walk_start : (body : List ℕ) (last : ℕ) (t : List ℕ) (n : ℕ) {p : Place} → p ≡ at_first → Walking body last t n 0 p
walk_start body last t n e =
    let z : n - 0 ≡ n = omega arith in
    rw e (record { within = omega arith; low = omega arith; few = omega arith; on = λ r. rw z r; back = λ r. rw z at r })

module _ {body : List ℕ} {last : ℕ} {t : List ℕ} {n k : ℕ} {p : Place} (w : Walking body last t n k p) where
  module _ (h : k < n) {r : Row} (e : r ≡ row_at t k) where
    head : Rest body last p (rows_from t k (n - k)) → Rest body last p (row_at t k ∷ rows_from t (k + 1) (n - (k + 1)))
    head x = rw (unroll t k n h) at x

    pub walk_stop : (RowIn body last p r (n - (k + 1)) → ⊥) → Says (Rest body last at_first (rows_from t 0 n)) false
    walk_stop f = says_no (λ a. f (split (head (w.on a))))
      where
        split : Rest body last p (row_at t k ∷ rows_from t (k + 1) (n - (k + 1))) → RowIn body last p r (n - (k + 1))
        split x =
            rw e
            (record { rules = alone t (k + 1) (n - (k + 1)) (first x.each).0; ends = omega (arith, last_high (first x.each).1, x.ends) })

    pub walk_turn : {q : Place} → RowIn body last p r (n - (k + 1)) × (q ≡ after p r) → Walking body last t n (k + 1) q
    walk_turn {q} i =
        let z : q ≡ after p (row_at t k) = i.1 ∙ ap (after p) e in
        let x : RowIn body last p (row_at t k) (n - (k + 1)) = rw e at i.0 in
        record {
          within = omega arith;
          low = rw z x.ends;
          few = rw z (omega (arith, count_low p.nesting (row_at t k).kind, w.few));
          on = λ a. rw z (let y = head (w.on a) in record { each = (first y.each).1; ends = y.ends });
          back =
              λ y. w.back (rw (unroll t k n h) (let o = rw z at y in
              record { each = row (before t (k + 1) (n - (k + 1)) x.rules) o.each; ends = o.ends }));
        }

  pub walk_end : n ≤ k → Says (Rest body last at_first (rows_from t 0 n)) true
  walk_end h = says_yes (w.back (rw (rolled_out t k n h) (record { each = none; ends = w.low })))

pub ruleset walk_laws = (rules, walk_start, walk_stop, walk_turn, walk_end)

-- ---- the whole test
positive : (n : ℕ) → (n ≡ 0 → ⊥) → 0 < n
positive zero f = absurd (f refl)
positive (suc n) f = omega arith

module _ (body t : List ℕ) (final : ℕ) where
  small : TableRules body t final → Small body t final
  small r =
      record {
        whole = r.whole;
        few_rows =
            omega (
              arith,
              ap length (rows_same (length t / 8) t (rows_whole t r.whole)),
              length_rows t 0 (length t / 8),
              r.rules.few_rows,
            );
        few_bytes = r.rules.few_bytes;
        within = r.rules.within;
      }

  module _ {a : Bool} (s : Says (Small body t final) a) where
    pub obeys_large : a ≡ false → a ≡ is_yes (dec_table body t final)
    obeys_large n = says_is (dec_table body t final) (rw n (says_no (λ r. says_not s n (small r))))

    module _ (y : a ≡ true) where
      rows_are : rows_of t ≡ rows_from t 0 (length t / 8)
      rows_are = rows_same (length t / 8) t (rows_whole t (s.sound y).whole)

      rows_many : length (rows_of t) ≡ length t / 8
      rows_many = ap length rows_are ∙ length_rows t 0 (length t / 8)

      whole : (0 < length t / 8 → is_utf8 body ≡ true) → Rest body final at_first (rows_from t 0 (length t / 8)) → TableRules body t final
      whole u r =
          record {
            whole = (s.sound y).whole;
            rules =
                record {
                  few_rows = omega (arith, rows_many, (s.sound y).few_rows);
                  few_bytes = (s.sound y).few_bytes;
                  utf8 = λ h. u (omega (arith, rows_many));
                  ends = rw rows_are r.ends;
                  within = (s.sound y).within;
                  each = rw rows_are r.each;
                };
          }

      pub obeys_empty : length t ≡ 0 → true ≡ is_yes (dec_table body t final)
      obeys_empty e =
          let z : length t / 8 ≡ 0 = omega (arith, e) in
          says_is (dec_table body t final)
          (says_yes (whole (λ h. absurd (omega arith)) (rw z (record { each = none; ends = omega arith }))))

      pub obeys_other : {u : Bool} → (length t ≡ 0 → ⊥) → u ≡ is_utf8 body → u ≡ false → u ≡ is_yes (dec_table body t final)
      obeys_other f g n =
          says_is (dec_table body t final)
          (rw n (says_no (λ r. false_true
          (sym n ∙ g ∙ r.rules.utf8 (omega (arith, rows_many, rows_whole t r.whole, positive (length t) f))))))

      pub obeys_each : {u r : Bool} → u ≡ is_utf8 body → u ≡ true → Says (Rest body final at_first (rows_from t 0 (length t / 8))) r
          → r ≡ is_yes (dec_table body t final)
      obeys_each g v x =
          says_is (dec_table body t final)
          (says_same (λ q. whole (λ h. sym g ∙ v) q)
          (λ q. record { each = rw (← rows_are) q.rules.each; ends = rw (← rows_are) q.rules.ends }) x)

pub ruleset obeys_laws = (rules, obeys_large, obeys_empty, obeys_other, obeys_each)
