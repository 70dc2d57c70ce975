-- 01, "Numbers": "No other number, and no number where its condition does not hold." What stands here is common to the readings: the
-- conditions of 1, 2, 3 and 4 in their order, what holds where none of them does, and the condition of 9. Every law is for every input.
use Prim.Native.Nat.{◌≤◌, ◌<◌}
use mathlib.Core.Path.{◌≡◌, refl, ◌∙◌}
use mathlib.Core.Bool.{Bool, true, false}
use mathlib.Core.Option.{Option, none, some}
use borrow.Author.Tests.{leb-true, leb-false}
use Rattle.refusal.specs.declared.Refusal.{Refusal}
use Rattle.refusal.specs.Answer.{Answer, gives, refuses, onward}
use Rattle.table.specs.Row.{rows_of, toks_of}
use Rattle.table.specs.Rules.{TableRules}
use Rattle.table.specs.Test.{dec_table}
use Rattle.document.specs.View.{view}
use Rattle.document.specs.Scope.{Child, root_of}
use Rattle.sheet.specs.declared.ShapeDepth.{ShapeDepth}
use Rattle.sheet.specs.declared.Settings.{Settings}
use Rattle.sheet.specs.Settings.{is_strict, too_deep}
use Rattle.readings.specs.Call.{Upload}
use Rattle.readings.specs.Opening.{with_table, present, with_depth, Opened, rooted, opened, Asked, asked}
use Rattle.readings.proofs.Conditions.Answers.{Is, is_given_lem, is_refused, onward_is}

module _ (u : Upload) where
  -- ---- 1 and 4
  -- "1 table": it does not obey the rules
  abbrev pub TableBroken : Type 0
  TableBroken = TableRules u.body u.rows u.end → ⊥

  -- "4 no root (`root_element` fails)": in what the reading sees of the table
  abbrev pub NoRootSeen : Bool → Type 0
  NoRootSeen strict = root_of (toks_of u.body (view strict u.body (rows_of u.rows) u.end).rows) ≡ none

  -- "Scalar. 1, 4": the refusals of a body that is opened without a sheet
  pub data OpenedRefused (strict : Bool) : Refusal → Type 0 where
    broken_table : TableBroken → OpenedRefused strict Refusal.Table
    no_root : TableRules u.body u.rows u.end → NoRootSeen strict → OpenedRefused strict Refusal.NoRoot

  -- where neither holds: what is read
  pub record OpenedAs (strict : Bool) (o : Opened) : Type 0 where
    pub rules : TableRules u.body u.rows u.end
    pub seen : o.seen ≡ view strict u.body (rows_of u.rows) u.end
    pub root : root_of (toks_of u.body o.seen.rows) ≡ some o.root

  -- a table that obeys the rules, or not
  pub obeyed : {A : Type 0} (a : Answer A) (d : Dec (TableRules u.body u.rows u.end)) → TableRules u.body u.rows u.end
      → with_table d a ≡ a
  obeyed a (yes rules) t = refl
  obeyed a (no broken) t = absurd (broken t)

  pub not_obeyed : {A : Type 0} (a : Answer A) (d : Dec (TableRules u.body u.rows u.end)) → TableBroken
      → with_table d a ≡ refuses Refusal.Table
  not_obeyed a (yes rules) n = absurd (n rules)
  not_obeyed a (no broken) n = refl

  given_rooted : (strict : Bool) {o : Opened} → OpenedAs strict o
      → rooted u.body (view strict u.body (rows_of u.rows) u.end) ≡ gives o
  given_rooted strict {o} w = rw (← w.seen, w.root)

  rooted_is : (strict : Bool) → TableRules u.body u.rows u.end
      → Is (OpenedAs strict) (OpenedRefused strict) (rooted u.body (view strict u.body (rows_of u.rows) u.end))
  rooted_is strict t = go (root_of (toks_of u.body (view strict u.body (rows_of u.rows) u.end).rows)) refl
    where
      go : (c : Option Child) → root_of (toks_of u.body (view strict u.body (rows_of u.rows) u.end).rows) ≡ c
          → Is (OpenedAs strict) (OpenedRefused strict)
          (onward (present Refusal.NoRoot c)
          (λ (c : Child). gives (record { seen = view strict u.body (rows_of u.rows) u.end; root = c })))
      go none e = is_refused (no_root t e)
      go (some c) e = is_given_lem (record { rules = t; seen = refl; root = e })

  pub opened_is : (strict : Bool) → Is (OpenedAs strict) (OpenedRefused strict) (opened strict u)
  unfolding opened
  opened_is strict = go (dec_table u.body u.rows u.end)
    where
      go : (d : Dec (TableRules u.body u.rows u.end))
          → Is (OpenedAs strict) (OpenedRefused strict) (with_table d (rooted u.body (view strict u.body (rows_of u.rows) u.end)))
      go (yes rules) = rooted_is strict rules
      go (no broken) = is_refused (broken_table broken)

  -- and where its condition holds, it is refused so
  pub refused_opened : (strict : Bool) {r : Refusal} → OpenedRefused strict r → opened strict u ≡ refuses r
  unfolding opened
  refused_opened strict (broken_table n) = not_obeyed _ (dec_table u.body u.rows u.end) n
  refused_opened strict (no_root t n) = obeyed _ (dec_table u.body u.rows u.end) t ∙ rw n

  pub given_opened : (strict : Bool) {o : Opened} → OpenedAs strict o → opened strict u ≡ gives o
  unfolding opened
  given_opened strict w = obeyed _ (dec_table u.body u.rows u.end) w.rules ∙ given_rooted strict w

  -- ---- 1, 2, 3 and 4, of a reading with a sheet; in that order, so that each is met only where those before it are not
  module _ {S : Type 0} (sheet : Option S) (settings : Settings) (depth : ShapeDepth) where
    pub data AskedRefused : Refusal → Type 0 where
      -- "1 table"
      by_table : TableBroken → AskedRefused Refusal.Table
      -- "2 sheet"
      by_sheet : TableRules u.body u.rows u.end → sheet ≡ none → AskedRefused Refusal.Sheet
      -- "3 depth at or above the maximum"
      by_depth : {s : S} → TableRules u.body u.rows u.end → sheet ≡ some s → settings.max_depth ≤ depth.0
          → AskedRefused Refusal.Depth
      -- "4 no root"
      by_root : {s : S} → TableRules u.body u.rows u.end → sheet ≡ some s → depth.0 < settings.max_depth
          → NoRootSeen (is_strict settings depth) → AskedRefused Refusal.NoRoot

    -- where none of them holds: the sheet says something, the depth is under the maximum, and there is a root
    pub record AskedAs (a : Asked S) : Type 0 where
      pub says : sheet ≡ some a.sheet
      pub below : depth.0 < settings.max_depth
      pub begun : OpenedAs (is_strict settings depth) a.opened

    abbrev with_root : S → Answer (Asked S)
    with_root s = onward (rooted u.body (view (is_strict settings depth) u.body (rows_of u.rows) u.end))
        (λ (o : Opened). gives (record { sheet = s; opened = o }))

    abbrev with_sheet : Option S → Answer (Asked S)
    with_sheet o = onward (present Refusal.Sheet o) (λ (s : S). with_depth (too_deep settings depth) (with_root s))

    pub asked_is : Is AskedAs AskedRefused (asked u sheet settings depth)
    unfolding asked
    asked_is = on_table (dec_table u.body u.rows u.end)
      where
        on_depth : (s : S) (b : Bool) → too_deep settings depth ≡ b → TableRules u.body u.rows u.end → sheet ≡ some s
            → Is AskedAs AskedRefused (with_depth b (with_root s))
        on_depth s true p t q = is_refused (by_depth t q (leb-true _ _ p))
        on_depth s false p t q = onward_is _ (rooted_is (is_strict settings depth) t)
            (λ o w. is_given_lem (record { says = q; below = leb-false _ _ p; begun = w })) off
          where
            off : (r : Refusal) → OpenedRefused (is_strict settings depth) r → AskedRefused r
            off r (broken_table n) = by_table n
            off r (no_root t n) = by_root t q (leb-false _ _ p) n

        on_sheet : (o : Option S) → sheet ≡ o → TableRules u.body u.rows u.end → Is AskedAs AskedRefused (with_sheet o)
        on_sheet none q t = is_refused (by_sheet t q)
        on_sheet (some s) q t = on_depth s (too_deep settings depth) refl t q

        on_table : (d : Dec (TableRules u.body u.rows u.end)) → Is AskedAs AskedRefused (with_table d (with_sheet sheet))
        on_table (yes rules) = on_sheet sheet refl rules
        on_table (no broken) = is_refused (by_table broken)
