-- What is asked before anything is read, "1, 2, 3, 4": each way out is the definition's.
use mathlib.Core.Path.{◌≡◌, refl, sym, ◌∙◌, ap}
use mathlib.Core.Bool.{Bool, true, false, not}
use mathlib.Core.Option as math
use Rattle.std.specs.Prelude.{Option, Some, None, MatchOption, Result, Ok, Err, ok_or}
use Rattle.std.specs.Result.{IsErrAnd}
use Rattle.std.proofs.lemmas.Result.{err_from_is_err_and}
use Rattle.lists.specs.Decide.{is_yes}
use Rattle.refusal.specs.declared.Refusal.{Refusal}
use Rattle.refusal.specs.Answer.{Answer, gives, refuses, onward}
use Rattle.table.specs.Row.{rows_of}
use Rattle.table.specs.Test.{dec_table}
use Rattle.table.specs.declared.rows.Table.{Table}
use Rattle.table.specs.declared.rows.ValidTable.{ValidTable}
use Rattle.document.specs.View.{view}
use Rattle.codec.specs.Told.{told, told_as}
use Rattle.readings.specs.Opening.{Opened, Asked, with_table, with_depth, present, rooted, opened, asked}
use Rattle.readings.specs.Call.{Upload}
use Rattle.sheet.specs.declared.ShapeDepth.{ShapeDepth}
use Rattle.sheet.specs.declared.Settings.{Settings}
use Rattle.sheet.specs.Settings.{is_strict, too_deep}
use Rattle.decode.specs.declared.element.Element.{Element}
use Rattle.opening.specs.Opening.{upload_of, OpeningIs, Obeying, asked_where, AskedIs, AskedObeying}

-- ---- `asked` is that
pub asked_is : {S : Type 0} (u : Upload) (sheet : math.Option S) (settings : Settings) (depth : ShapeDepth)
    → asked_where (too_deep settings depth) (is_strict settings depth) u sheet ≡ asked u sheet settings depth
unfolding asked asked_where
asked_is u sheet settings depth = refl

-- ---- what was asked with a sheet, with what that says
abbrev pub saying : {X S : Type 0} → (X → S) → Answer (Asked X) → Answer (Asked S)
saying said (gives a) = gives (record { sheet = said a.sheet; opened = a.opened })
saying said (refuses why) = refuses why

pub where_said : {X S : Type 0} (said : X → S) (deep strict : Bool) (u : Upload) (sheet : Option X)
    → asked_where deep strict u (told_as said sheet) ≡ saying said (asked_where deep strict u (told sheet))
unfolding asked_where
where_said {X} {S} said deep strict u sheet = go (dec_table u.body u.rows u.end) sheet deep _
  where
    go : {P : Type 0} (d : Dec P) (sheet : Option X) (deep : Bool) (root : Answer Opened)
        → with_table d (onward (present Refusal.Sheet (told_as said sheet)) (λ (s : S). with_depth deep
        (onward root (λ (o : Opened). gives (record { sheet = s; opened = o })))))
        ≡ saying said (with_table d (onward (present Refusal.Sheet (told sheet)) (λ (s : X). with_depth deep
        (onward root (λ (o : Opened). gives (record { sheet = s; opened = o }))))))
    go (no n) sheet deep root = refl
    go (yes p) None deep root = refl
    go (yes p) (Some x) true root = refl
    go (yes p) (Some x) false (gives o) = refl
    go (yes p) (Some x) false (refuses why) = refl

-- ---- by a decision of the rules
obeyed : {A P : Type 0} (d : Dec P) (a : Answer A) → is_yes d ≡ true → with_table d a ≡ a
obeyed (yes p) a q = refl
obeyed (no n) a q = absurd cc

refused_by : {A P : Type 0} (d : Dec P) (a : Answer A) → is_yes d ≡ false → with_table d a ≡ refuses Refusal.Table
refused_by (yes p) a q = absurd cc
refused_by (no n) a q = refl

err_is : {X E : Type 0} (o : Option X) {e d : E} → Err e ≡ ok_or o d → (o ≡ None) × (e ≡ d)
err_is None q = (refl, cc)
err_is (Some x) q = absurd cc

ok_is : {X E : Type 0} (o : Option X) (d : E) {x : X} → Ok x ≡ ok_or o d → o ≡ Some x
ok_is None d q = absurd cc
ok_is (Some x) d q = cc

-- what the test of a table answers
abbrev CheckIs : Table → Option ValidTable → Type 0
CheckIs t o =
    MatchOption o (is_yes (dec_table t.body.now t.rows.now t.end) ≡ false)
    (λ v. (v.body.now ≡ t.body.now) × (v.rows.now ≡ t.rows.now) × (v.end ≡ t.end))

-- the root of a table that obeys them
abbrev root_of_table : Bool → ValidTable → Answer Opened
root_of_table strict v = rooted v.body.now (view strict v.body.now (rows_of v.rows.now) v.end)

module _ (t : Table) (o : Option ValidTable) (k : CheckIs t o) where
  no_table : o ≡ None → is_yes (dec_table t.body.now t.rows.now t.end) ≡ false
  no_table q = rw q at k

  module _ (v : ValidTable) (q : o ≡ Some v) where
    same : (v.body.now ≡ t.body.now) × (v.rows.now ≡ t.rows.now) × (v.end ≡ t.end)
    same = rw q at k

    past_table : {A : Type 0} (a : Answer A) → with_table (dec_table t.body.now t.rows.now t.end) a ≡ a
    past_table a = obeyed (dec_table t.body.now t.rows.now t.end) a (rw (same.0, same.1, same.2) at v.obeys.is)

    same_root : (strict : Bool) → rooted t.body.now (view strict t.body.now (rows_of t.rows.now) t.end) ≡ root_of_table strict v
    same_root strict = rw (← same.0, ← same.1, ← same.2) refl

  -- ---- "1, 4"
  pub open_none : (strict : Bool) → o ≡ None → OpeningIs t.body.now (opened strict (upload_of t)) (Err Refusal.Table)
  unfolding opened
  open_none strict q = record { is = sym (refused_by (dec_table t.body.now t.rows.now t.end) _ (no_table q)); of_body = tt }

  pub open_some : (strict : Bool) (v : ValidTable) {r : Result Element Refusal} → o ≡ Some v
      → OpeningIs v.body.now (root_of_table strict v) r → OpeningIs t.body.now (opened strict (upload_of t)) r
  unfolding opened
  open_some strict v {r} q x =
      rw (past_table v q (rooted t.body.now (view strict t.body.now (rows_of t.rows.now) t.end)), same_root v q strict, ← (same v q).0) x

  -- ---- whose rows they are
  pub open_obeys : (v : ValidTable) (r : Result Element Refusal) → o ≡ Some v → Obeying v.end r → Obeying t.end r
  open_obeys v r q x = rw (same v q).2 at x

  pub ask_obeys : {S : Type 0} (v : ValidTable) (s : S) (e : Element) → Ok v ≡ ok_or o Refusal.Table → Obeying v.end (Ok e)
      → AskedObeying t.end (Ok (s, e))
  ask_obeys v s e p x = open_obeys v (Ok e) (ok_is o Refusal.Table p) x

  pub refused_obeys : {S : Type 0} (r : Result (S × Element) Refusal) (e : Refusal) → IsErrAnd r (λ x. x ≡ e) → AskedObeying t.end r
  refused_obeys r e f = let g = err_from_is_err_and r f in rw (g.1) tt

  -- ---- "1, 2, 3, 4"
  module _ {S : Type 0} (sheet : Option S) (entered strict : Bool) where
    abbrev all : Answer (Asked S)
    all = asked_where (not entered) strict (upload_of t) (told sheet)

    pub ask_table : {r : Result (S × Element) Refusal} {e : Refusal} → Err e ≡ ok_or o Refusal.Table → IsErrAnd r (λ x. x ≡ e)
        → AskedIs t.body.now all r
    unfolding asked_where
    ask_table {r} q f =
        let g = err_from_is_err_and r f in
        let h = err_is o q in
        rw (g.1, g.2, h.1) (record { is = sym (refused_by (dec_table t.body.now t.rows.now t.end) _ (no_table h.0)); of_body = tt })

    -- past the table
    module _ (v : ValidTable) (p : Ok v ≡ ok_or o Refusal.Table) where
      after_table : all
          ≡ onward (present Refusal.Sheet (told sheet)) (λ (s : S). with_depth (not entered) (onward (root_of_table strict v)
          (λ (o : Opened). gives (record { sheet = s; opened = o }))))
      unfolding asked_where
      after_table =
          past_table v (ok_is o Refusal.Table p) _ ∙ rw (same_root v (ok_is o Refusal.Table p) strict) refl

      pub ask_sheet : {r : Result (S × Element) Refusal} {e : Refusal} → Err e ≡ ok_or sheet Refusal.Sheet → IsErrAnd r (λ x. x ≡ e)
          → AskedIs t.body.now all r
      ask_sheet {r} q f =
          let g = err_from_is_err_and r f in
          let h = err_is sheet q in
          rw (g.1, g.2, h.1, after_table) (record { is = rw (h.0) refl; of_body = tt })

      -- past the sheet
      module _ (s : S) (y : Ok s ≡ ok_or sheet Refusal.Sheet) where
        after_sheet : all ≡ with_depth (not entered)
            (onward (root_of_table strict v) (λ (o : Opened). gives (record { sheet = s; opened = o })))
        after_sheet = rw (after_table, ok_is sheet Refusal.Sheet y) refl

        pub ask_depth : entered ≡ false → AskedIs t.body.now all (Err Refusal.Depth)
        ask_depth q = rw after_sheet (record { is = rw q refl; of_body = tt })

        pub ask_root : {r : Result (S × Element) Refusal} {e : Refusal} → entered ≡ true
            → OpeningIs v.body.now (root_of_table strict v) (Err e) → IsErrAnd r (λ x. x ≡ e) → AskedIs t.body.now all r
        ask_root {r} {e} q x f =
            let g = err_from_is_err_and r f in
            rw (g.1, g.2, after_sheet, q) (record {
              is = ap (λ a. onward a (λ (o : Opened). gives (record { sheet = s; opened = o }))) x.is;
              of_body = tt;
            })

        pub ask_done : (e : Element) → entered ≡ true
            → OpeningIs v.body.now (root_of_table strict v) (Ok e) → AskedIs t.body.now all (Ok (s, e))
        ask_done e q x =
            rw (after_sheet, q) (record {
              is = ap (λ a. onward a (λ (o : Opened). gives (record { sheet = s; opened = o }))) x.is;
              of_body = x.of_body ∙ (same v (ok_is o Refusal.Table p)).0;
            })
