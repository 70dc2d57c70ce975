-- What each operation asks first, in 01's order: 1 the table, 2 the sheet, 3 the depth, 4 the root.
use Rattle.std.specs.Prelude.{ℕ, Bool, true, false, List}
use Rattle.std.proofs.Math.Option.{Option, none, some}
use Rattle.refusal.specs.declared.Refusal.{Refusal}
use Rattle.refusal.specs.Answer.{Answer, gives, refuses, onward}
use Rattle.table.specs.Row.{rows_of, toks_of}
use Rattle.table.specs.Test.{dec_table}
use Rattle.document.specs.View.{View, view}
use Rattle.document.specs.Scope.{Child, root_of}
use Rattle.sheet.specs.declared.ShapeDepth.{ShapeDepth}
use Rattle.sheet.specs.declared.Settings.{Settings}
use Rattle.sheet.specs.Settings.{is_strict, too_deep}
use Rattle.readings.specs.Call.{Upload}

-- "1 table", by a decision of the rules
abbrev pub with_table : {A P : Type 0} → Dec P → Answer A → Answer A
with_table (yes rules) a = a
with_table (no broken) a = refuses Refusal.Table

-- a value that must be there
abbrev pub present : {A : Type 0} → Refusal → Option A → Answer A
present r none = refuses r
present r (some a) = gives a

-- "3 depth at or above the maximum"
abbrev pub with_depth : {A : Type 0} → Bool → Answer A → Answer A
with_depth true a = refuses Refusal.Depth
with_depth false a = a

-- what is read: the view, and the root in it
pub record Opened : Type 0 where
  pub seen : View
  pub root : Child

-- "4 no root (`root_element` fails)"
abbrev pub rooted : List ℕ → View → Answer Opened
rooted body v = onward (present Refusal.NoRoot (root_of (toks_of body v.rows))) (λ (c : Child). gives (record { seen = v; root = c }))

-- "Scalar. 1, 4"
unfoldable pub opened : Bool → Upload → Answer Opened
unfolding dec_table view root_of
opened strict u =
    with_table (dec_table u.body u.rows u.end) (rooted u.body (view strict u.body (rows_of u.rows) u.end))

-- a sheet beside it
pub record Asked (S : Type 0) : Type 0 where
  pub sheet : S
  pub opened : Opened

-- "1, 2, 3, 4"
unfoldable pub asked : {S : Type 0} → Upload → Option S → Settings → ShapeDepth → Answer (Asked S)
unfolding dec_table view root_of
asked {S} u sheet settings depth =
    with_table (dec_table u.body u.rows u.end)
    (onward (present Refusal.Sheet sheet) (λ (s : S).
    with_depth (too_deep settings depth)
    (onward (rooted u.body (view (is_strict settings depth) u.body (rows_of u.rows) u.end))
    (λ (o : Opened). gives (record { sheet = s; opened = o })))))

-- what is planned with what was asked, or with the refusal
abbrev pub asking : {A B : Type 0} → Answer A → (A → B) → (Refusal → B) → B
asking (gives a) f g = f a
asking (refuses r) f g = g r
