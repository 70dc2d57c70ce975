-- The children of a root one after another: what is read of one, and the plan of all.
use Rattle.std.specs.Prelude.{ℕ, ◌≤◌, ◌≡◌, List, Result, Ok, Err}
use Rattle.refusal.specs.declared.Refusal.{Refusal}
use Rattle.document.specs.View.{View}
use Rattle.document.specs.Reader.{Reader}
use Rattle.document.specs.Scope.{Child, children, level_in}
use Rattle.readings.specs.Plan.{Plan, followed_by, one_by_one, end_test}
use Rattle.decode.specs.declared.place.Cursor.{Cursor}
use Rattle.decode.specs.declared.element.Element.{Element}
use Rattle.decode.specs.Place.{OutOfTag}
use Rattle.decode.specs.View.{view_of}
use Rattle.decode.specs.Element.{child_of, reader_of}
use Rattle.output.specs.declared.Output.{Output}
use Rattle.output.specs.Held.{Does, done}
use Rattle.opening.specs.Opening.{body_of}

-- ---- one child
-- the reader that is meant, at a place no earlier than the element's content, and outside of start tags: of a place no earlier the kind of
-- the next row says so
pub record StandsAt (meant : Reader) (e : Element) (c : Cursor) : Type 0 where
  pub is : reader_of e.view c ≡ meant
  pub stands : OutOfTag e.view.table.rows.now e.view.count c
  pub later : e.at.row ≤ c.row

abbrev pub Reached : Reader → Element → Result Cursor Refusal → Type 0
Reached is e (Ok c) = StandsAt is e c
Reached is e (Err r) = Unit {0}

-- its plan is performed, and the reader stands where it is said
pub record ChildRead (plan : List ℕ → View → Child → Plan) (after : Child → Reader) (e : Element) (b b' : Output)
    (r : Result Cursor Refusal) : Type 0 where
  pub does : Does (plan (body_of e) (view_of e.view) (child_of e)) b b' (done r)
  pub reached : Reached (after (child_of e)) e r

-- ---- all of them
unfoldable pub each_plan : (Child → Plan) → (Child → Reader) → Child → Plan
each_plan f after root = one_by_one f (children (level_in after root))

-- "9 last"
unfoldable pub all_plan : (List ℕ → View → Child → Plan) → (Child → Reader) → Element → Plan
all_plan f after e =
    followed_by (each_plan (f (body_of e) (view_of e.view)) after (child_of e)) (end_test e.view.ill_formed)
