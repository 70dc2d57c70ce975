-- What is asked before anything is read, "1, 2, 3, 4": refused, or a root, and what a root that was found stands for.
use Rattle.std.specs.Prelude.{ℕ, ◌≡◌, Bool, List, Result, Ok, Err}
use Rattle.std.proofs.Math.Option.{Option}
use Rattle.refusal.specs.declared.Refusal.{Refusal}
use Rattle.refusal.specs.Answer.{Answer, gives, refuses, onward}
use Rattle.table.specs.Row.{rows_of}
use Rattle.table.specs.Test.{dec_table}
use Rattle.table.specs.Rows.{Obeys}
use Rattle.table.specs.declared.rows.Table.{Table}
use Rattle.document.specs.View.{view}
use Rattle.document.specs.Scope.{root_of}
use Rattle.readings.specs.Call.{Upload, uploaded}
use Rattle.readings.specs.Opening.{Opened, Asked, with_table, with_depth, present, rooted}
use Rattle.decode.specs.declared.element.Element.{Element}
use Rattle.decode.specs.View.{view_of}
use Rattle.decode.specs.Element.{child_of}

-- a table that is lent, with its body
abbrev pub upload_of : Table → Upload
upload_of t = uploaded t.body.now t.rows.now t.end

-- ---- what a root that was found stands for
-- the body that an element is of
abbrev pub body_of : Element → List ℕ
body_of e = e.view.table.body.now

-- what is read: its view, and the element as the root
abbrev pub opened_of : Element → Opened
opened_of e = record { seen = view_of e.view; root = child_of e }

-- the same with a sheet
abbrev pub asked_of : {S : Type 0} → S → Element → Asked S
asked_of s e = record { sheet = s; opened = opened_of e }

-- ---- what is answered: a root of the body
abbrev pub opened_as : Result Element Refusal → Answer Opened
opened_as (Ok e) = gives (opened_of e)
opened_as (Err why) = refuses why

abbrev pub OfBody : List ℕ → Result Element Refusal → Type 0
OfBody body (Ok e) = body_of e ≡ body
OfBody body (Err why) = Unit {0}

pub record OpeningIs (body : List ℕ) (a : Answer Opened) (r : Result Element Refusal) : Type 0 where
  pub is : opened_as r ≡ a
  pub of_body : OfBody body r

-- and the rows that it is of are those of a table that obeys the rules, up to a final position
abbrev pub Obeying : ℕ → Result Element Refusal → Type 0
Obeying end (Ok e) = Obeys e.view.table.body.now e.view.table.rows.now end
Obeying end (Err why) = Unit {0}

-- ---- `asked`, where it was found out before whether the depth is too deep and the reading strict
unfoldable pub asked_where : {S : Type 0} → Bool → Bool → Upload → Option S → Answer (Asked S)
unfolding dec_table view root_of
asked_where {S} deep strict u sheet =
    with_table (dec_table u.body u.rows u.end)
    (onward (present Refusal.Sheet sheet) (λ (s : S).
    with_depth deep
    (onward (rooted u.body (view strict u.body (rows_of u.rows) u.end))
    (λ (o : Opened). gives (record { sheet = s; opened = o })))))

-- what is answered: the sheet, and a root of the body
abbrev pub asked_as : {S : Type 0} → Result (S × Element) Refusal → Answer (Asked S)
asked_as (Ok p) = gives (asked_of p.0 p.1)
asked_as (Err why) = refuses why

abbrev pub AskedOfBody : {S : Type 0} → List ℕ → Result (S × Element) Refusal → Type 0
AskedOfBody body (Ok p) = body_of p.1 ≡ body
AskedOfBody body (Err why) = Unit {0}

pub record AskedIs {S : Type 0} (body : List ℕ) (a : Answer (Asked S)) (r : Result (S × Element) Refusal) : Type 0 where
  pub is : asked_as r ≡ a
  pub of_body : AskedOfBody body r

abbrev pub AskedObeying : {S : Type 0} → ℕ → Result (S × Element) Refusal → Type 0
AskedObeying end (Ok p) = Obeying end (Ok p.1)
AskedObeying end (Err why) = Unit {0}
