-- The whole text of an element, text by text.
use Rattle.std.specs.Prelude.{ℕ, ◌≤◌, ◌<◌, ◌≡◌, List, [], ◌++◌, length, Option, Some, None, Result, Ok, Err}
use Rattle.lists.specs.Tests.{pick}
use Rattle.refusal.specs.declared.Refusal.{Refusal}
use Rattle.refusal.specs.Answer.{Answer, gives, refuses, onward}
use Rattle.document.specs.declared.part.Text.{Text}
use Rattle.document.specs.Scope.{scope_of}
use Rattle.document.specs.Text.{joined, string_in}
use Rattle.document.specs.Part.{text_at}
use Rattle.decode.specs.declared.element.Element.{Element}
use Rattle.decode.specs.declared.place.Cursor.{Cursor}
use Rattle.decode.specs.Place.{At, toks_from}
use Rattle.decode.specs.View.{view_of}
use Rattle.decode.specs.Element.{child_of}

-- the texts directly in an element, from a place on; one that ended in `/>` has none
unfoldable pub texts_from : Element → Cursor → Answer (List ℕ)
texts_from e c =
    let toks = toks_from e.view.table.body.now e.view.table.rows.now e.view.count c.row in
    let inside = joined (view_of e.view).rows (scope_of (child_of e).start) c.depth c.row toks in
    pick e.start.closed (gives []) inside

abbrev pub texts_of : Element → Answer (List ℕ)
texts_of e = texts_from e e.at

-- bytes in front of the rest
abbrev pub prepend : List ℕ → Answer (List ℕ) → Answer (List ℕ)
prepend front more = onward more (λ (rest : List ℕ). gives (front ++ rest))

-- what they are by the next text, where those after it begin at a place
abbrev pub next_as : Element → Cursor → Result (Option Text) Refusal → Answer (List ℕ)
next_as e c (Ok None) = gives []
next_as e c (Ok (Some t)) = onward (text_at t) (λ (front : List ℕ). prepend front (texts_from e c))
next_as e c (Err why) = refuses why

-- a text is found: the place after it is a later one of the view
abbrev pub Moved : ℕ → Cursor → Cursor → Result (Option Text) Refusal → Type 0
Moved n c c' (Ok None) = Unit {0}
Moved n c c' (Ok (Some t)) = (c.row < c'.row) × At n c'
Moved n c c' (Err why) = Unit {0}

-- the next text from place c on, and place c' after it
pub record NextText (e : Element) (c c' : Cursor) (r : Result (Option Text) Refusal) : Type 0 where
  pub is : texts_from e c ≡ next_as e c' r
  pub moved : Moved e.view.count c c' r

-- the texts are right, and fit
pub record JoinRoom (a : Answer (List ℕ)) (room : ℕ) : Type 0 where
  pub text : List ℕ
  pub is : a ≡ gives text
  pub fits : length text ≤ room

-- a text, where there is room for it
abbrev pub text_in : ℕ → Answer (List ℕ) → Answer (List ℕ)
text_in room a = onward a (string_in room)
