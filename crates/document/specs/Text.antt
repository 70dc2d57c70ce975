-- The text of an element: its first text (`try_data`), and all the texts directly in it.
use Rattle.std.specs.Prelude.{ℕ, zero, suc, ◌+◌, Bool, true, false, List, [], ◌∷◌, ◌++◌, leb, length}
use Rattle.std.proofs.Math.Option.{Option, none, some}
use Rattle.lists.specs.Tests.{pick}
use Rattle.refusal.specs.declared.Refusal.{Refusal}
use Rattle.refusal.specs.Answer.{Answer, gives, refuses, onward}
use Rattle.reference.specs.Text.{Out, unescaped}
use Rattle.reference.specs.Text as text
use Rattle.table.specs.Row.{Row, text, misc, Tok, start, attr, gt, close, slash, matter, bad}
use Rattle.document.specs.declared.Depth.{Depth}
use Rattle.document.specs.View.{View}
use Rattle.document.specs.Reader.{depth_after, Scope, is_end}
use Rattle.document.specs.Scope.{Child, scope_of}

-- where the value of row k begins in the body; 0 where there is no such row
unfoldable pub value_start_at : List Row → ℕ → ℕ
value_start_at [] k = 0
value_start_at (r ∷ rest) zero = r.value_start
value_start_at (r ∷ rest) (suc k) = value_start_at rest k

-- a text that begins at `from` in the body, unescaped; or 7, with the place of its failing `&` "as a body offset" (change request 1)
abbrev pub unescaped_from : ℕ → Out → Answer (List ℕ)
unescaped_from from (text.bytes l) = gives l
unescaped_from from (text.bad at) = refuses (Refusal.BadReference (from + at))

-- a text whose references are right
abbrev pub is_right : Out → Bool
is_right (text.bytes l) = true
is_right (text.bad at) = false

-- where the rows run out: the failure that the reader meets there, or the text is empty
abbrev pub at_end : Option Refusal → Answer (List ℕ)
at_end none = gives []
at_end (some r) = refuses r

-- what a token that leaves depth d says of the text in a scope: 6 at an inner start tag, the end at the scope's own; `more` is what the
-- tokens after it say, and `take` what a text's bytes and those say
abbrev pub text_turn : (List ℕ → Answer (List ℕ) → Answer (List ℕ)) → Scope → Depth → Tok → Answer (List ℕ) → Answer (List ℕ)
text_turn take s d (start n) more = refuses Refusal.ElementInText
text_turn take s d (attr m v) more = more
text_turn take s d gt more = more
text_turn take s d (close m) more = pick (is_end s d m) (gives []) more
text_turn take s d slash more = more
text_turn take s d (matter (text v)) more = take v more
text_turn take s d (matter misc) more = more
text_turn take s d bad more = more

-- ---- "`try_data` gives the first Text token unescaped, \"\" if none, and fails at an inner start tag. It skips CDATA and stops after that
-- first Text."
abbrev pub take_first : ℕ → List ℕ → Answer (List ℕ) → Answer (List ℕ)
take_first from v more = unescaped_from from (unescaped v)

-- from depth d and row k of some rows on, where the failure is what is met at their end
unfoldable pub first_text : List Row → Option Refusal → Scope → Depth → ℕ → List Tok → Answer (List ℕ)
unfolding value_start_at
first_text rows failure s d k [] = at_end failure
first_text rows failure s d k (t ∷ l) =
    text_turn (take_first (value_start_at rows k)) s (depth_after t d) t (first_text rows failure s (depth_after t d) (suc k) l)

-- the first text of an element in a view; one that ended in `/>` has the empty text
unfoldable pub text_of : View → Child → Answer (List ℕ)
unfolding first_text
text_of v c =
    let inside = first_text v.rows v.failure (scope_of c.start) c.inner.depth c.inner.row c.inner.rest in
    pick c.start.closed (gives []) inside

-- ---- "It joins all Text rows directly in the root, unescaped, and passes over every other row"; 6 at "any element inside the root"
abbrev pub take_each : ℕ → List ℕ → Answer (List ℕ) → Answer (List ℕ)
take_each from v more =
    onward (unescaped_from from (unescaped v)) (λ (front : List ℕ). onward more (λ (rest : List ℕ). gives (front ++ rest)))

-- from depth d and row k of some rows on
unfoldable pub joined : List Row → Scope → Depth → ℕ → List Tok → Answer (List ℕ)
unfolding value_start_at
joined rows s d k [] = gives []
joined rows s d k (t ∷ l) =
    text_turn (take_each (value_start_at rows k)) s (depth_after t d) t (joined rows s (depth_after t d) (suc k) l)

unfoldable pub whole_of : List Row → Child → Answer (List ℕ)
unfolding joined
whole_of rows c =
    let inside = joined rows (scope_of c.start) c.inner.depth c.inner.row c.inner.rest in
    pick c.start.closed (gives []) inside

-- ---- "10 for a string": the text, where there is room for it
unfoldable pub string_in : ℕ → List ℕ → Answer (List ℕ)
string_in room l = pick (leb (length l) room) (gives l) (refuses Refusal.NoRoom)
