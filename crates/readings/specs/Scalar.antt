-- 01, "Scalar": `read_boolean`, `read_integer` and `read_string`, from a body and from a text of an entry; and "Whole text".
use Rattle.std.specs.Prelude.{ℕ, zero, suc, ◌^◌, ◌-◌, Bool, true, false, List, [], ◌∷◌, eqb, leb, ℤ, pos, negsuc, Err, None, Ok, Option}
use Rattle.std.specs.Prelude.{Result, Some}
use Rattle.lists.specs.Characters.{plus, hyphen}
use Rattle.lists.specs.Tests.{pick}
use Rattle.lists.specs.Bytes.{ascii, sameb}
use Rattle.refusal.specs.declared.Refusal.{Refusal}
use Rattle.refusal.specs.Answer.{Answer, gives, refuses, onward}
use Rattle.reference.specs.Number.{numeral}
use Rattle.table.specs.Row.{rows_of, toks_of}
use Rattle.xml.specs.declared.DrainError.{DrainError}
use Rattle.xml.specs.Drain.{drained}
use Rattle.document.specs.Scope.{Child, root_of}
use Rattle.document.specs.Text.{text_of, whole_of, string_in}
use Rattle.sheet.specs.declared.ShapeDepth.{ShapeDepth}
use Rattle.sheet.specs.declared.Settings.{Settings}
use Rattle.sheet.specs.Settings.{is_strict}
use Rattle.readings.specs.Call.{Upload}
use Rattle.readings.specs.Opening.{Opened, opened, present}

-- ---- from a text: "A text taken from an entry is read by the same rules, with 10, 11 or 12 alone."
-- `true` or `false`, byte for byte
unfoldable pub boolean_of : List ℕ → Answer Bool
unfolding sameb
boolean_of text =
    pick (sameb text (ascii "true")) (gives true) (pick (sameb text (ascii "false")) (gives false) (refuses Refusal.NotBoolean))

-- "one or more digits"
abbrev pub digits_of : List ℕ → Option ℕ
digits_of [] = None
digits_of (b ∷ s) = numeral 10 0 (b ∷ s)

abbrev pub minus : ℕ → ℤ
minus zero = pos zero
minus (suc n) = negsuc n

-- "range of 32 bits"
abbrev pub positive : Option ℕ → Answer ℤ
positive None = refuses Refusal.NotInteger
positive (Some n) = pick (leb n (2 ^ 31 - 1)) (gives (pos n)) (refuses Refusal.NotInteger)

abbrev pub negative : Option ℕ → Answer ℤ
negative None = refuses Refusal.NotInteger
negative (Some n) = pick (leb n (2 ^ 31)) (gives (minus n)) (refuses Refusal.NotInteger)

-- "Integers: optional sign, one or more digits, range of 32 bits, nothing trimmed."
unfoldable pub integer_of : List ℕ → Answer ℤ
unfolding numeral
integer_of [] = refuses Refusal.NotInteger
integer_of (b ∷ s) =
    pick (eqb b plus) (positive (digits_of s))
    (pick (eqb b hyphen) (negative (digits_of s))
    (positive (digits_of (b ∷ s))))

-- ---- from a body
-- "9 after the rest"
abbrev pub unless_ill_formed : {A : Type 0} → Bool → A → Answer A
unless_ill_formed true a = refuses Refusal.IllFormed
unless_ill_formed false a = gives a

-- `take_text`: "1, 4; 6 to 9 as met; 9 after the rest"
unfoldable pub scalar_text : Upload → Settings → ShapeDepth → Answer (List ℕ)
unfolding opened text_of
scalar_text u settings depth =
    onward (opened (is_strict settings depth) u) (λ (o : Opened).
    onward (text_of o.seen o.root) (unless_ill_formed o.seen.ill_formed))

-- "10 for a string; 11 or 12"
unfoldable pub boolean_reading : Upload → Settings → ShapeDepth → Answer Bool
unfolding scalar_text boolean_of
boolean_reading u settings depth = onward (scalar_text u settings depth) boolean_of

unfoldable pub integer_reading : Upload → Settings → ShapeDepth → Answer ℤ
unfolding scalar_text integer_of
integer_reading u settings depth = onward (scalar_text u settings depth) integer_of

unfoldable pub string_reading : Upload → Settings → ShapeDepth → ℕ → Answer (List ℕ)
unfolding scalar_text string_in
string_reading u settings depth room = onward (scalar_text u settings depth) (string_in room)

-- ---- "Whole text (added, no Rust reference). 1, 9, 4, 6 (any element inside the root), 10, nothing written then."
abbrev pub passing : {A : Type 0} → Result (Unit {0}) DrainError → Answer A → Answer A
passing (Ok u) a = a
passing (Err DrainError.Table) a = refuses Refusal.Table
passing (Err (DrainError.IllFormed row cause)) a = refuses Refusal.IllFormed

unfoldable pub whole_text : Upload → ℕ → Answer (List ℕ)
unfolding drained root_of whole_of string_in
whole_text u room =
    passing (drained u.body u.rows u.end)
    (onward (present Refusal.NoRoot (root_of (toks_of u.body (rows_of u.rows)))) (λ (c : Child).
    onward (whole_of (rows_of u.rows) c) (string_in room)))
