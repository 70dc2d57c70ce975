-- 01, "Numbers": "No other number". The numbers with which each reading may be refused, on every input.
use Prim.Native.Nat.{ℕ}
use mathlib.Core.Path.{◌≡◌, refl}
use mathlib.Core.Bool.{Bool, true}
use mathlib.Core.List.{List, [], ◌∷◌}
use Rattle.refusal.specs.declared.Refusal.{Refusal}
use Rattle.refusal.specs.Answer.{refuses}
use Rattle.refusal.specs.Numbers.{number}
use Rattle.table.specs.Row.{Row, Tok}
use Rattle.table.specs.Rules.{among}
use Rattle.xml.specs.declared.Cause.{Cause}
use Rattle.document.specs.declared.Depth.{Depth}
use Rattle.document.specs.Reader.{Scope}
use Rattle.document.specs.View.{failure_of}
use Rattle.sheet.specs.declared.ShapeDepth.{ShapeDepth}
use Rattle.sheet.specs.declared.Settings.{Settings}
use Rattle.readings.specs.Call.{Upload, Call}
use Rattle.readings.specs.Output.{Room, Output, refused}
use Rattle.readings.specs.Opening.{Asked}
use Rattle.readings.specs.Shape.{Shape, structure, list, map, strings, SheetOf, sheet_of, read}
use Rattle.readings.specs.Scalar.{boolean_reading, integer_reading, string_reading, whole_text}
use Rattle.readings.specs.Find.{find}
use Rattle.readings.proofs.Conditions.Opening.{broken_table, no_root, by_table, by_sheet, by_depth, by_root, AskedAs}
use Rattle.readings.proofs.Conditions.View.{Stopped, at_drain, at_error}
use Rattle.readings.proofs.Conditions.Text.{NoText, element_inside, bad_reference, rows_end, passed, opened_text_refusal}
use Rattle.readings.proofs.Conditions.Readings.{Stops, root_differs, no_text, ill_formed_lem, Refused, early, stops, full}
use Rattle.readings.proofs.Conditions.Readings.{reading_refused}
use Rattle.readings.proofs.Conditions.Values.{NotABoolean, not_boolean, NotAnInteger, not_integer, StringTooLong, too_long}
use Rattle.readings.proofs.Conditions.Scalar.{not_opened, no_text, after_the_rest, Unread, not_read, wrong, boolean_refusal}
use Rattle.readings.proofs.Conditions.Scalar.{integer_refusal, string_refusal}
use Rattle.readings.proofs.Conditions.Find.{FindRefused, find_table, find_no_root, find_none, find_refusal}
use Rattle.readings.proofs.Conditions.Whole.{WholeRefused, whole_table, whole_ill_formed, whole_no_root, whole_has_element}
use Rattle.readings.proofs.Conditions.Whole.{whole_no_room, whole_text_refusal}

-- the refusal's number is one of these
abbrev pub Only : List ℕ → Refusal → Type 0
Only numbers r = among numbers (number r) ≡ true

-- ---- 6, 7, 8 and 9, of a text
data OfText : Refusal → Type 0 where
  six : OfText Refusal.ElementInText
  seven : {at : ℕ} → OfText (Refusal.BadReference at)
  eight : OfText Refusal.TokenError
  nine : OfText Refusal.IllFormed

by_cause : (at : ℕ) (c : Cause) → OfText (failure_of at c)
by_cause at Cause.TokenError = eight
by_cause at Cause.MismatchedEnd = nine
by_cause at Cause.UnclosedElement = nine
by_cause at Cause.RepeatedAttribute = nine
by_cause at Cause.BadReference = seven

module _ {u : Upload} {strict : Bool} where
  stopped_number : {r : Refusal} → Stopped u strict r → OfText r
  stopped_number w = go w
    where
      go : {b : Bool} {q : Refusal} → Stopped u b q → OfText q
      go (at_drain {cause = c} e) = by_cause _ c
      go (at_error e) = eight

  text_number : {rows : List Row} {s : Scope} {d : Depth} {k : ℕ} {l : List Tok} {r : Refusal} → NoText (Stopped u strict) rows s d k l r
      → OfText r
  text_number element_inside = six
  text_number (bad_reference e) = seven
  text_number (rows_end w) = stopped_number w
  text_number (passed p w) = text_number w

-- ---- readings with a sheet: 1, 2, 3, 4, and then
abbrev pub later : Shape → List ℕ
later structure = 5 ∷ 9 ∷ 10 ∷ []
later list = 9 ∷ 10 ∷ []
later map = 6 ∷ 7 ∷ 8 ∷ 9 ∷ 10 ∷ []
later strings = 6 ∷ 7 ∷ 8 ∷ 9 ∷ 10 ∷ []

text_among : {r : Refusal} → OfText r → Only (1 ∷ 2 ∷ 3 ∷ 4 ∷ 6 ∷ 7 ∷ 8 ∷ 9 ∷ 10 ∷ []) r
text_among six = refl
text_among seven = refl
text_among eight = refl
text_among nine = refl

module _ (u : Upload) (call : Call) (room : Room) where
  stops_among : (shape : Shape) (a : Asked (SheetOf shape)) → AskedAs u (sheet_of shape call.sheet) call.settings call.depth a
      → {r : Refusal}
      → Stops call.settings call.depth shape a r → Only (1 ∷ 2 ∷ 3 ∷ 4 ∷ later shape) r
  stops_among structure a w (root_differs d) = refl
  stops_among structure a w (ill_formed_lem e) = refl
  stops_among structure a w (no_text c t e) = elim t [ ]
  stops_among list a w (ill_formed_lem e) = refl
  stops_among list a w (root_differs d) = elim d [ ]
  stops_among list a w (no_text c t e) = elim t [ ]
  stops_among map a w (no_text c {r = r} t e) = text_among (text_number ((opened_text_refusal u w.begun c r).0 e).inside)
  stops_among map a w (ill_formed_lem e) = refl
  stops_among map a w (root_differs d) = elim d [ ]
  stops_among strings a w (no_text c {r = r} t e) = text_among (text_number ((opened_text_refusal u w.begun c r).0 e).inside)
  stops_among strings a w (ill_formed_lem e) = refl
  stops_among strings a w (root_differs d) = elim d [ ]

  full_among : (shape : Shape) → Only (1 ∷ 2 ∷ 3 ∷ 4 ∷ later shape) Refusal.NoRoom
  full_among structure = refl
  full_among list = refl
  full_among map = refl
  full_among strings = refl

  pub reading_numbers : (shape : Shape) {r : Refusal} {out : Output} → read shape u call room ≡ refused r out
      → Only (1 ∷ 2 ∷ 3 ∷ 4 ∷ later shape) r
  reading_numbers shape {r} {out} e = go (reading_refused u call room shape e)
    where
      go : {q : Refusal} {o : Output} → Refused u call room shape q o → Only (1 ∷ 2 ∷ 3 ∷ 4 ∷ later shape) q
      go (early (by_table n)) = refl
      go (early (by_sheet t n)) = refl
      go (early (by_depth t s n)) = refl
      go (early (by_root t s h n)) = refl
      go (stops {a = a} w x) = stops_among shape a w x
      go (full t f) = full_among shape

-- ---- scalars: 1, 4, 6 to 9, and then one of their own
abbrev scalar_numbers : ℕ → List ℕ
scalar_numbers own = 1 ∷ 4 ∷ 6 ∷ 7 ∷ 8 ∷ 9 ∷ own ∷ []

module _ (u : Upload) (settings : Settings) (depth : ShapeDepth) where
  unread_among : (last : ℕ) {Wrong : List ℕ → Refusal → Type 0} → ((t : List ℕ) (q : Refusal) → Wrong t q → Only (scalar_numbers last) q)
      → (r : Refusal) → Unread u settings depth Wrong r → Only (scalar_numbers last) r
  unread_among last {Wrong} f r w = go w
    where
      of_text : {q : Refusal} → OfText q → Only (scalar_numbers last) q
      of_text six = refl
      of_text seven = refl
      of_text eight = refl
      of_text nine = refl

      go : {q : Refusal} → Unread u settings depth Wrong q → Only (scalar_numbers last) q
      go (not_read (not_opened (broken_table n))) = refl
      go (not_read (not_opened (no_root t n))) = refl
      go (not_read (no_text w n)) = of_text (text_number n.inside)
      go (not_read (after_the_rest w t f)) = refl
      go (wrong {text = t} {r = q} p w) = f t q w

  boolean_among : (t : List ℕ) (q : Refusal) → NotABoolean t q → Only (scalar_numbers 11) q
  boolean_among t q (not_boolean m n) = refl

  integer_among : (t : List ℕ) (q : Refusal) → NotAnInteger t q → Only (scalar_numbers 12) q
  integer_among t q (not_integer n) = refl

  string_among : (room : ℕ) (t : List ℕ) (q : Refusal) → StringTooLong room t q → Only (scalar_numbers 10) q
  string_among room t q (too_long h) = refl

  pub boolean_numbers : (r : Refusal) → boolean_reading u settings depth ≡ refuses r → Only (scalar_numbers 11) r
  boolean_numbers r e = unread_among 11 boolean_among r ((boolean_refusal u settings depth r).0 e)

  pub integer_numbers : (r : Refusal) → integer_reading u settings depth ≡ refuses r → Only (scalar_numbers 12) r
  integer_numbers r e = unread_among 12 integer_among r ((integer_refusal u settings depth r).0 e)

  pub string_numbers : (room : ℕ) (r : Refusal) → string_reading u settings depth room ≡ refuses r → Only (scalar_numbers 10) r
  string_numbers room r e = unread_among 10 (string_among room) r ((string_refusal u settings depth room r).0 e)

-- ---- find, and whole text
pub find_numbers : (u : Upload) (name : List ℕ) {r : Refusal} → find u name ≡ refuses r → Only (1 ∷ 13 ∷ []) r
find_numbers u name {r} e = go ((find_refusal u name r).0 e)
  where
    go : {q : Refusal} → FindRefused u name q → Only (1 ∷ 13 ∷ []) q
    go (find_table b) = refl
    go (find_no_root t n) = refl
    go (find_none t p n) = refl

pub whole_text_numbers : (u : Upload) (room : ℕ) {r : Refusal} → whole_text u room ≡ refuses r → Only (1 ∷ 4 ∷ 6 ∷ 9 ∷ 10 ∷ []) r
whole_text_numbers u room {r} e = go ((whole_text_refusal u room r).0 e)
  where
    go : {q : Refusal} → WholeRefused u room q → Only (1 ∷ 4 ∷ 6 ∷ 9 ∷ 10 ∷ []) q
    go (whole_table b) = refl
    go (whole_ill_formed p) = refl
    go (whole_no_root p q) = refl
    go (whole_has_element p q h) = refl
    go (whole_no_room p q w h) = refl
