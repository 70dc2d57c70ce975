-- Laws of the list and the string list: the plan of a child, and of the whole.
use Prim.Native.Nat.{ℕ, ◌+◌}
use mathlib.Core.Path.{◌≡◌, refl, sym, ◌∙◌, ap}
use mathlib.Core.Bool.{Bool, true, false}
use mathlib.Core.List.{List, []}
use lib.ListN.{length}
use Rattle.std.specs.Prelude.{Result, Ok, Err, Option}
use Rattle.lists.proofs.Tests.{pick_all}
use Rattle.refusal.specs.declared.Refusal.{Refusal}
use Rattle.refusal.specs.Answer.{Answer, gives, refuses}
use Rattle.table.specs.declared.patterns.Pattern.{Pattern}
use Rattle.document.specs.declared.part.Piece.{Piece}
use Rattle.document.specs.declared.part.Text.{Text}
use Rattle.document.specs.Scope.{children_of, dropping}
use Rattle.document.specs.Reader as doc
use Rattle.document.specs.Text.{text_of}
use Rattle.document.specs.Part.{given, text_at}
use Rattle.sheet.specs.declared.Settings.{Settings}
use Rattle.sheet.specs.Sheet.{ListSheet}
use Rattle.sheet.specs.Names.{item_name}
use Rattle.readings.specs.Output.{piece_entry}
use Rattle.readings.specs.Plan.{one}
use Rattle.readings.specs.Opening.{Asked}
use Rattle.readings.specs.Collection.{is_wanted, item_plan, text_plan, string_plan, items_plan, strings_plan}
use Rattle.readings.proofs.Plans.Made.{Made, made_put, made_end, made_followed, made_each, made_last}
use Rattle.readings.proofs.Plans.Sources.{Anything}
use Rattle.readings.proofs.Laws.Few.{strings_few}
use Rattle.decode.specs.declared.place.Past.{Past}
use Rattle.decode.specs.declared.place.Cursor.{Cursor}
use Rattle.decode.specs.declared.element.Element.{Element}
use Rattle.decode.specs.View.{view_of}
use Rattle.decode.specs.Element.{child_of, DroppedIs, PieceIs}
use Rattle.decode.proofs.Known.{out_of_tag}
use Rattle.output.specs.declared.Output.{Output}
use Rattle.output.specs.Plans.{put_piece, put_text, text_or}
use Rattle.output.specs.Held.{Does, Whole, Enters, Counted}
use Rattle.output.proofs.Writing.{stops}
use Rattle.output.proofs.Then.{does_as, does_nothing}
use Rattle.output.proofs.Called.{does_whole}
use Rattle.output.proofs.Alone.{NoBytes, enters_alone}
use Rattle.opening.specs.Opening.{body_of, asked_of}
use Rattle.opening.specs.Wanted.{asked_by}
use Rattle.opening.proofs.Few.{few_in}
use Rattle.list.specs.Children.{StandsAt, ChildRead, each_plan, all_plan}

-- ---- where the reader stands after a child that is dropped
pub stands_dropped : (e : Element) {p : Past} → DroppedIs e p → StandsAt (dropping (child_of e)) e p.at
stands_dropped e d = record { is = ap (λ (q : doc.Past). q.reader) d.is; stands = out_of_tag d.stands; later = d.later }

text_same : (a : Answer (List ℕ)) → text_plan a ≡ text_or 0 a
text_same (gives l) = refl
text_same (refuses r) = refl

module _ (name : Option Pattern) (e : Element) {p : Past} (d : DroppedIs e p) where
  abbrev wanted : Bool
  wanted = is_wanted (asked_by name) (child_of e)

  -- ---- an item of a list
  abbrev ItemRead : Output → Output → Result Cursor Refusal → Type 0
  ItemRead b b' r = ChildRead (λ body v c. item_plan body v (asked_by name) c) (λ c. dropping c) e b b' r

  pub item_not : (b : Output) → wanted ≡ false → ItemRead b b (Ok p.at)
  unfolding item_plan
  item_not b q = record { does = does_as (rw q) (does_nothing b); reached = stands_dropped e d }

  module _ (q : wanted ≡ true) {piece : Piece} (x : PieceIs e piece) where
    item_is : item_plan (body_of e) (view_of e.view) (asked_by name) (child_of e) ≡ put_piece 0 piece
    unfolding item_plan put_piece
    item_is = rw q (ap (λ (z : Piece). one (piece_entry 0 z) []) (sym x.is))

    pub item_done : {b b' : Output} → Does (put_piece 0 piece) b b' (Ok tt) → ItemRead b b' (Ok p.at)
    item_done y = record { does = does_as item_is y; reached = stands_dropped e d }

    pub item_full : {b b' : Output} {r : Refusal} → Does (put_piece 0 piece) b b' (Err r) → ItemRead b b' (Err r)
    item_full y = record { does = does_as item_is y; reached = tt }

  -- ---- of a string list
  abbrev StringRead : Output → Output → Result Cursor Refusal → Type 0
  StringRead b b' r = ChildRead (λ body v c. string_plan v (asked_by name) c) (λ c. dropping c) e b b' r

  pub string_not : (b : Output) → wanted ≡ false → StringRead b b (Ok p.at)
  unfolding string_plan
  string_not b q = record { does = does_as (rw q) (does_nothing b); reached = stands_dropped e d }

  module _ (q : wanted ≡ true) where
    string_is : (t : Result Text Refusal) → given t ≡ text_of (view_of e.view) (child_of e)
        → string_plan (view_of e.view) (asked_by name) (child_of e) ≡ text_or 0 (given t)
    unfolding string_plan
    string_is t x = rw q (ap text_plan (sym x) ∙ text_same (given t))

    pub string_refused : (b : Output) {r : Refusal} → given (Err r) ≡ text_of (view_of e.view) (child_of e) → StringRead b b (Err r)
    string_refused b {r} x = record { does = does_as (string_is (Err r) x) (stops b); reached = tt }

    module _ {b b' : Output} (t : Text) (x : text_at t ≡ text_of (view_of e.view) (child_of e)) where
      pub string_done : Does (put_text 0 t) b b' (Ok tt) → StringRead b b' (Ok p.at)
      unfolding put_text
      string_done y = record { does = does_as (string_is (Ok t) x) y; reached = stands_dropped e d }

      pub string_full : {r : Refusal} → Does (put_text 0 t) b b' (Err r) → StringRead b b' (Err r)
      unfolding put_text
      string_full y = record { does = does_as (string_is (Ok t) x) y; reached = tt }

-- ---- the whole
module _ (name : Option Pattern) (settings : Settings) (s : ListSheet) (n : asked_by name ≡ item_name settings s) (root : Element)
    {b b' : Output} {r : Result (Unit {0}) Refusal} where
  pub list_is : Does (all_plan (λ body v c. item_plan body v (asked_by name) c) (λ c. dropping c) root) b b' r
      → Does (items_plan (body_of root) settings (asked_of s root)) b b' r
  unfolding all_plan each_plan items_plan children_of
  list_is d = rw (sym n) d

  pub strings_are : Does (all_plan (λ body v c. string_plan v (asked_by name) c) (λ c. dropping c) root) b b' r
      → Does (strings_plan settings (asked_of s root)) b b' r
  unfolding all_plan each_plan strings_plan children_of
  strings_are d = rw (sym n) d

-- ---- the items of a list have no bytes, so it asks no room for texts
module _ (body : List ℕ) (settings : Settings) (a : Asked ListSheet) where
  items_made : Made NoBytes Anything (length (children_of a.opened.root) + 0) (items_plan body settings a)
  unfolding items_plan item_plan
  items_made =
      made_followed (made_each _ (children_of a.opened.root)
      (λ c i. pick_all (Made NoBytes Anything 1) (is_wanted (item_name settings a.sheet) c) _ _ (made_put refl made_end) made_end))
      (made_last {n = 0} a.opened.seen.ill_formed (λ e. tt {0}))

  pub list_enters : {b b' : Output} {r : Result (Unit {0}) Refusal} → Does (items_plan body settings a) b b' r → Counted b
      → Enters (items_plan body settings a) b b' r
  list_enters d c = enters_alone items_made c d

-- ---- the texts of a string list come to few bytes, so it ends in the whole room
pub strings_whole : (settings : Settings) (s : ListSheet) (root : Element) {b b' : Output} {r : Result (Unit {0}) Refusal}
    → Does (strings_plan settings (asked_of s root)) b b' r → Whole (strings_plan settings (asked_of s root)) b b' r
strings_whole settings s root d = does_whole d (strings_few (body_of root) settings (asked_of s root) (few_in root))
