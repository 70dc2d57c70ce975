-- 01, "List", "String list" and "Map": `read_list`, `read_string_list`, `read_map`.
use Rattle.std.specs.Prelude.{ℕ, Bool, true, false, List, [], ◌∷◌, ◌++◌}
use Rattle.std.proofs.Math.Option.{Option, none, some}
use Rattle.lists.specs.Tests.{pick}
use Rattle.lists.specs.Bytes.{sameb}
use Rattle.refusal.specs.Answer.{Answer, gives, refuses, onward}
use Rattle.table.specs.Names.{name_matches}
use Rattle.document.specs.View.{View}
use Rattle.document.specs.Reader.{Reader, skip}
use Rattle.document.specs.declared.part.Piece.{Piece}
use Rattle.document.specs.Scope.{Child, level, level_in, children, children_of, dropping, after_children, piece_of}
use Rattle.document.specs.Text.{text_of}
use Rattle.sheet.specs.declared.Settings.{Settings}
use Rattle.sheet.specs.Sheet.{ListSheet, list_of, MapSheet, map_of}
use Rattle.sheet.specs.Names.{item_name, entry_name, key_name, value_name, value_aggregate}
use Rattle.readings.specs.Call.{Upload, Call}
use Rattle.readings.specs.Output.{Room, nothing, Reading, text_entry, piece_entry, key_text_entry, key_piece_entry}
use Rattle.readings.specs.Plan.{Plan, end, stop, perform, one, followed_by, one_by_one, end_test}
use Rattle.readings.specs.Opening.{Asked, asked, asking}

-- a child is wanted: it matches the name, or there is none to match
unfoldable pub is_wanted : Option (List ℕ) → Child → Bool
unfolding name_matches
is_wanted none c = true
is_wanted (some name) c = name_matches c.start.name name

-- ---- list: each item a piece
unfoldable pub item_plan : List ℕ → View → Option (List ℕ) → Child → Plan
unfolding is_wanted piece_of
item_plan body v name c = let piece = one (piece_entry 0 (piece_of body v c)) [] in pick (is_wanted name c) piece end

unfoldable pub items_plan : List ℕ → Settings → Asked ListSheet → Plan
unfolding one_by_one followed_by item_plan children_of
items_plan body settings a =
    let items = one_by_one (item_plan body a.opened.seen (item_name settings a.sheet)) (children_of a.opened.root) in
    followed_by items (end_test a.opened.seen.ill_formed)

-- "List. 1, 2, 3, 4; 10 as met; 9 last."
unfoldable pub list_plan : Upload → Call → Plan
unfolding asked list_of items_plan
list_plan u call = asking (asked u (list_of call.sheet) call.settings call.depth) (items_plan u.body call.settings) stop

unfoldable pub list_reading : Upload → Call → Room → Reading
unfolding perform list_plan
list_reading u call room = perform room (list_plan u call) nothing

-- ---- string list: each item a text
-- "with 6 to 9 as met"
abbrev pub text_plan : Answer (List ℕ) → Plan
text_plan (gives bytes) = one (text_entry 0 bytes) bytes
text_plan (refuses r) = stop r

unfoldable pub string_plan : View → Option (List ℕ) → Child → Plan
unfolding is_wanted text_of
string_plan v name c = let text = text_plan (text_of v c) in pick (is_wanted name c) text end

unfoldable pub strings_plan : Settings → Asked ListSheet → Plan
unfolding one_by_one followed_by string_plan children_of
strings_plan settings a =
    let items = one_by_one (string_plan a.opened.seen (item_name settings a.sheet)) (children_of a.opened.root) in
    followed_by items (end_test a.opened.seen.ill_formed)

-- "String list. As list, with 6 to 9 as met."
unfoldable pub string_list_plan : Upload → Call → Plan
unfolding asked list_of strings_plan
string_list_plan u call = asking (asked u (list_of call.sheet) call.settings call.depth) (strings_plan call.settings) stop

unfoldable pub string_list_reading : Upload → Call → Room → Reading
unfolding perform string_list_plan
string_list_reading u call room = perform room (string_list_plan u call) nothing

-- ---- map
-- what a map entry has come to: of several keys or values the last wins
pub data MapValue : Type 0 where
  text : List ℕ → MapValue
  piece : Piece → MapValue

pub record Fields : Type 0 where
  pub key : Option (List ℕ)
  pub value : Option MapValue

abbrev pub no_fields : Fields
no_fields = record { key = none; value = none }

-- a value is a piece where it is aggregate, and a text otherwise
abbrev pub value_in : List ℕ → View → Bool → Child → Answer MapValue
value_in body v true c = gives (piece (piece_of body v c))
value_in body v false c = onward (text_of v c) (λ (t : List ℕ). gives (text t))

-- a child that has both names is a key
unfoldable pub read_field : List ℕ → View → MapSheet → Fields → Child → Answer Fields
unfolding sameb piece_of text_of
read_field body v m f c =
    let is_key = sameb c.start.name.local (key_name m) in
    let is_value = sameb c.start.name.local (value_name m) in
    let key : Answer Fields = onward (text_of v c) (λ (t : List ℕ). gives (record { key = some t; value = f.value })) in
    let value : Answer Fields =
    onward (value_in body v (value_aggregate m) c) (λ (x : MapValue). gives (record { key = f.key; value = some x })) in
    pick is_key key (pick is_value value (gives f))

unfoldable pub read_fields : List ℕ → View → MapSheet → List Child → Fields → Answer Fields
unfolding read_field
read_fields body v m [] f = gives f
read_fields body v m (c ∷ rest) f = onward (read_field body v m f c) (read_fields body v m rest)

-- "room is tested at the end of each map entry, for its key and value together"; with only one of them nothing is written
abbrev pub fields_plan : Option (List ℕ) → Option MapValue → Plan
fields_plan none value = end
fields_plan (some k) none = end
fields_plan (some k) (some (text t)) = one (key_text_entry k t) (k ++ t)
fields_plan (some k) (some (piece p)) = one (key_piece_entry k p) k

-- "with 6, 7, 8, 9 as met in a key or value"
abbrev pub read_plan : Answer Fields → Plan
read_plan (gives f) = fields_plan f.key f.value
read_plan (refuses r) = stop r

unfoldable pub entry_plan : List ℕ → View → MapSheet → Option (List ℕ) → Child → Plan
unfolding is_wanted read_fields children_of
entry_plan body v m name c = let read = read_plan (read_fields body v m (children_of c) no_fields) in pick (is_wanted name c) read end

-- where the reader stands after a child of a map: of an entry the fields were read
unfoldable pub after_entry : Option (List ℕ) → Child → Reader
unfolding is_wanted after_children skip
after_entry name c = let read = after_children c in let unread = dropping c in pick (is_wanted name c) read unread

unfoldable pub entries_of : Option (List ℕ) → Child → List Child
unfolding level children after_entry
entries_of name root = children (level_in (after_entry name) root)

unfoldable pub entries_plan : List ℕ → Settings → Asked MapSheet → Plan
unfolding one_by_one followed_by entry_plan entries_of
entries_plan body settings a =
    let name = entry_name settings a.sheet in
    let entries = one_by_one (entry_plan body a.opened.seen a.sheet name) (entries_of name a.opened.root) in
    followed_by entries (end_test a.opened.seen.ill_formed)

-- "Map. The same, with 6, 7, 8, 9 as met in a key or value"
unfoldable pub map_plan : Upload → Call → Plan
unfolding asked map_of entries_plan
map_plan u call = asking (asked u (map_of call.sheet) call.settings call.depth) (entries_plan u.body call.settings) stop

unfoldable pub map_reading : Upload → Call → Room → Reading
unfolding perform map_plan
map_reading u call room = perform room (map_plan u call) nothing
