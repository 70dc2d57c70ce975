-- 01, "Structure": `read_struct`.
use Rattle.std.specs.Prelude.{ℕ, Bool, true, false, List, [], ◌∷◌, ◌++◌, eqb, take, drop}
use Rattle.std.proofs.Math.Option.{Option, none, some}
use Rattle.lists.specs.Tests.{pick}
use Rattle.lists.specs.Bytes.{ascii}
use Rattle.refusal.specs.declared.Refusal.{Refusal}
use Rattle.refusal.specs.Answer.{Answer, gives, refuses}
use Rattle.table.specs.Row.{cut}
use Rattle.table.specs.Rules.{last_position}
use Rattle.table.specs.Piece.{closing, is_closed}
use Rattle.table.specs.Names.{name_matches}
use Rattle.document.specs.View.{View}
use Rattle.document.specs.Reader.{Attribute}
use Rattle.document.specs.declared.part.Piece.{Piece}
use Rattle.document.specs.Scope.{Child, children_of, piece_to, piece_of}
use Rattle.document.specs.Text.{text_of}
use Rattle.sheet.specs.declared.ShapeDepth.{ShapeDepth}
use Rattle.sheet.specs.declared.Settings.{Settings}
use Rattle.sheet.specs.Settings.{tests_root_name}
use Rattle.sheet.specs.Sheet.{Structure, structure_of}
use Rattle.sheet.specs.Names.{root_name, attribute_name, Indexed, indexed, first_named, members_of, resolve}
use Rattle.readings.specs.Call.{Upload, Call}
use Rattle.readings.specs.Output.{Room, nothing, Reading, text_entry, piece_entry, group_entry, failed_entry}
use Rattle.readings.specs.Plan.{Plan, end, stop, perform, one, followed_by, one_by_one, end_test}
use Rattle.readings.specs.Opening.{Opened, Asked, asked, asking}

-- ---- "attribute members in sheet order"
-- `StartEl::attr`: the first attribute whose name matches
unfoldable pub attribute_of : List Attribute → List ℕ → Option (List ℕ)
attribute_of [] key = none
attribute_of (a ∷ rest) key = pick (name_matches a.name key) (some a.value) (attribute_of rest key)

abbrev pub found_plan : ℕ → Option (List ℕ) → Plan
found_plan index none = end
found_plan index (some v) = one (text_entry index v) v

-- an attribute member's text; other members have none here
unfoldable pub attribute_plan : List Attribute → Indexed → Plan
unfolding attribute_of
attribute_plan attributes m =
    let found = found_plan m.index (attribute_of attributes (attribute_name m.member)) in
    pick m.member.attribute found end

-- ---- "then children in body order"
-- "A scalar that fails is an entry of kind 4."
abbrev pub scalar_plan : ℕ → Answer (List ℕ) → Plan
scalar_plan index (gives bytes) = one (text_entry index bytes) bytes
scalar_plan index (refuses r) = one (failed_entry index r) []

-- a child by the member that its local name resolves to: a text, a piece, or kept for its group
abbrev pub member_plan : List ℕ → View → Child → Option Indexed → Plan
member_plan body v c none = end
member_plan body v c (some m) =
    let piece = one (piece_entry m.index (piece_of body v c)) [] in
    let text = scalar_plan m.index (text_of v c) in
    pick m.member.aggregate (pick m.member.flattened end piece) text

unfoldable pub child_plan : List ℕ → View → Structure → Child → Plan
unfolding first_named indexed piece_of text_of
child_plan body v s c = member_plan body v c (resolve s c.start.name.local)

-- ---- then the groups: "Flattened groups are to come by rising member index" (change request 2)
-- the member that a child is kept for
abbrev pub flat_member : Option Indexed → Option ℕ
flat_member none = none
flat_member (some m) = pick m.member.aggregate (pick m.member.flattened (some m.index) none) none

abbrev pub is_index : Option ℕ → ℕ → Bool
is_index none i = false
is_index (some j) i = eqb j i

-- a child is a sibling in the group of member i
unfoldable pub in_group : Structure → ℕ → Child → Bool
unfolding first_named indexed
in_group s i c = is_index (flat_member (resolve s c.start.name.local)) i

-- the bytes of the siblings, one after another
unfoldable pub siblings : List ℕ → View → Structure → ℕ → List Child → List ℕ
unfolding piece_of in_group
siblings body v s i [] = []
siblings body v s i (c ∷ rest) =
    let more = siblings body v s i rest in
    let piece = piece_of body v c in
    pick (in_group s i c) (cut body piece.start piece.len ++ more) more

-- "`<__flat>`, the siblings, `</__flat>`"
unfoldable pub group_of : List ℕ → View → Structure → List Child → ℕ → List ℕ
unfolding siblings
group_of body v s children i = ascii "<__flat>" ++ (siblings body v s i children ++ ascii "</__flat>")

-- member i has a group: one of these children is in it
unfoldable pub has_group : Structure → ℕ → List Child → Bool
unfolding in_group
has_group s i [] = false
has_group s i (c ∷ rest) = pick (in_group s i c) true (has_group s i rest)

-- a member's group; a member without siblings has none
unfoldable pub group_plan : List ℕ → View → Structure → List Child → Indexed → Plan
unfolding group_of has_group
group_plan body v s children m =
    let bytes = group_of body v s children m.index in
    pick (has_group s m.index children) (one (group_entry m.index bytes) bytes) end

-- ---- the whole
-- attributes, children, 9, groups
unfoldable pub members_plan : List ℕ → Structure → Opened → Plan
unfolding one_by_one followed_by attribute_plan child_plan group_plan children_of
members_plan body s o =
    let kids = children_of o.root in
    let attributes = one_by_one (attribute_plan o.root.start.attributes) (members_of s) in
    let children = one_by_one (child_plan body o.seen s) kids in
    let groups = one_by_one (group_plan body o.seen s kids) (members_of s) in
    followed_by attributes (followed_by children (followed_by (end_test o.seen.ill_formed) groups))

-- the root element by its rows: to the row that closes it, whatever its name; to the end of the view where none does
unfoldable pub root_piece : List ℕ → Opened → Piece
unfolding closing is_closed
root_piece body o =
    let rows = drop o.root.start.row o.seen.rows in
    piece_to body o.seen o.root (pick (is_closed 0 rows) (last_position 0 (take (closing 0 rows) rows)) o.seen.ends)

abbrev pub root_plan : Piece → Option Indexed → Plan
root_plan piece none = end
root_plan piece (some m) = one (piece_entry m.index piece) []

-- "Unwrapped: 9, then one piece (the root element alone ..) or none, 10."
unfoldable pub unwrapped_plan : List ℕ → Structure → Opened → Plan
unfolding followed_by first_named indexed root_piece
unwrapped_plan body s o = followed_by (end_test o.seen.ill_formed) (root_plan (root_piece body o) (resolve s o.root.start.name.local))

-- "5 root name"
abbrev pub with_root_name : Bool → Bool → Plan → Plan
with_root_name false matches p = p
with_root_name true true p = p
with_root_name true false p = stop Refusal.RootName

unfoldable pub opened_plan : List ℕ → Settings → ShapeDepth → Asked Structure → Plan
unfolding name_matches members_plan unwrapped_plan
opened_plan body settings depth a =
    let s = a.sheet in
    let unwrapped = unwrapped_plan body s a.opened in
    let wrapped = members_plan body s a.opened in
    with_root_name (tests_root_name settings depth) (name_matches a.opened.root.start.name (root_name s))
    (pick s.unwrapped unwrapped wrapped)

-- "Structure. 1, 2, 3, 4, 5, then as met: 10, and 9 after the children."
unfoldable pub structure_plan : Upload → Call → Plan
unfolding asked structure_of opened_plan
structure_plan u call =
    asking (asked u (structure_of call.sheet) call.settings call.depth) (opened_plan u.body call.settings call.depth) stop

-- "Room is now tested group by group, so the groups before the one that does not fit stay written" (change request 2): as of any entry
unfoldable pub structure_reading : Upload → Call → Room → Reading
unfolding perform structure_plan
structure_reading u call room = perform room (structure_plan u call) nothing
