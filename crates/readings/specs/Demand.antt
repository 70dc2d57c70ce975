-- DEMAND 3. Each notion follows a part of its sentence; the theorem is `demand_3` in proofs/Demand/Theorem.antt.
use Rattle.std.specs.Prelude.{ℕ, ◌+◌, ◌≤◌, ◌<◌, ◌≡◌, true, false, length}
use mathlib.Core.List.{List, [], ◌∷◌, ◌++◌, Memᴰ}
use Rattle.std.proofs.Math.Option.{none, some}
use Rattle.lists.specs.Bytes.{ascii, sameb}
use Rattle.lists.specs.Every.{Every}
use Rattle.refusal.specs.declared.Refusal.{Refusal}
use Rattle.refusal.specs.Answer as answer
use Rattle.refusal.specs.Numbers.{number}
use Rattle.table.specs.Row.{cut, rows_of, toks_of}
use Rattle.xml.specs.Passed.{Passed}
use Rattle.xml.specs.Piece.{PieceAt, ElementPiece}
use Rattle.table.specs.Names.{name_matches}
use Rattle.document.specs.View.{whole}
use Rattle.document.specs.Scope.{Child, children_of, root_of}
use Rattle.document.specs.Text.{text_of}
use Rattle.sheet.specs.declared.ShapeDepth.{ShapeDepth}
use Rattle.sheet.specs.declared.Settings.{Settings}
use Rattle.sheet.specs.Settings.{tests_root_name}
use Rattle.sheet.specs.Sheet.{Structure, structure_of, ListSheet, MapSheet}
use Rattle.sheet.specs.Names.{root_name, item_name, entry_name, key_name, value_name, value_aggregate}
use Rattle.readings.specs.Call.{Upload, Call}
use Rattle.readings.specs.Output.{Entry, text_kind, piece_kind, group_kind, failed_kind, Room, Output, nothing, appended}
use Rattle.readings.specs.Output.{Reading, finished, refused}
use Rattle.readings.specs.Plan.{Plan, put}
use Rattle.readings.specs.Opening.{Asked}
use Rattle.readings.specs.Structure.{in_group}
use Rattle.readings.specs.Collection.{is_wanted, entries_of}
use Rattle.readings.specs.Shape.{Shape, structure, map, strings, SheetOf, sheet_of, plan_of, read}

-- ---- "For every body and table that the strict drain passes, a later structure, list or map reading .. is refused only for"
-- what is read of such a table: the sheet that its bytes say, all the rows, and the root
pub record ReadOf (u : Upload) (sheet : List ℕ) (shape : Shape) (a : Asked (SheetOf shape)) : Type 0 where
  pub says : sheet_of shape sheet ≡ some a.sheet
  pub seen : a.opened.seen ≡ whole (rows_of u.rows) u.end
  pub root : root_of (toks_of u.body (rows_of u.rows)) ≡ some a.opened.root

-- "the root's name": of a structure it is tested, and does not match
pub data RootDiffers (settings : Settings) (depth : ShapeDepth) : (shape : Shape) → Asked (SheetOf shape) → Type 0 where
  differs : (a : Asked Structure) → tests_root_name settings depth ≡ true
      → name_matches a.opened.root.start.name (root_name a.sheet) ≡ false → RootDiffers settings depth structure a

-- "where text is wanted": of a field that is a key ("a child named as both .. is a key"), or a value that is not aggregate
pub data TextField (m : MapSheet) (c : Child) : Type 0 where
  is_key : sameb c.start.name.local (key_name m) ≡ true → TextField m c
  is_plain_value : sameb c.start.name.local (key_name m) ≡ false → sameb c.start.name.local (value_name m) ≡ true
      → value_aggregate m ≡ false → TextField m c

-- of a string list's item, and of such a field of a map entry; a structure's scalar that fails is an entry of kind 4, and no refusal
pub data TextWanted (settings : Settings) : (shape : Shape) → Asked (SheetOf shape) → Child → Type 0 where
  of_item : (a : Asked ListSheet) {c : Child} → Memᴰ c (children_of a.opened.root)
      → is_wanted (item_name settings a.sheet) c ≡ true → TextWanted settings strings a c
  of_field : (a : Asked MapSheet) {e c : Child} → Memᴰ e (entries_of (entry_name settings a.sheet) a.opened.root)
      → is_wanted (entry_name settings a.sheet) e ≡ true → Memᴰ c (children_of e) → TextField a.sheet c
      → TextWanted settings map a c

-- "no room": a plan, whatever the room, writes from one output to another, and there another plan is left of it
pub data Reaches : Plan → Output → Plan → Output → Type 0 where
  here : {p : Plan} {out : Output} → Reaches p out p out
  later : {entry : ℕ → Entry} {bytes : List ℕ} {p q : Plan} {out last : Output} → Reaches p (appended entry bytes out) q last
      → Reaches (put entry bytes p) out q last

pub data Exceeds (room : Room) (out : Output) : Type 0 where
  too_many : room.entries < length out.entries → Exceeds room out
  too_long : room.bytes < length out.texts → Exceeds room out

-- "a broken sheet, the depth limit, no root, the root's name, an element where text is wanted, or no room": the numbers 2, 3, 4, 5, 6
-- and 10, "each where its condition holds"; no room: with the plan's next entry and its bytes `out`, which is kept, exceeds it
pub data MayRefuse (u : Upload) (call : Call) (room : Room) (shape : Shape) (out : Output) : Refusal → Type 0 where
  broken_sheet : sheet_of shape call.sheet ≡ none → MayRefuse u call room shape out Refusal.Sheet
  depth_limit : call.settings.max_depth ≤ call.depth.0 → MayRefuse u call room shape out Refusal.Depth
  no_root : root_of (toks_of u.body (rows_of u.rows)) ≡ none → MayRefuse u call room shape out Refusal.NoRoot
  other_root_name : (a : Asked (SheetOf shape)) → ReadOf u call.sheet shape a → RootDiffers call.settings call.depth shape a
      → MayRefuse u call room shape out Refusal.RootName
  element_in_text : (a : Asked (SheetOf shape)) (c : Child) → ReadOf u call.sheet shape a → TextWanted call.settings shape a c
      → text_of a.opened.seen c ≡ answer.refuses Refusal.ElementInText → MayRefuse u call room shape out Refusal.ElementInText
  no_room : {entry : ℕ → Entry} {bytes : List ℕ} {more : Plan} → Reaches (plan_of shape u call) nothing (put entry bytes more) out
      → Exceeds room (appended entry bytes out) → MayRefuse u call room shape out Refusal.NoRoom

-- ---- "Each piece it hands out, finished or refused, is exactly its element's bytes from `<` to the end of its end tag or `/>`, and that
-- element's rows, counted from the piece's first byte, obey the table rules and pass the drain again": `ElementPiece`. In a group are the
-- pieces, so said, of the children that its member is resolved from.
pub data Siblings (u : Upload) (s : Structure) (i : ℕ) : List Child → List ℕ → Type 0 where
  no_more_children : Siblings u s i [] []
  sibling : {c : Child} {l : List Child} {from len : ℕ} {more : List ℕ} → PieceAt u.body u.rows c.start.row from len
      → in_group s i c ≡ true → Siblings u s i l more → Siblings u s i (c ∷ l) (cut u.body from len ++ more)
  stranger : {c : Child} {l : List Child} {more : List ℕ} → in_group s i c ≡ false → Siblings u s i l more → Siblings u s i (c ∷ l) more

pub record GroupBytes (u : Upload) (sheet : List ℕ) (member : ℕ) (bytes : List ℕ) : Type 0 where
  pub structure : Structure
  pub says : structure_of sheet ≡ some structure
  pub root : Child
  pub is_root : root_of (toks_of u.body (rows_of u.rows)) ≡ some root
  pub gathered : List ℕ
  pub siblings : Siblings u structure member (children_of root) gathered
  pub are : bytes ≡ ascii "<__flat>" ++ (gathered ++ ascii "</__flat>")

pub record Handed (u : Upload) (sheet texts : List ℕ) (e : Entry) : Type 0 where
  pub kinds : (text_kind ≤ e.kind) × (e.kind ≤ failed_kind)
  pub key : e.key_start + e.key_len ≤ length texts
  pub text : e.kind ≡ text_kind → e.start + e.len ≤ length texts
  pub piece : e.kind ≡ piece_kind → ElementPiece u.body u.rows e.start e.len
  pub group : e.kind ≡ group_kind → (e.start + e.len ≤ length texts) × GroupBytes u sheet e.member (cut texts e.start e.len)
  -- a text that failed has an element inside, and nothing else is wrong with it
  pub failed : e.kind ≡ failed_kind → (e.start ≡ number Refusal.ElementInText) × (e.len ≡ 0)

-- ---- "finished or refused"; "strict or lenient, with any sheet, settings, depth and buffers"
pub data Promised (u : Upload) (call : Call) (room : Room) (shape : Shape) : Reading → Type 0 where
  finishes : {out : Output} → Every (Handed u call.sheet out.texts) out.entries → Promised u call room shape (finished out)
  refuses : {r : Refusal} {out : Output} → MayRefuse u call room shape out r → Every (Handed u call.sheet out.texts) out.entries
      → Promised u call room shape (refused r out)

abbrev pub Demand3 : Type 0
Demand3 = (u : Upload) → Passed u.body u.rows u.end → (shape : Shape) (call : Call) (room : Room)
    → Promised u call room shape (read shape u call room)
