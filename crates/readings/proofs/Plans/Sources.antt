-- What may be written of an opened body: texts, pieces, groups, failed texts and map entries, each of something that is said of it.
use Prim.Native.Nat.{ℕ}
use mathlib.Core.Path.{◌≡◌}
use mathlib.Core.List.{List, [], ◌++◌, Memᴰ}
use mathlib.Core.Option.{Option, some}
use Rattle.refusal.specs.declared.Refusal.{Refusal}
use Rattle.refusal.specs.Answer.{gives, refuses}
use Rattle.document.specs.declared.part.Piece.{Piece}
use Rattle.document.specs.Scope.{Child, children_of, piece_of}
use Rattle.document.specs.Text.{text_of}
use Rattle.sheet.specs.Sheet.{Structure}
use Rattle.sheet.specs.Names.{Indexed, members_of}
use Rattle.readings.specs.Output.{Entry, text_entry, piece_entry, group_entry, failed_entry, key_text_entry, key_piece_entry}
use Rattle.readings.specs.Opening.{Opened, Asked}
use Rattle.readings.specs.Structure.{attribute_of, group_of, root_piece}
use Rattle.readings.specs.Collection.{entries_of}
use Rattle.readings.specs.Shape.{Shape, structure, list, map, strings, SheetOf}

-- ---- what may be written: of a member of which M holds, a text of which T holds, a refusal of which F holds, a group of which G holds, a
-- piece of which P holds
pub data Source (M : ℕ → Type 0) (T : List ℕ → Type 0) (F : Refusal → Type 0) (G : ℕ → List ℕ → Type 0) (P : Piece → Type 0) : (ℕ → Entry)
    → List ℕ → Type 0 where
  of_text_lem : {i : ℕ} {b : List ℕ} → M i → T b → Source M T F G P (text_entry i b) b
  of_failed : {i : ℕ} {r : Refusal} → M i → F r → Source M T F G P (failed_entry i r) []
  of_piece : {i : ℕ} {p : Piece} → M i → P p → Source M T F G P (piece_entry i p) []
  of_group : {i : ℕ} {b : List ℕ} → M i → G i b → Source M T F G P (group_entry i b) b
  of_key_text : {k b : List ℕ} → T k → T b → Source M T F G P (key_text_entry k b) (k ++ b)
  of_key_piece : {k : List ℕ} {p : Piece} → T k → P p → Source M T F G P (key_piece_entry k p) k

-- nothing is said of it
abbrev pub Anything : {A : Type 0} → A → Type 0
Anything a = Unit {0}

-- ---- what there is to be written of an opened body. Here holds of the root, and of the children that are met
pub record Sources (Here : Child → Type 0) (T : List ℕ → Type 0) (F : Refusal → Type 0) (P : Piece → Type 0) (body : List ℕ)
    (o : Opened) : Type 0 where
  pub root : Here o.root
  pub children : (c : Child) → Here c → (x : Child) → Memᴰ x (children_of c) → Here x
  pub entries : (name : Option (List ℕ)) (c : Child) → Here c → (x : Child) → Memᴰ x (entries_of name c) → Here x
  pub text : (c : Child) → Here c → (b : List ℕ) → text_of o.seen c ≡ gives b → T b
  pub failed : (c : Child) → Here c → (r : Refusal) → text_of o.seen c ≡ refuses r → F r
  pub piece : (c : Child) → Here c → P (piece_of body o.seen c)

-- of a structure besides
pub record StructureSources (M : ℕ → Type 0) (T : List ℕ → Type 0) (G : ℕ → List ℕ → Type 0) (P : Piece → Type 0) (body : List ℕ)
    (s : Structure) (o : Opened) : Type 0 where
  pub member : (m : Indexed) → Memᴰ m (members_of s) → M m.index
  pub attribute : (name v : List ℕ) → attribute_of o.root.start.attributes name ≡ some v → T v
  pub group : (i : ℕ) → G i (group_of body o.seen s (children_of o.root) i)
  pub root : P (root_piece body o)

abbrev pub ShapeSources : (M : ℕ → Type 0) (T : List ℕ → Type 0) (G : ℕ → List ℕ → Type 0) (P : Piece → Type 0) → List ℕ → (shape : Shape)
    → Asked (SheetOf shape) → Type 0
ShapeSources M T G P body structure a = StructureSources M T G P body a.sheet a.opened
ShapeSources M T G P body list a = M 0
ShapeSources M T G P body map a = M 0
ShapeSources M T G P body strings a = M 0
