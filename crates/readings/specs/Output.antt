-- What a reading writes: entries and texts (01, "Sheets and entries"), in the room that was lent.
use Rattle.std.specs.Prelude.{ℕ, ◌+◌, Bool, false, List, [], ◌∷◌, ◌++◌, ltb, leb, length}
use Rattle.lists.specs.Tests.{pick}
use Rattle.refusal.specs.declared.Refusal.{Refusal}
use Rattle.refusal.specs.Numbers.{number, place}
use Rattle.document.specs.declared.part.Piece.{Piece}

-- "An entry is six 32-bit numbers: kind, member index (0 for items and map entries), key start and length (0, 0 outside maps), start,
-- length."
pub record Entry : Type 0 where
  pub kind : ℕ
  pub member : ℕ
  pub key_start : ℕ
  pub key_len : ℕ
  pub start : ℕ
  pub len : ℕ

-- "Kinds: 1 text in the text buffer; 2 piece of the body; 3 gathered group in the text buffer ..; 4 failed text, start being its number
-- 6 to 9, length 0" (with 7 the length is a place: `failed_entry`)
abbrev pub text_kind : ℕ
text_kind = 1

abbrev pub piece_kind : ℕ
piece_kind = 2

abbrev pub group_kind : ℕ
group_kind = 3

abbrev pub failed_kind : ℕ
failed_kind = 4

-- how many entries, and how many text bytes, there is room for
pub record Room : Type 0 where
  pub entries : ℕ
  pub bytes : ℕ

-- the entries and the text bytes written so far: "Texts and groups follow one another in the text buffer from 0 without gaps."
pub record Output : Type 0 where
  pub entries : List Entry
  pub texts : List ℕ

abbrev pub nothing : Output
nothing = record { entries = []; texts = [] }

-- a reading that finished, or that was refused: "A refusal keeps the entries and texts already written, counted" (demand 1)
pub data Reading : Type 0 where
  finished : Output → Reading
  refused : Refusal → Output → Reading

abbrev pub output : Reading → Output
output (finished out) = out
output (refused r out) = out

-- ---- what is told of a reading: its number, 0 where it finished; the place beside it; the entries, counted, as six numbers each; and the
-- text bytes
abbrev pub six_numbers : Entry → List ℕ
six_numbers e = e.kind ∷ e.member ∷ e.key_start ∷ e.key_len ∷ e.start ∷ e.len ∷ []

unfoldable pub numbers_of : List Entry → List ℕ
numbers_of [] = []
numbers_of (e ∷ l) = six_numbers e ++ numbers_of l

pub record Told : Type 0 where
  pub number : ℕ
  pub place : ℕ
  pub count : ℕ
  pub entries : List ℕ
  pub texts : List ℕ

abbrev pub outcome : Reading → ℕ
outcome (finished out) = 0
outcome (refused r out) = number r

-- the place beside the number (change request 1): 0 where the number is not 7
abbrev pub outcome_place : Reading → ℕ
outcome_place (finished out) = 0
outcome_place (refused r out) = place r

abbrev pub told : Reading → Told
told r =
    record {
      number = outcome r;
      place = outcome_place r;
      count = length (output r).entries;
      entries = numbers_of (output r).entries;
      texts = (output r).texts;
    }

-- ---- "An entry and its text are written only if both fit"
abbrev pub fits : Room → List ℕ → Output → Bool
fits room bytes out = pick (ltb (length out.entries) room.entries) (leb (length out.texts + length bytes) room.bytes) false

-- an entry more, made with the place where its bytes begin in the text buffer, and its bytes
abbrev pub appended : (ℕ → Entry) → List ℕ → Output → Output
appended entry bytes out = record { entries = out.entries ++ entry (length out.texts) ∷ []; texts = out.texts ++ bytes }

-- ---- the entries of each kind, made with the place where their bytes begin in the text buffer
-- an entry outside maps
abbrev pub keyless : ℕ → ℕ → ℕ → ℕ → Entry
keyless kind member start len = record { kind = kind; member = member; key_start = 0; key_len = 0; start = start; len = len }

abbrev pub text_entry : ℕ → List ℕ → ℕ → Entry
text_entry member bytes at = keyless text_kind member at (length bytes)

abbrev pub piece_entry : ℕ → Piece → ℕ → Entry
piece_entry member piece at = keyless piece_kind member piece.start piece.len

abbrev pub group_entry : ℕ → List ℕ → ℕ → Entry
group_entry member bytes at = keyless group_kind member at (length bytes)

-- change request 1: "the length field of an entry of kind 4 whose number is 7 (other numbers keep 0)" is the place of the failing `&`
abbrev pub failed_entry : ℕ → Refusal → ℕ → Entry
failed_entry member refusal at = keyless failed_kind member (number refusal) (place refusal)

-- a map entry: "A map writes the key before the value."
abbrev pub key_text_entry : List ℕ → List ℕ → ℕ → Entry
key_text_entry key bytes at =
    record { kind = text_kind; member = 0; key_start = at; key_len = length key; start = at + length key; len = length bytes }

abbrev pub key_piece_entry : List ℕ → Piece → ℕ → Entry
key_piece_entry key piece at =
    record { kind = piece_kind; member = 0; key_start = at; key_len = length key; start = piece.start; len = piece.len }
