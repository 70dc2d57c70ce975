-- What the lent buffers hold: what was written at the front, all else as before. And what a plan that is performed leaves in them.
use Rattle.std.specs.Prelude.{ℕ, ◌+◌, ◌*◌, ◌/◌, ◌-◌, ◌^◌, ◌≤◌, ◌<◌, ◌≡◌, Bool, false, List, Result, Ok, Err, min, ltb, leb, length}
use Rattle.std.specs.Borrow.{MutBor}
use Rattle.std.proofs.lemmas.List.Edits.{sets}
use Rattle.lists.specs.Tests.{pick}
use Rattle.lists.specs.Overwrite.{overwritten}
use Rattle.refusal.specs.declared.Refusal.{Refusal}
use Rattle.readings.specs.Output.{Room, Output, nothing, Reading, finished, refused, output, numbers_of, six_numbers}
use Rattle.readings.specs.Plan.{Plan, perform}
use Rattle.output.specs.declared.entry.Entry.{Entry}
use Rattle.output.specs.declared.Output.{Output as Buffers}
use Rattle.output.specs.Entry.{entry_of}
use Rattle.output.specs.Call.{room_of}

-- the room of two buffers of these lengths: no more text is written than has places of 32 bits, and no reading comes to more
abbrev pub room_in : ℕ → ℕ → Room
room_in e t = record { entries = e / 6; bytes = min t (2 ^ 32 - 1) }

-- the buffers, which held e and t at first, hold all of an output at their fronts, and count it
pub record Holds (out : Output) (e t : List ℕ) (b : Buffers) : Type 0 where
  pub count : b.count ≡ length out.entries
  pub used : b.used ≡ length out.texts
  pub entries : b.entries.now ≡ overwritten e (numbers_of out.entries)
  pub texts : b.texts.now ≡ overwritten t out.texts
  pub same_entries : length b.entries.now ≡ length e
  pub same_texts : length b.texts.now ≡ length t
  pub bytes : length out.texts ≤ (room_in (length e) (length t)).bytes

-- what an answer says of the reading so far
abbrev pub reading_of : {A : Type 0} → Result A Refusal → Output → Reading
reading_of (Ok a) out = finished out
reading_of (Err r) out = refused r out

-- the answer of a step that tells more than that it went on
abbrev pub done : {A : Type 0} → Result A Refusal → Result (Unit {0}) Refusal
done (Ok a) = Ok tt
done (Err r) = Err r

-- the buffers hold what a reading wrote, and the answer is its answer
pub record Ends (x : Reading) (e t : List ℕ) (b : Buffers) (r : Result (Unit {0}) Refusal) : Type 0 where
  pub is : x ≡ reading_of r (output x)
  pub holds : Holds (output x) e t b

-- they are the buffers that they were
pub record SameBuffers (b b' : Buffers) : Type 0 where
  pub entries : b'.entries.ghost_name ≡ b.entries.ghost_name
  pub texts : b'.texts.ghost_name ≡ b.texts.ghost_name

-- THE PROMISE of a function that writes: whatever the buffers held at first, if they hold an output as it is called, they end as the
-- definition's plan ends that is performed from that output on
pub record Does (plan : Plan) (b b' : Buffers) (r : Result (Unit {0}) Refusal) : Type 0 where
  pub is : {e t : List ℕ} {out : Output} → Holds out e t b
      → Ends (perform (room_in (length e) (length t)) plan out) e t b' r
  pub same : SameBuffers b b'

-- where nothing is written yet, its plan ends in the whole room that was lent
pub record Whole (plan : Plan) (b b' : Buffers) (r : Result (Unit {0}) Refusal) : Type 0 where
  pub is : b.count ≡ 0 → b.used ≡ 0
      → Ends (perform (room_of b.entries.now b.texts.now) plan nothing) b.entries.now b.texts.now b' r

-- ---- a function that asks no room for texts
-- two buffers, which held e and t at first and hold e' and t', hold all of an output at their fronts; n and m count its entries and texts,
-- however many bytes these are
pub record HoldsAny (out : Output) (e t e' t' : List ℕ) (n m : ℕ) : Type 0 where
  pub count : n ≡ length out.entries
  pub used : m ≡ length out.texts
  pub entries : e' ≡ overwritten e (numbers_of out.entries)
  pub texts : t' ≡ overwritten t out.texts
  pub same_entries : length e' ≡ length e
  pub same_texts : length t' ≡ length t
  pub bytes : length out.texts ≤ length t

-- they hold what a reading wrote, and the answer is its answer
pub record EndsAny (x : Reading) (e t e' t' : List ℕ) (n m : ℕ) (r : Result (Unit {0}) Refusal) : Type 0 where
  pub is : x ≡ reading_of r (output x)
  pub holds : HoldsAny (output x) e t e' t' n m

-- ITS PROMISE: whatever the texts x are that the counts are of, the entries end as the definition's plan ends in the whole room of both;
-- and the texts that stand beside the entries stay as they are
pub record Enters (plan : Plan) (b b' : Buffers) (r : Result (Unit {0}) Refusal) : Type 0 where
  pub is : (x : List ℕ) {e t : List ℕ} {out : Output} → HoldsAny out e t b.entries.now x b.count b.used
      → EndsAny (perform (room_of e t) plan out) e t b'.entries.now x b'.count b'.used r
  pub texts : b'.texts.now ≡ b.texts.now

-- what is counted as written lies in the buffers, and its texts in places of 32 bits; so where nothing is written yet
pub record Counted (b : Buffers) : Type 0 where
  pub entries : b.count * 6 ≤ length b.entries.now
  pub texts : b.used ≤ min (length b.texts.now) (2 ^ 32 - 1)

-- nothing is written yet into two buffers
pub record Begun (e t : MutBor (List ℕ)) (b : Buffers) : Type 0 where
  pub entries : b.entries ≡ e
  pub texts : b.texts ≡ t
  pub count : b.count ≡ 0
  pub used : b.used ≡ 0

-- ---- the two steps of a write
-- there is room for an entry with n bytes of text
pub record Fits (b : Buffers) (n : ℕ) : Type 0 where
  pub entry : b.count < length b.entries.now / 6
  pub bytes : b.used + n ≤ min (length b.texts.now) (2 ^ 32 - 1)

-- the place of its bytes, where there is room
abbrev pub place_in : Buffers → ℕ → Bool → Result ℕ Refusal
place_in b n fits = pick fits (Ok b.used) (Err Refusal.NoRoom)

-- `fits`, in numbers: of the entry, and of both
abbrev pub has_entry : Buffers → Bool
has_entry b = ltb b.count (length b.entries.now / 6)

abbrev pub has_room : Buffers → ℕ → Bool
has_room b n = pick (has_entry b) (leb (b.used + n) (min (length b.texts.now) (2 ^ 32 - 1))) false

pub record PlaceFor (b : Buffers) (n : ℕ) (r : Result ℕ Refusal) : Type 0 where
  pub is : r ≡ pick (has_room b n) (Ok b.used) (Err Refusal.NoRoom)

-- the numbers of an entry stand where the next entry's do, and it is counted with its n bytes
pub record Pushed (entry : Entry) (n : ℕ) (b b' : Buffers) : Type 0 where
  pub entries : b'.entries.now ≡ sets b.entries.now (b.count * 6) (six_numbers (entry_of entry))
  pub texts : b'.texts.now ≡ b.texts.now
  pub count : b'.count ≡ b.count + 1
  pub used : b'.used ≡ b.used + n
  pub same : SameBuffers b b'
