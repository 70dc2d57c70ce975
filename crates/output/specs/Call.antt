-- The promise of a reading that is called from outside: its number, its count, how many text bytes there are, and both buffers, written
-- or not.
use Rattle.std.specs.Prelude.{ℕ, ◌/◌, ◌≡◌, List, Result, Ok, Err, length}
use Rattle.lists.specs.Overwrite.{overwritten}
use Rattle.refusal.specs.declared.Refusal.{Refusal}
use Rattle.refusal.specs.Numbers.{number, place}
use Rattle.readings.specs.Output.{Room, Reading, told}

-- the room of two buffers
abbrev pub room_of : List ℕ → List ℕ → Room
room_of e t = record { entries = length e / 6; bytes = length t }

-- what an answer tells: its number, 0 where the reading finished, and the place beside it
abbrev pub number_of : {A : Type 0} → Result A Refusal → ℕ
number_of (Ok a) = 0
number_of (Err why) = number why

abbrev pub place_of : {A : Type 0} → Result A Refusal → ℕ
place_of (Ok a) = 0
place_of (Err why) = place why

-- `reading` is what the definition says in the room that was lent; e and t are what the buffers held, and e' and t' what they hold; n is
-- the count, m how many text bytes there are, and r the number
pub record ReadingCall (reading : Room → Reading) (e t e' t' : List ℕ) (n m r : ℕ) : Type 0 where
  pub number : r ≡ (told (reading (room_of e t))).number
  pub count : n ≡ (told (reading (room_of e t))).count
  pub used : m ≡ length (told (reading (room_of e t))).texts
  pub entries : e' ≡ overwritten e (told (reading (room_of e t))).entries
  pub texts : t' ≡ overwritten t (told (reading (room_of e t))).texts

-- the place beside the number (change request 1), of a reading that can answer 7; 0 where it answers another
pub record ReadingPlace (reading : Room → Reading) (e t : List ℕ) (at : ℕ) : Type 0 where
  pub place : at ≡ (told (reading (room_of e t))).place
