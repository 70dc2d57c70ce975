-- Each answer as 01's number (refusal/specs/Numbers.antt) and values: 0 where the operation finished. The readings of a body tell the place
-- beside the number; a text of an entry, the whole text and find have none to tell.
use Rattle.std.specs.Prelude.{ℕ, ◌≡◌, Bool, List, ℤ}
use Rattle.lists.specs.Tests.{yes_no}
use Rattle.refusal.specs.Answer.{Answer, gives, refuses}
use Rattle.refusal.specs.Numbers.{number, place}
use Rattle.document.specs.declared.part.Piece.{Piece}
use Rattle.readings.specs.Find.{part_of, refusal_of}
use Rattle.document.specs.Part.{length_in, buffer_after}

abbrev pub number_of : {A : Type 0} → Answer A → ℕ
number_of (gives a) = 0
number_of (refuses r) = number r

-- the place beside the number (change request 1): 0 where the number is not 7
abbrev pub place_of : {A : Type 0} → Answer A → ℕ
place_of (gives a) = 0
place_of (refuses r) = place r

-- ---- a boolean as 1 or 0; what stood there where it is refused
abbrev pub boolean_after : Answer Bool → ℕ → ℕ
boolean_after (gives b) old = yes_no b
boolean_after (refuses r) old = old

pub record BooleanCall (is : Answer Bool) (old new r : ℕ) : Type 0 where
  pub number : r ≡ number_of is
  pub value : new ≡ boolean_after is old

-- that of a body
pub record BooleanRead (is : Answer Bool) (old new p r : ℕ) : Type 0 where
  pub call : BooleanCall is old new r
  pub place : p ≡ place_of is

-- ---- an integer; what stood there where it is refused
abbrev pub integer_after : Answer ℤ → ℤ → ℤ
integer_after (gives z) old = z
integer_after (refuses r) old = old

pub record IntegerCall (is : Answer ℤ) (old new : ℤ) (r : ℕ) : Type 0 where
  pub number : r ≡ number_of is
  pub value : new ≡ integer_after is old

-- that of a body
pub record IntegerRead (is : Answer ℤ) (old new : ℤ) (p r : ℕ) : Type 0 where
  pub call : IntegerCall is old new r
  pub place : p ≡ place_of is

-- ---- how many bytes were written
abbrev pub written_of : Answer ℕ → ℕ
written_of (gives n) = n
written_of (refuses r) = 0

pub record LengthCall (is : Answer ℕ) (n r : ℕ) : Type 0 where
  pub number : r ≡ number_of is
  pub written : n ≡ written_of is

-- that of a body
pub record LengthRead (is : Answer ℕ) (n p r : ℕ) : Type 0 where
  pub call : LengthCall is n r
  pub place : p ≡ place_of is

-- a text in a lent buffer, which held old and now holds new
pub record StringCall (is : Answer (List ℕ)) (old new : List ℕ) (n r : ℕ) : Type 0 where
  pub number : r ≡ number_of is
  pub written : n ≡ written_of (length_in is)
  pub buffer : new ≡ buffer_after is old

-- that of a body
pub record StringRead (is : Answer (List ℕ)) (old new : List ℕ) (n p r : ℕ) : Type 0 where
  pub call : StringCall is old new n r
  pub place : p ≡ place_of is

-- ---- a part of the body; 0 and 0 where it is refused
pub record FindCall (is : Answer Piece) (from size r : ℕ) : Type 0 where
  pub number : r ≡ refusal_of is
  pub start : from ≡ (part_of is).start
  pub len : size ≡ (part_of is).len
