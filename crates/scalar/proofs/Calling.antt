-- Laws of a call of an operation that gives an answer as a number and values.
use Prim.Native.Nat.{ℕ}
use mathlib.Core.Path.{◌≡◌, refl, ◌∙◌, ap}
use mathlib.Core.Bool.{Bool}
use mathlib.Core.List.{List}
use borrow.Author.Rules.{rules}
use lib.IntN.{ℤ}
use Rattle.std.specs.Prelude.{Result}
use Rattle.refusal.specs.declared.Refusal.{Refusal}
use Rattle.refusal.specs.Answer.{Answer, gives, refuses}
use Rattle.document.specs.declared.part.Piece.{Piece}
use Rattle.document.specs.Part.{copied_as, length_in, CopyIs}
use Rattle.scalar.specs.Answers.{answer}
use Rattle.scalar.specs.Find.{FindingIs}
use Rattle.scalar.specs.Calls.{number_of, place_of, written_of, BooleanCall, IntegerCall, LengthCall, StringCall, FindCall}
use Rattle.scalar.specs.Calls.{BooleanRead, IntegerRead, LengthRead, StringRead}

pub call_boolean : {is x : Answer Bool} {old new r : ℕ} → BooleanCall x old new r → x ≡ is → BooleanCall is old new r
call_boolean c e = rw e at c

pub call_integer : {is x : Answer ℤ} {old new : ℤ} {r : ℕ} → IntegerCall x old new r → x ≡ is → IntegerCall is old new r
call_integer c e = rw e at c

pub call_string : {is : Answer (List ℕ)} {old new : List ℕ} {x : Result ℕ Refusal} {n r : ℕ} → CopyIs is old new x
    → LengthCall (copied_as x) n r
    → StringCall is old new n r
call_string {is} y c =
    record { number = c.number ∙ (ap number_of y.number ∙ same is); written = c.written ∙ ap written_of y.number; buffer = y.buffer }
  where
    same : (a : Answer (List ℕ)) → number_of (length_in a) ≡ number_of a
    same (gives l) = refl
    same (refuses r) = refl

-- a reading of a body tells the place too
pub read_boolean : {is x : Answer Bool} {old new p r : ℕ} → BooleanRead x old new p r → x ≡ is → BooleanRead is old new p r
read_boolean c e = rw e at c

pub read_integer : {is x : Answer ℤ} {old new : ℤ} {p r : ℕ} → IntegerRead x old new p r → x ≡ is → IntegerRead is old new p r
read_integer c e = rw e at c

pub read_string : {is : Answer (List ℕ)} {old new : List ℕ} {x : Result ℕ Refusal} {n p r : ℕ} → CopyIs is old new x
    → LengthRead (copied_as x) n p r
    → StringRead is old new n p r
read_string {is} y c = record { call = call_string y c.call; place = c.place ∙ (ap place_of y.number ∙ same is) }
  where
    same : (a : Answer (List ℕ)) → place_of (length_in a) ≡ place_of a
    same (gives l) = refl
    same (refuses r) = refl

pub call_find : {body : List ℕ} {is : Answer Piece} {x : Result Piece Refusal} {from size r : ℕ} → FindingIs body is x
    → FindCall (answer x) from size r
    → FindCall is from size r
call_find y c = rw y.is at c

pub ruleset call_laws =
    (rules, call_boolean, call_integer, call_string, read_boolean, read_integer, read_string, call_find)
