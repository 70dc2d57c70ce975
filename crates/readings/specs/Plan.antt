-- What a reading hands out, in order, whatever the room: its plan. And the one way in which a plan is performed in a room.
use Rattle.std.specs.Prelude.{ℕ, Bool, true, false, List, [], ◌∷◌}
use Rattle.lists.specs.Tests.{pick}
use Rattle.refusal.specs.declared.Refusal.{Refusal}
use Rattle.readings.specs.Output.{Entry, Room, Output, Reading, finished, refused, fits, appended}

-- an entry, made with the place where its bytes begin in the text buffer, with its bytes, and what comes then; or the end; or a refusal
pub data Plan : Type 0 where
  put : (ℕ → Entry) → List ℕ → Plan → Plan
  end : Plan
  stop : Refusal → Plan

-- "An entry and its text are written only if both fit; else 10": there the plan is left. What was written stays.
unfoldable pub perform : Room → Plan → Output → Reading
perform room (put entry bytes more) out =
    pick (fits room bytes out) (perform room more (appended entry bytes out)) (refused Refusal.NoRoom out)
perform room end out = finished out
perform room (stop r) out = refused r out

-- ---- plans of plans
abbrev pub one : (ℕ → Entry) → List ℕ → Plan
one entry bytes = put entry bytes end

-- a plan, and another after it
unfoldable pub followed_by : Plan → Plan → Plan
followed_by (put entry bytes more) q = put entry bytes (followed_by more q)
followed_by end q = q
followed_by (stop r) q = stop r

-- the plans of the elements of a list, one after another
unfoldable pub one_by_one : {A : Type 0} → (A → Plan) → List A → Plan
unfolding followed_by
one_by_one f [] = end
one_by_one f (x ∷ l) = followed_by (f x) (one_by_one f l)

-- "9 after the children", "9 last": a strict reading of an ill-formed body is refused
abbrev pub end_test : Bool → Plan
end_test true = stop Refusal.IllFormed
end_test false = end
