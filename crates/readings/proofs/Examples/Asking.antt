-- What the examples ask with, and how a question stands beside its answer.
use Prim.Native.Nat.{ℕ}
use Prim.Native.String.{String}
use mathlib.Core.Path.{◌≡◌}
use mathlib.Core.Bool.{Bool, true, false}
use mathlib.Core.List.{List, ◌∷◌, ◌++◌, map}
use lib.ListN.{length}
use Rattle.lists.specs.Bytes.{ascii}
use Rattle.sheet.specs.declared.ShapeDepth.{ShapeDepth}
use Rattle.sheet.specs.declared.Settings.{Settings}
use Rattle.readings.specs.Call.{uploaded, calling}
use Rattle.readings.specs.Output.{Room, Told, told}
use Rattle.readings.specs.Shape.{Shape, read}

-- ---- settings, shape depth and room
-- the maximum depth, validate_document, validate_root_name and strict_collection_element_names
abbrev pub settings : ℕ → Bool → Bool → Bool → Settings
settings maximum document root_name names =
    record { max_depth = maximum; validate_document = document; validate_root_name = root_name; strict_collection_element_names = names }

-- with 01's maximum depth in the edges: no flag; validate_document alone; validate_root_name alone; strict_collection_element_names alone
abbrev pub lenient : Settings
lenient = settings 128 false false false

abbrev pub strict : Settings
strict = settings 128 true false false

abbrev pub root_names : Settings
root_names = settings 128 false true false

abbrev pub item_names : Settings
item_names = settings 128 false false true

abbrev pub shape : ℕ → ShapeDepth
shape d = record { 0 = d }

-- entries, and text bytes
abbrev pub room : ℕ → ℕ → Room
room entries bytes = record { entries = entries; bytes = bytes }

abbrev pub enough : Room
enough = room 8 64

-- a name in a sheet
abbrev pub named : String → List ℕ
named s = length (ascii s) ∷ ascii s

-- a structure sheet of which no bit stands, of shape `s`: its count and members follow
abbrev pub plain : List ℕ → List ℕ
plain members = 0 ∷ named "s" ++ members

-- sheets that many questions have: a scalar `a`; scalars `a` and `b`; an unwrapped structure with an aggregate `a`; a map whose key and
-- value are named `k` and `v`
abbrev pub scalar_a : List ℕ
scalar_a = plain (1 ∷ 2 ∷ named "a")

abbrev pub scalars_ab : List ℕ
scalars_ab = plain (2 ∷ 2 ∷ named "a" ++ (2 ∷ named "b"))

abbrev pub unwrapped_a : List ℕ
unwrapped_a = 8 ∷ named "s" ++ (1 ∷ 18 ∷ named "a")

abbrev pub keyed : List ℕ
keyed = 14 ∷ named "k" ++ named "v"

-- ---- a question and its answer
pub data Question : Type 0 where
  reading : (shape : Shape) (body : String) (table : List ℕ) (final : ℕ) (sheet : List ℕ) (settings : Settings) (depth : ℕ) (room : Room)
      → Question

abbrev pub ask : Question → Told
ask (reading s body table final sheet settings depth room) =
    told (read s (uploaded (ascii body) table final) (calling sheet settings (shape depth)) room)

-- an answer: the number, the place beside it, the count, the six numbers of each entry, and the text bytes
abbrev pub answer_at : ℕ → ℕ → ℕ → List ℕ → String → Told
answer_at number place count entries texts =
    record { number = number; place = place; count = count; entries = entries; texts = ascii texts }

-- one that is not 7: the place is 0
abbrev pub answer : ℕ → ℕ → List ℕ → String → Told
answer number count entries texts = answer_at number 0 count entries texts

pub data Case (Q A : Type 0) : Type 0 where
  case : Q → A → Case Q A

abbrev pub question : {Q A : Type 0} → Case Q A → Q
question (case q a) = q

abbrev pub expected : {Q A : Type 0} → Case Q A → A
expected (case q a) = a

-- each question gets the answer beside it
abbrev pub Answered : {Q A : Type 0} → (Q → A) → List (Case Q A) → Type 0
Answered {Q} {A} f cases = map (λ (c : Case Q A). f (question c)) cases ≡ map (λ (c : Case Q A). expected c) cases
