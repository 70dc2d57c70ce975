-- Fields at the front of a sheet's bytes (01, "Sheets and entries"): "A sheet is a bit map byte, then only the fields whose bit stands, in
-- bit order; higher bits are 0. A name is a length byte 1..255, then bytes." .. "The sheet ends with its last field."
use Rattle.std.specs.Prelude.{ℕ, zero, suc, ◌/◌, ◌%◌, Bool, true, false, List, [], ◌∷◌, eqb, leb, ltb, length, take, drop}
use Rattle.std.proofs.Math.Option.{Option, none, some}
use Rattle.lists.specs.Tests.{pick}

-- a field that stands at the front, and the bytes after it; or it is broken
pub data Front (A : Type 0) : Type 0 where
  front : A → List ℕ → Front A
  broken : Front A

abbrev pub then : {A B : Type 0} → Front A → (A → List ℕ → Front B) → Front B
then (front a rest) f = f a rest
then broken f = broken

-- where the test holds
abbrev pub where_holds : {A : Type 0} → Bool → Front A → Front A
where_holds true f = f
where_holds false f = broken

abbrev pub byte : List ℕ → Front ℕ
byte [] = broken
byte (b ∷ rest) = front b rest

-- a bit map of so many values: "higher bits are 0"
abbrev pub bit_map : ℕ → List ℕ → Front ℕ
bit_map values s = then (byte s) (λ b rest. where_holds (ltb b values) (front b rest))

-- the bit of value v (1, 2, 4, ..) stands in b
abbrev pub bit : ℕ → ℕ → Bool
bit v b = eqb (b / v % 2) 1

-- "A name is a length byte 1..255, then bytes."
abbrev pub name : List ℕ → Front (List ℕ)
name s = then (byte s) (λ n rest. where_holds (pick (leb 1 n) (leb n (length rest)) false) (front (take n rest) (drop n rest)))

-- a name that is there where its bit stands
abbrev pub name_if : Bool → List ℕ → Front (Option (List ℕ))
name_if true s = then (name s) (λ n rest. front (some n) rest)
name_if false s = front none s

-- so many fields of one kind, one after another
unfoldable pub times : {A : Type 0} → (List ℕ → Front A) → ℕ → List ℕ → Front (List A)
times field zero s = front [] s
times field (suc n) s = then (field s) (λ a rest. then (times field n rest) (λ l end. front (a ∷ l) end))

-- "The sheet ends with its last field."
abbrev pub all : {A : Type 0} → Front A → Option A
all (front a []) = some a
all (front a (b ∷ rest)) = none
all broken = none
