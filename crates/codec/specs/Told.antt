-- What options of the code say in the words of `sheet`.
use Rattle.std.specs.Prelude.{ℕ, Bool, true, false, List, Option, Some, None}
use Rattle.std.specs.Borrow.{Bor}
use Rattle.std.proofs.Math.Option as defined
use Rattle.std.proofs.Math.Option.{none, some}
use Rattle.sheet.specs.Front.{Front, front, broken}

-- what may be there
abbrev pub told : {A : Type 0} → Option A → defined.Option A
told None = none
told (Some a) = some a

-- what may be there, said by f
abbrev pub told_as : {X A : Type 0} → (X → A) → Option X → defined.Option A
told_as f None = none
told_as f (Some x) = some (f x)

-- whether it is there
abbrev pub is_there : {A : Type 0} → defined.Option A → Bool
is_there none = false
is_there (some a) = true

-- a name that may be there
abbrev pub told_name : Option (Bor (List ℕ)) → defined.Option (List ℕ)
told_name None = none
told_name (Some n) = some n.now

-- ---- steps over the bytes of a sheet
-- what a step made is said by f: that stands at the front, and those bytes are left; or the sheet is broken there
abbrev pub came : {X A : Type 0} → (X → A) → Option X → List ℕ → Front A
came f None rest = broken
came f (Some x) rest = front (f x) rest

abbrev pub itself : {A : Type 0} → A → A
itself a = a

-- the bytes of a name
abbrev pub lent : Bor (List ℕ) → List ℕ
lent n = n.now
