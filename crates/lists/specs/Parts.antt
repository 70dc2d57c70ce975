-- A part of a list.
use Rattle.std.specs.Prelude.{ℕ, ◌-◌, List, drop, take}

-- the elements from a place up to another
abbrev pub part : List ℕ → ℕ → ℕ → List ℕ
part s from to = take (to - from) (drop from s)
