-- A text in quotes as bytes, and whether two lists of bytes are the same.
use Rattle.std.specs.Prelude.{ℕ, Bool, true, false, List, [], ◌∷◌, eqb}
use Prim.Native.Char.{code}
use Prim.Native.String.{String}
use Prim.Native.String as text
use Rattle.lists.specs.Tests.{pick}

-- the bytes of a text of ASCII characters
abbrev pub ascii : String → List ℕ
ascii text.[] = []
ascii (text.◌∷◌ c s) = code c ∷ ascii s

-- two lists are the same
unfoldable pub sameb : List ℕ → List ℕ → Bool
sameb [] [] = true
sameb [] (y ∷ ys) = false
sameb (x ∷ xs) [] = false
sameb (x ∷ xs) (y ∷ ys) = pick (eqb x y) (sameb xs ys) false
