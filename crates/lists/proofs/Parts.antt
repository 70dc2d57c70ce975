-- Laws on parts of lists.
use Prim.Native.Nat.{ℕ, zero, suc, suc-le-suc, ◌-◌, ◌<◌}
use mathlib.Core.Path.{◌≡◌}
use mathlib.Core.List.{List, [], ◌∷◌}
use native.Mathlib.Omega.{arith}
use lib.ListN.{length, get_or, drop, take, length-drop}
use lib.Seq.{take_all}

-- what `&s[k..]` is
pub tail : (k : ℕ) (s : List ℕ) → take (length s - k) (drop k s) ≡ drop k s
tail k s = take_all (length s - k) (drop k s) (omega (arith, length-drop k s))

-- what is not 0 stands in the list
pub get_d_in : (l : List ℕ) (k v : ℕ) → get_or l k 0 ≡ suc v → k < length l
get_d_in [] k v e = absurd (omega arith)
get_d_in (x ∷ xs) zero v e = omega arith
get_d_in (x ∷ xs) (suc k) v e = suc-le-suc (get_d_in xs k v e)
