-- Laws on a buffer whose front is overwritten, on stores one after another, and on a tail that was lent to a callee.
use Prim.Native.Nat.{ℕ, suc, ◌+◌, ◌-◌, ◌≤◌}
use mathlib.Core.Path.{◌≡◌, refl, sym, ◌∙◌, ap}
use mathlib.Core.List.{List, [], ◌∷◌, ◌++◌, append_assoc, append-nil}
use native.Mathlib.Nat.{add-zero}
use native.Mathlib.Omega.{arith}
use borrow.Rule.Slice.PartMut.{put_mid}
use lib.ListN.{length, set, take, drop, length-drop, length-append, drop_of_length-le}
use lib.Seq.{length-take-le, drop-drop, sets, sets-eq, take_at, take-append_seam, drop-append-add}
use Rattle.lists.proofs.Parts.{tail}
use Rattle.lists.specs.Overwrite.{overwritten}

pub overwrite_none : (old : List ℕ) → overwritten old [] ≡ old
unfolding overwritten
overwrite_none old = refl

-- more bytes, stored where the written ones end
pub overwrite_more : (old acc new : List ℕ) → length (acc ++ new) ≤ length old
    → sets (overwritten old acc) (length acc) new ≡ overwritten old (acc ++ new)
unfolding overwritten
overwrite_more old acc new h =
    let n : length acc + length new ≡ length (acc ++ new) = sym (length-append acc new) in
    let room : length acc + length new ≤ length (acc ++ drop (length acc) old) =
    omega (arith, n, length-append acc (drop (length acc) old), length-drop (length acc) old) in
    rw (sets-eq new (acc ++ drop (length acc) old) (length acc) room, take-append_seam, drop-append-add, drop-drop, n)

-- a run of stores after another
pub sets_append : (l : List ℕ) (n : ℕ) (xs ys : List ℕ) → sets (sets l n xs) (n + length xs) ys ≡ sets l n (xs ++ ys)
sets_append l n [] ys = rw add-zero
sets_append l n (x ∷ xs) ys =
    let e : n + suc (length xs) ≡ suc n + length xs = omega arith in
    ap (λ (k : ℕ). sets (sets (set l n x) (suc n) xs) k ys) e ∙ sets_append (set l n x) (suc n) xs ys

-- a front that ends with a run of stores
pub take_sets : (l : List ℕ) (n : ℕ) (x : List ℕ) → n + length x ≤ length l → take (n + length x) (sets l n x) ≡ take n l ++ x
take_sets l n x h =
    let q : length (take n l ++ x) ≡ n + length x = omega (arith, length-append (take n l) x, length-take-le n l (omega arith)) in
    ap (take (n + length x)) (sets-eq x l n h) ∙ take_at (take n l ++ x) (drop (n + length x) l) (n + length x) q

-- ---- a callee that was lent the tail `&mut t[n..]`: what it wrote at the tail's front is stored in the whole
-- what `&mut t[n..]` is
abbrev pub rest : List ℕ → ℕ → List ℕ
rest t n = take (length t - n) (drop n t)

-- the whole, once the tail has become p
abbrev pub back : List ℕ → ℕ → List ℕ → List ℕ
back t n p = put_mid n (length t - n) t p

pub rest_length : (t : List ℕ) (n : ℕ) → length (rest t n) ≡ length t - n
rest_length t n = ap length (tail n t) ∙ length-drop n t

pub back_stored : (t : List ℕ) (n : ℕ) (l : List ℕ) {p : List ℕ} → n + length l ≤ length t → p ≡ overwritten (rest t n) l
    → back t n p ≡ sets t n l
unfolding overwritten
back_stored t n l {p} h e =
    let k : length (drop n t) ≤ length t - n = omega (arith, length-drop n t) in
    rw (e, tail n t, drop_of_length-le (drop n t) k, append-nil, drop-drop, sets-eq l t n h, append_assoc)
