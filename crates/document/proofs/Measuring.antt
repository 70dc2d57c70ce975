-- Laws of a text as it is measured, copied and filled.
use Prim.Native.Nat.{ℕ, ◌+◌, ◌^◌, ◌≤◌}
use mathlib.Core.Path.{◌≡◌, refl, sym, ◌∙◌, ap, subst}
use mathlib.Core.Bool.{Bool, true, false}
use mathlib.Core.List.{List}
use native.Mathlib.Omega.{arith}
use borrow.Author.Rules.{rules}
use borrow.Author.Tests.{le-leb}
use lib.Dec.{leb}
use lib.ListN.{length}
use Rattle.std.specs.Prelude.{Result, Ok, Err}
use Rattle.lists.specs.Overwrite.{overwritten}
use Rattle.refusal.specs.declared.Refusal.{Refusal}
use Rattle.refusal.specs.Numbers.{SmallPlace}
use Rattle.refusal.specs.Answer.{gives, refuses, onward}
use Rattle.reference.specs.Text.{Out, bytes, bad, unescaped, filled, meaning, answer, Unescape}
use Rattle.reference.specs.declared.BadReference.{BadReference}
use Rattle.reference.specs.declared.UnescapeError.{UnescapeError}
use Rattle.reference.proofs.Result.{unescaped_shorter}
use Rattle.unescape.specs.Loops.{size_of}
use Rattle.unescape.specs.Fill.{Room}
use Rattle.unescape.proofs.Filling.{measured_within}
use Rattle.lists.specs.Tests.{pick}
use Rattle.document.specs.Text.{unescaped_from, is_right, string_in}
use Rattle.document.specs.Part.{CopyIs}

-- ---- a text that is right
right_bytes : (o : Out) → is_right o ≡ true → o ≡ bytes (meaning o)
right_bytes (bytes l) q = refl
right_bytes (bad at) q = cc

-- it fits where there is so much room
module _ (o : Out) (q : is_right o ≡ true) {n : ℕ} (old : List ℕ) (s : n ≡ length (meaning o)) (h : n ≤ length old) where
  pub right_room : Room o (length old)
  unfolding Room
  right_room = subst (λ (x : Out). Room x (length old)) (sym (right_bytes o q)) (omega arith)

  pub right_filled : filled o old ≡ overwritten old (meaning o)
  unfolding filled
  right_filled =
      let l = meaning o in
      let z : length l ≤ length old = omega arith in
      ap (λ (x : Out). filled x old) (right_bytes o q) ∙ rw (le-leb (length l) (length old) z)

-- ---- what measuring found
module _ (t : List ℕ) {r : Result ℕ BadReference} (m : r ≡ size_of (unescaped t)) where
  module _ {n : ℕ} (q : r ≡ Ok n) where
    found : (unescaped t ≡ bytes (meaning (unescaped t))) × (n ≡ length (meaning (unescaped t)))
    unfolding size_of
    found = go (unescaped t) (sym m ∙ q)
      where
        go : (o : Out) → size_of o ≡ Ok n → (o ≡ bytes (meaning o)) × (n ≡ length (meaning o))
        go (bytes l) a = (refl, cc)
        go (bad at) a = cc

    pub measured_right : is_right (unescaped t) ≡ true
    measured_right = rw found.0

    pub measured_size : n ≡ length (meaning (unescaped t))
    measured_size = found.1

    pub measured_short : (from : ℕ) → from + length t ≤ 2 ^ 16 → n ≤ 2 ^ 32
    measured_short from h = omega (arith, measured_size, unescaped_shorter t (meaning (unescaped t)) found.0)

    pub measured_gives : (from : ℕ) → gives (meaning (unescaped t)) ≡ unescaped_from from (unescaped t)
    measured_gives from = go (unescaped t) found.0
      where
        go : (o : Out) → o ≡ bytes (meaning o) → gives (meaning o) ≡ unescaped_from from o
        go (bytes l) a = refl
        go (bad at) a = cc

  module _ {why : BadReference} (q : r ≡ Err why) where
    is_bad : unescaped t ≡ bad why.at
    unfolding size_of
    is_bad = go (unescaped t) (sym m ∙ q)
      where
        go : (o : Out) → size_of o ≡ Err why → o ≡ bad why.at
        go (bad k) a = let z : record { at = k } ≡ why = cc in ap (λ (w : BadReference). bad w.at) z
        go (bytes l) a = cc

    pub bad_small : {from : ℕ} → from + length t ≤ 2 ^ 16 → SmallPlace from (why.at + 1)
    bad_small h = record { small = omega (arith, h, measured_within t m q) }

    pub bad_refuses : (from : ℕ) {refusal : Refusal} → refusal ≡ Refusal.BadReference (from + why.at)
        → refuses refusal ≡ unescaped_from from (unescaped t)
    bad_refuses from p = rw (is_bad, p)

-- ---- what copying wrote
module _ (t : List ℕ) (from : ℕ) {old new : List ℕ} {r : Result ℕ UnescapeError} (u : Unescape t old new r) where
  pub copy_length : {n : ℕ} → r ≡ Ok n
      → CopyIs (onward (unescaped_from from (unescaped t)) (string_in (length old))) old new (Ok n)
  unfolding answer filled string_in
  copy_length {n} q = go (unescaped t) (sym u.number ∙ q) u.buffer
    where
      by : (l : List ℕ) (b : Bool) → pick b (Ok (length l)) (Err UnescapeError.NoRoom) ≡ Ok n
          → new ≡ pick b (overwritten old l) old → CopyIs (pick b (gives l) (refuses Refusal.NoRoom)) old new (Ok n)
      by l true a f = let z : n ≡ length l = cc in record { number = ap gives z; buffer = f }
      by l false a f = cc

      go : (o : Out) → answer o (length old) ≡ Ok n → new ≡ filled o old
          → CopyIs (onward (unescaped_from from o) (string_in (length old))) old new (Ok n)
      go (bytes l) a f = by l (leb (length l) (length old)) a f
      go (bad at) a f = cc

  pub copy_no_room : r ≡ Err UnescapeError.NoRoom
      → CopyIs (onward (unescaped_from from (unescaped t)) (string_in (length old))) old new (Err Refusal.NoRoom)
  unfolding answer filled string_in
  copy_no_room q = go (unescaped t) (sym u.number ∙ q) u.buffer
    where
      by : (l : List ℕ) (b : Bool) → pick b (Ok (length l)) (Err UnescapeError.NoRoom) ≡ Err UnescapeError.NoRoom
          → new ≡ pick b (overwritten old l) old
          → CopyIs (pick b (gives l) (refuses Refusal.NoRoom)) old new (Err Refusal.NoRoom)
      by l true a f = cc
      by l false a f = record { number = refl; buffer = f }

      go : (o : Out) → answer o (length old) ≡ Err UnescapeError.NoRoom → new ≡ filled o old
          → CopyIs (onward (unescaped_from from o) (string_in (length old))) old new (Err Refusal.NoRoom)
      go (bytes l) a f = by l (leb (length l) (length old)) a f
      go (bad at) a f = cc

  module _ {at : ℕ} (q : r ≡ Err (UnescapeError.BadReference at)) where
    copied_bad : (unescaped t ≡ bad at) × (new ≡ old)
    unfolding answer filled
    copied_bad = go (unescaped t) (sym u.number ∙ q) u.buffer
      where
        by : (l : List ℕ) (b : Bool) → pick b (Ok (length l)) (Err UnescapeError.NoRoom) ≡ Err (UnescapeError.BadReference at)
            → (bytes l ≡ bad at) × (new ≡ old)
        by l true a = cc
        by l false a = cc

        go : (o : Out) → answer o (length old) ≡ Err (UnescapeError.BadReference at) → new ≡ filled o old → (o ≡ bad at) × (new ≡ old)
        go (bytes l) a f = by l (leb (length l) (length old)) a
        go (bad k) a f = let z : k ≡ at = cc in (ap bad z, f)

    sized : size_of (unescaped t) ≡ Err (record { at = at })
    unfolding size_of
    sized = rw copied_bad.0

    pub copy_small : from + length t ≤ 2 ^ 16 → SmallPlace from (at + 1)
    copy_small h = bad_small t refl sized h

    pub copy_bad : {why : Refusal} → why ≡ Refusal.BadReference (from + at)
        → CopyIs (onward (unescaped_from from (unescaped t)) (string_in (length old))) old new (Err why)
    copy_bad p = let f = copied_bad.1 in rw (copied_bad.0, p) (record { number = refl; buffer = f })

pub ruleset text_laws = (
  rules,
  right_room,
  right_filled,
  measured_right,
  measured_size,
  measured_short,
  measured_gives,
  bad_small,
  bad_refuses,
  copy_length,
  copy_no_room,
  copy_small,
  copy_bad,
)
