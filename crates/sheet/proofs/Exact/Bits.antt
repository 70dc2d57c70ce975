-- Bit maps: the bits of a byte that is the sum of the values of the bits that stand are read as they were given, and each byte is such a
-- sum.
use Prim.Native.Nat.{ℕ, zero, suc, ◌+◌, ◌*◌, ◌/◌, ◌%◌, ◌≤◌, ◌<◌}
use mathlib.Core.Path.{◌≡◌, refl}
use mathlib.Core.Bool.{Bool, true, false}
use native.Mathlib.Omega.{arith}
use lib.Dec.{eqb}
use Rattle.sheet.specs.Front.{bit}
use Rattle.sheet.proofs.Exact.Written.{standing, four_bits, five_bits}

-- the bits 0 to 4 of a bit map of so many values, by the values of the bits
pub record Bits (values b : ℕ) (x y z u w : Bool) : Type 0 where
  pub small : b < values
  pub one : bit 1 b ≡ x
  pub two : bit 2 b ≡ y
  pub four : bit 4 b ≡ z
  pub eight : bit 8 b ≡ u
  pub sixteen : bit 16 b ≡ w

-- ---- a bit as a number
digit : Bool → ℕ
digit true = 1
digit false = 0

digit_small : (x : Bool) → digit x ≤ 1
unfolding digit
digit_small true = omega arith
digit_small false = omega arith

standing_digit : (v : ℕ) (x : Bool) → standing v x ≡ v * digit x
unfolding digit
standing_digit v true = omega arith
standing_digit v false = omega arith

digit_bit : (v b : ℕ) (x : Bool) → b / v % 2 ≡ digit x → bit v b ≡ x
unfolding digit
digit_bit v b true e = rw e
digit_bit v b false e = rw e

bit_digit : (n : ℕ) → n < 2 → digit (eqb n 1) ≡ n
unfolding digit
bit_digit zero h = refl
bit_digit (suc zero) h = refl
bit_digit (suc (suc n)) h = absurd (omega (arith, h))

standing_bit : (v n : ℕ) → n < 2 → standing v (eqb n 1) ≡ v * n
standing_bit v n h = rw (standing_digit v (eqb n 1), bit_digit n h)

-- ---- what is written is read
bits_of : (values b : ℕ) (x y z u w : Bool) → b < values → b ≡ five_bits x y z u w → Bits values b x y z u w
bits_of values b x y z u w small is =
    let sum : b ≡ digit x + 2 * digit y + 4 * digit z + 8 * digit u + 16 * digit w =
    omega (arith, is, standing_digit 1 x, standing_digit 2 y, standing_digit 4 z, standing_digit 8 u, standing_digit 16 w) in
    read sum (digit_small x) (digit_small y) (digit_small z) (digit_small u) (digit_small w)
  where
    read : b ≡ digit x + 2 * digit y + 4 * digit z + 8 * digit u + 16 * digit w → digit x ≤ 1 → digit y ≤ 1 → digit z ≤ 1 → digit u ≤ 1
        → digit w ≤ 1
        → Bits values b x y z u w
    read e f g h i j =
        record {
          small = small;
          one = digit_bit 1 b x (omega arith);
          two = digit_bit 2 b y (omega arith);
          four = digit_bit 4 b z (omega arith);
          eight = digit_bit 8 b u (omega arith);
          sixteen = digit_bit 16 b w (omega arith);
        }

standing_most : (v : ℕ) (x : Bool) → standing v x ≤ v
standing_most v true = omega arith
standing_most v false = omega arith

pub four_read : (x y z u : Bool) → Bits 16 (four_bits x y z u) x y z u false
four_read x y z u =
    bits_of 16 (four_bits x y z u) x y z u false (omega (arith, standing_most 1 x, standing_most 2 y, standing_most 4 z, standing_most 8 u))
    (omega arith)

pub five_read : (x y z u w : Bool) → Bits 32 (five_bits x y z u w) x y z u w
five_read x y z u w =
    bits_of 32 (five_bits x y z u w) x y z u w
    (omega (arith, standing_most 1 x, standing_most 2 y, standing_most 4 z, standing_most 8 u, standing_most 16 w)) refl

-- ---- what is read is written
pub read_five : (b : ℕ) → b < 32 → b ≡ five_bits (bit 1 b) (bit 2 b) (bit 4 b) (bit 8 b) (bit 16 b)
read_five b h =
    let x : b ≡ b / 1 % 2 + 2 * (b / 2) = omega arith in
    let y : b / 2 ≡ b / 2 % 2 + 2 * (b / 4) = omega arith in
    let z : b / 4 ≡ b / 4 % 2 + 2 * (b / 8) = omega arith in
    let u : b / 8 ≡ b / 8 % 2 + 2 * (b / 16) = omega arith in
    let w : b / 16 ≡ b / 16 % 2 = omega (arith, h) in
    omega (
      arith,
      x,
      y,
      z,
      u,
      w,
      standing_bit 1 (b / 1 % 2) (omega arith),
      standing_bit 2 (b / 2 % 2) (omega arith),
      standing_bit 4 (b / 4 % 2) (omega arith),
      standing_bit 8 (b / 8 % 2) (omega arith),
      standing_bit 16 (b / 16 % 2) (omega arith),
    )

pub read_four : (b : ℕ) → b < 16 → b ≡ four_bits (bit 1 b) (bit 2 b) (bit 4 b) (bit 8 b)
read_four b h =
    let none : b / 16 % 2 ≡ 0 = omega (arith, h) in
    omega (arith, read_five b (omega (arith, h)), standing_bit 16 (b / 16 % 2) (omega arith))
