-- Laws of `encode`: its bytes at each length, the stores that write them, and the room that these need.
use Prim.Native.Nat.{ℕ, ◌+◌, ◌/◌, ◌%◌, ◌≤◌, ◌<◌}
use mathlib.Core.Path.{◌≡◌, ap}
use mathlib.Core.List.{List, [], ◌∷◌}
use native.Mathlib.Numerals.{add-one, add-two, add-three}
use native.Mathlib.Omega.{arith}
use borrow.Author.Tests.{le-ltb, lt-ltb}
use borrow.Author.Rules.{rules}
use lib.Dec.{ltb, lit<}
use lib.ListN.{length, set, length-set}
use Rattle.lists.proofs.Tests.{pick_all}
use Rattle.lists.specs.Overwrite.{Stored}
use Rattle.utf8.specs.Encode.{encode}

module _ (c : ℕ) where
  pub encode_1 : c < 0x80 → encode c ≡ c ∷ []
  unfolding encode
  encode_1 h = rw (lt-ltb c 0x80 h)

  pub encode_2 : 0x80 ≤ c → c < 0x800 → encode c ≡ (0xC0 + c / 64) ∷ (0x80 + c % 64) ∷ []
  unfolding encode
  encode_2 g h = rw (le-ltb c 0x80 g, lt-ltb c 0x800 h)

  pub encode_3 : 0x800 ≤ c → c < 0x10000 → encode c ≡ (0xE0 + c / 4096) ∷ (0x80 + c / 64 % 64) ∷ (0x80 + c % 64) ∷ []
  unfolding encode
  encode_3 g h = rw (le-ltb c 0x80 (omega arith), le-ltb c 0x800 g, lt-ltb c 0x10000 h)

  pub encode_4 : 0x10000 ≤ c → encode c ≡ (0xF0 + c / 262144) ∷ (0x80 + c / 4096 % 64) ∷ (0x80 + c / 64 % 64) ∷ (0x80 + c % 64) ∷ []
  unfolding encode
  encode_4 g = rw (le-ltb c 0x80 (omega arith), le-ltb c 0x800 (omega arith), le-ltb c 0x10000 g)

-- the stores of each length, and the place after them
module _ (l : List ℕ) (at c : ℕ) where
  pub put_1 : c < 0x80 → Stored l (set l at c) at (encode c) (at + 1)
  put_1 h = record { next = rw (encode_1 c h); is = rw (encode_1 c h) }

  pub put_2 : 0x80 ≤ c → c < 0x800 → Stored l (set (set l at (0xC0 + c / 64)) (at + 1) (0x80 + c % 64)) at (encode c) (at + 2)
  put_2 g h = record { next = rw (encode_2 c g h); is = rw (encode_2 c g h, add-one at) }

  pub put_3 : 0x800 ≤ c → c < 0x10000
      → Stored l (set (set (set l at (0xE0 + c / 4096)) (at + 1) (0x80 + c / 64 % 64)) (at + 2) (0x80 + c % 64)) at (encode c) (at + 3)
  put_3 g h = record { next = rw (encode_3 c g h); is = rw (encode_3 c g h, add-one at, add-two at) }

  pub put_4 : 0x10000 ≤ c → Stored l
      (set (set (set (set l at (0xF0 + c / 262144)) (at + 1) (0x80 + c / 4096 % 64)) (at + 2) (0x80 + c / 64 % 64)) (at + 3)
      (0x80 + c % 64)) at (encode c) (at + 4)
  put_4 g = record { next = rw (encode_4 c g); is = rw (encode_4 c g, add-one at, add-two at, add-three at) }

-- the room that they need
longer : ℕ → List ℕ → Type 0
longer k l = k < length l

pub len_1 : (c : ℕ) → 0 < length (encode c)
unfolding encode longer
len_1 c = pick_all (longer 0) (ltb c 0x80) _ _ (lit< tt)
    (pick_all (longer 0) (ltb c 0x800) _ _ (lit< tt) (pick_all (longer 0) (ltb c 0x10000) _ _ (lit< tt) (lit< tt)))

pub len_2 : (c : ℕ) → 0x80 ≤ c → 1 < length (encode c)
unfolding encode longer
len_2 c g = rw (le-ltb c 0x80 g)
    (pick_all (longer 1) (ltb c 0x800) _ _ (lit< tt) (pick_all (longer 1) (ltb c 0x10000) _ _ (lit< tt) (lit< tt)))

pub len_3 : (c : ℕ) → 0x800 ≤ c → 2 < length (encode c)
unfolding encode longer
len_3 c g = rw (le-ltb c 0x80 (omega arith), le-ltb c 0x800 g) (pick_all (longer 2) (ltb c 0x10000) _ _ (lit< tt) (lit< tt))

pub len_4 : (c : ℕ) → 0x10000 ≤ c → 3 < length (encode c)
len_4 c g = let k = ap length (encode_4 c g) in omega arith

pub ruleset put_laws = (rules, put_1, put_2, put_3, put_4)

pub ruleset room_laws = (len_1, len_2, len_3, len_4, length-set)
