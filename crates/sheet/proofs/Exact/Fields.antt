-- Fields that are read exactly as they are written: what is written, in the limits, is read; and what is read was written, in the limits.
use Prim.Native.Nat.{ℕ, zero, suc, ◌+◌, ◌<◌}
use mathlib.Core.Path.{◌≡◌, refl, sym}
use mathlib.Core.Bool.{Bool, true, false}
use mathlib.Core.List.{List, [], ◌∷◌, ◌++◌, append_assoc, append-nil}
use mathlib.Core.Option.{Option, none, some}
use native.Mathlib.Omega.{arith}
use borrow.Author.Tests.{leb-true, le-leb, ltb-true, lt-ltb}
use lib.Dec.{leb, ltb}
use lib.ListN.{length, get_or, take, drop, length-append, take-append-drop}
use lib.Seq.{length-take-le, take-append_seam, drop-append_seam, get_or-append-add}
use Rattle.lists.specs.Tests.{pick}
use Rattle.lists.proofs.Tests.{false_true}
use Rattle.sheet.specs.Front.{Front, front, broken, then, where_holds, byte, bit_map, name, name_if, times, all}
use Rattle.lists.specs.Every.{Every, and}
use Rattle.lists.proofs.Every.{every_first, every_rest}
use Rattle.lists.specs.Every as every
use Rattle.sheet.proofs.Exact.InLimits.{NameInLimits, NameIfThere}
use Rattle.sheet.proofs.Exact.Written.{is_there, name_written, name_if_written, each_written}

-- ---- bytes: each number is below 256, as those of a slice of bytes are
pub record AllBytes (bytes : List ℕ) : Type 0 where
  pub each : (i : ℕ) → get_or bytes i 0 < 256

bytes_after : (l rest : List ℕ) → AllBytes (l ++ rest) → AllBytes rest
bytes_after l rest h = record { each = λ i. rw (get_or-append-add l rest i 0) at (h.each (length l + i)) }

-- ---- a field at the front is one, and it is not broken
module _ {A : Type 0} where
  pub front_value : {a b : A} {l r : List ℕ} → front a l ≡ front b r → a ≡ b
  front_value e = cc

  pub front_rest : {a b : A} {l r : List ℕ} → front a l ≡ front b r → l ≡ r
  front_rest e = cc

  pub not_broken {ℓ} : {B : Type ℓ} {a : A} {l : List ℕ} → broken ≡ front a l → B
  not_broken e = let z : ◌≡◌ {A = ℕ} 0 1 = cc in absurd (omega arith)

-- ---- exact fields
-- what is written of a, and rest after it, reads as a with rest left; and bytes that read as a with rest left are what is written of a, and
-- rest
pub record Exact {A : Type 0} (field : List ℕ → Front A) (write : A → List ℕ) (Limits : A → Type 0) : Type 0 where
  pub reads : (a : A) (rest : List ℕ) → Limits a → field (write a ++ rest) ≡ front a rest
  pub exact : (s : List ℕ) (a : A) (rest : List ℕ) → AllBytes s → field s ≡ front a rest → Limits a × (s ≡ write a ++ rest)

-- a sequence that begins with such a field: the field's value, and what is read after it
module _ {A B : Type 0} {field : List ℕ → Front A} {write : A → List ℕ} {Limits : A → Type 0} where
  pub first_then : Exact field write Limits → (more : A → List ℕ → Front B) (s : List ℕ) (b : B) (end : List ℕ) → AllBytes s
      → then (field s) more ≡ front b end
      → {G : Type 0} → ((a : A) (rest : List ℕ) → Limits a → s ≡ write a ++ rest → AllBytes rest → more a rest ≡ front b end → G) → G
  first_then x more s b end h e {G} k = go (field s) refl e
    where
      go : (f : Front A) → field s ≡ f → then f more ≡ front b end → G
      go (front a rest) q e = let p = x.exact s a rest h q in k a rest p.0 p.1 (bytes_after (write a) rest (rw p.1 at h)) e
      go broken q e = not_broken e

-- a test that held
pub holds : {A : Type 0} (t : Bool) {f : Front A} {a : A} {rest : List ℕ} → where_holds t f ≡ front a rest → (t ≡ true) × (f ≡ front a rest)
holds true e = (refl, e)
holds false e = not_broken e

-- a byte, and a bit map: "higher bits are 0"
pub byte_exact : Exact byte (λ b. b ∷ []) (λ b. Unit)
byte_exact = record { reads = λ b rest h. refl; exact = exact }
  where
    exact : (s : List ℕ) (b : ℕ) (rest : List ℕ) → AllBytes s → byte s ≡ front b rest → Unit {0} × (s ≡ b ∷ rest)
    exact [] b rest h e = not_broken e
    exact (c ∷ l) b rest h e = let p = front_value e in let q = front_rest e in (tt, cc)

pub bit_map_exact : (values : ℕ) → Exact (bit_map values) (λ b. b ∷ []) (λ b. b < values)
bit_map_exact values = record { reads = λ b rest h. rw (lt-ltb b values h); exact = exact }
  where
    exact : (s : List ℕ) (b : ℕ) (rest : List ℕ) → AllBytes s → bit_map values s ≡ front b rest → (b < values) × (s ≡ b ∷ rest)
    exact s b rest h e =
        first_then byte_exact _ s b rest h e
        (λ c l limits is bytes onward. let p = holds (ltb c values) onward in
        rw (← front_value p.1, ← front_rest p.1) (ltb-true c values p.0, is))

-- "A name is a length byte 1..255, then bytes."
pub name_exact : Exact name name_written NameInLimits
name_exact = record { reads = reads; exact = exact }
  where
    reads : (n rest : List ℕ) → NameInLimits n → name (name_written n ++ rest) ≡ front n rest
    reads n rest h =
        rw (
          le-leb 1 (length n) h.filled,
          le-leb (length n) (length (n ++ rest)) (omega (arith, length-append n rest)),
          take-append_seam n rest,
          drop-append_seam n rest,
        )

    go : (b : ℕ) (l n rest : List ℕ) (x y : Bool) → b < 256 → leb 1 b ≡ x → leb b (length l) ≡ y
        → where_holds (pick x y false) (front (take b l) (drop b l)) ≡ front n rest
        → NameInLimits n × ((b ∷ l) ≡ name_written n ++ rest)
    go b l n rest true true h p q e =
        let f = front_value e in
        let r = front_rest e in
        let len : length n ≡ b = rw (← f) (length-take-le b l (leb-true b (length l) q)) in
        let parts : l ≡ n ++ rest = rw (← f, ← r) (sym (take-append-drop b l)) in
        let low = leb-true 1 b p in
        (record { filled = omega (arith, len, low); short = omega (arith, len, h) }, cc)
    go b l n rest true false h p q e = not_broken e
    go b l n rest false y h p q e = not_broken e

    exact : (s n rest : List ℕ) → AllBytes s → name s ≡ front n rest → NameInLimits n × (s ≡ name_written n ++ rest)
    exact [] n rest h e = not_broken e
    exact (b ∷ l) n rest h e = go b l n rest (leb 1 b) (leb b (length l)) (h.each 0) refl refl e

-- a name whose bit is t
pub name_if_exact : (t : Bool) → Exact (name_if t) name_if_written (λ o. (is_there o ≡ t) × NameIfThere o)
name_if_exact true = record { reads = reads; exact = exact }
  where
    reads : (o : Option (List ℕ)) (rest : List ℕ) → (is_there o ≡ true) × NameIfThere o
        → name_if true (name_if_written o ++ rest) ≡ front o rest
    reads none rest h = false_true h.0
    reads (some n) rest h = rw (name_exact.reads n rest h.1)

    exact : (s : List ℕ) (o : Option (List ℕ)) (rest : List ℕ) → AllBytes s → name_if true s ≡ front o rest
        → ((is_there o ≡ true) × NameIfThere o) × (s ≡ name_if_written o ++ rest)
    exact s o rest h e =
        first_then name_exact (λ n r. front (some n) r) s o rest h e
        (λ n r limits is bytes onward. rw (← front_value onward, ← front_rest onward) ((refl, limits), is))
name_if_exact false = record { reads = reads; exact = exact }
  where
    reads : (o : Option (List ℕ)) (rest : List ℕ) → (is_there o ≡ false) × NameIfThere o
        → name_if false (name_if_written o ++ rest) ≡ front o rest
    reads none rest h = refl
    reads (some n) rest h = false_true (sym h.0)

    exact : (s : List ℕ) (o : Option (List ℕ)) (rest : List ℕ) → AllBytes s → name_if false s ≡ front o rest
        → ((is_there o ≡ false) × NameIfThere o) × (s ≡ name_if_written o ++ rest)
    exact s o rest h e = rw (← front_value e) ((refl, tt), front_rest e)

-- so many fields of one kind
pub times_exact : {A : Type 0} {field : List ℕ → Front A} {write : A → List ℕ} {Limits : A → Type 0} → Exact field write Limits → (n : ℕ)
    → Exact (times field n) (each_written write) (λ l. (length l ≡ n) × Every Limits l)
unfolding times each_written
times_exact {A} {field} {write} {Limits} x zero = record { reads = reads; exact = exact }
  where
    reads : (l : List A) (rest : List ℕ) → (length l ≡ zero) × Every Limits l
        → times field zero (each_written write l ++ rest) ≡ front l rest
    reads [] rest h = refl
    reads (a ∷ l) rest h = absurd (omega (arith, h.0))

    exact : (s : List ℕ) (l : List A) (rest : List ℕ) → AllBytes s → front [] s ≡ front l rest
        → ((length l ≡ zero) × Every Limits l) × (s ≡ each_written write l ++ rest)
    exact s l rest h e = rw (← front_value e) ((refl, every.none), front_rest e)
times_exact {A} {field} {write} {Limits} x (suc n) = next (times_exact x n)
  where
    next : Exact (times field n) (each_written write) (λ l. (length l ≡ n) × Every Limits l)
        → Exact (times field (suc n)) (each_written write) (λ l. (length l ≡ suc n) × Every Limits l)
    next y = record { reads = reads; exact = exact }
      where
        reads : (l : List A) (rest : List ℕ) → (length l ≡ suc n) × Every Limits l
            → times field (suc n) (each_written write l ++ rest) ≡ front l rest
        reads [] rest h = absurd (omega (arith, h.0))
        reads (a ∷ l) rest h =
            rw (
              append_assoc (write a) (each_written write l) rest,
              x.reads a (each_written write l ++ rest) (every_first h.1),
              y.reads l rest (omega (arith, h.0), every_rest h.1),
            )

        exact : (s : List ℕ) (l : List A) (rest : List ℕ) → AllBytes s → times field (suc n) s ≡ front l rest
            → ((length l ≡ suc n) × Every Limits l) × (s ≡ each_written write l ++ rest)
        exact s l rest h e =
            first_then x (λ a r. then (times field n r) (λ k end. front (a ∷ k) end)) s l rest h e
            (λ a r limits is bytes onward. first_then y (λ k end. front (a ∷ k) end) r l rest bytes onward
            (λ k end others these bytes onward. rw (← front_value onward, ← front_rest onward)
            ((omega (arith, others.0), and limits others.1), rw (append_assoc (write a) (each_written write k) end, ← these) is)))

-- ---- sheets
-- an answer is not both
no_some {ℓ} : {A : Type 0} {B : Type ℓ} {a : A} → none ≡ some a → B
no_some e = let z : ◌≡◌ {A = ℕ} 0 1 = cc in absurd (omega arith)

-- "The sheet ends with its last field."
pub all_is : {A : Type 0} (f : Front A) (a : A) → all f ≡ some a → f ≡ front a []
all_is (front b []) a e = cc
all_is (front b (x ∷ rest)) a e = no_some e
all_is broken a e = no_some e

-- a name at the end of a sheet
pub name_if_end : (o : Option (List ℕ)) → NameIfThere o → name_if (is_there o) (name_if_written o) ≡ front o []
name_if_end o h = rw (append-nil (name_if_written o)) at ((name_if_exact (is_there o)).reads o [] (refl, h))
