-- Laws of the fault of a row: a name that repeats, a value that passes, and the rest.
use Prim.Native.Nat.{ℕ, zero, suc, ◌+◌, ◌-◌, ◌*◌, ◌≤◌, ◌<◌}
use mathlib.Core.Path.{◌≡◌, refl, sym, ◌∙◌, ap}
use mathlib.Core.Bool.{Bool, true, false}
use mathlib.Core.List.{List}
use native.Mathlib.Omega.{arith}
use borrow.Author.Tests.{leb-true, leb-false}
use lib.Dec.{leb}
use lib.ListN.{length, get_or, drop, length-drop, length-take}
use lib.Seq.{get_or-take, get_or-drop}
use Rattle.std.specs.Prelude.{Ok, Err}
use Rattle.lists.proofs.Parts.{get_d_in}
use Rattle.lists.specs.Decide.{Says}
use Rattle.lists.specs.Find.{Clear}
use Rattle.lists.specs.Tests.{pick}
use Rattle.reference.specs.Text.{validated}
use Rattle.reference.specs.declared.BadReference.{BadReference}
use Rattle.reference.proofs.Result.{plain_valid}
use Rattle.reference.proofs.Grammar.{validated_none}
use Rattle.table.specs.Row.{Name, cut, tok_as}
use Rattle.table.specs.Rows.{InTable, Readable, name_at, value_at}
use Rattle.table.specs.Kinds.{kind_number}
use Rattle.table.specs.declared.kinds.Kind.{Kind}
use Rattle.table.proofs.Valid.{spans_within}
use Rattle.xml.specs.Drain.{same_name, has_name}
use Rattle.xml.specs.declared.Cause.{Cause}
use Rattle.xml.proofs.Tests.{same_name_lem, name_same}
use Rattle.decode.specs.Drain.{back, names_back, Fault, value_fault, LiesIn, FaultIs, top_of}

-- ---- whether names are the same, as a flag
yes_same : {m n : Name} → Says (m ≡ n) true → true ≡ same_name m n
yes_same {m} {n} s = sym (rw (s.sound refl) (name_same n))

no_same : {m n : Name} → Says (m ≡ n) false → false ≡ same_name m n
no_same {m} {n} s = go (same_name m n) refl
  where
    go : (u : Bool) → same_name m n ≡ u → false ≡ u
    go true e = s.complete (same_name_lem m n e)
    go false e = refl

pub same_is : {m n : Name} {r : Bool} → Says (m ≡ n) r → r ≡ same_name m n
same_is {r = true} s = yes_same s
same_is {r = false} s = no_same s

-- ---- a name that repeats
module _ (body t : List ℕ) (m : Name) where
  some_back : (k i j : ℕ) → i ≤ k → k ≤ i + j → j < k → same_name m (name_at body t j) ≡ true → has_name m (back body t k i) ≡ true
  unfolding has_name
  some_back k zero j a b c e = absurd (omega arith)
  some_back k (suc i) j a b c e =
      go (leb k (j + 1)) refl (λ h. some_back (k - 1) i j (omega arith) (omega arith) (omega arith) e)
    where
      go : (u : Bool) → leb k (j + 1) ≡ u → (j < k - 1 → has_name m (back body t (k - 1) i) ≡ true)
          → pick (same_name m (name_at body t (k - 1))) true (has_name m (back body t (k - 1) i)) ≡ true
      go true q f = let z : k - 1 ≡ j = omega (arith, leb-true k (j + 1) q) in rw (z, e)
      go false q f = more (same_name m (name_at body t (k - 1))) (f (omega (arith, leb-false k (j + 1) q)))
        where
          more : (v : Bool) {w : Bool} → w ≡ true → pick v true w ≡ true
          more true x = refl
          more false x = x

  none_back : (k i : ℕ) → i ≤ k → ((j : ℕ) → k ≤ i + j → j < k → same_name m (name_at body t j) ≡ false)
      → has_name m (back body t k i) ≡ false
  unfolding has_name
  none_back k zero a f = refl
  none_back k (suc i) a f =
      rw (f (k - 1) (omega arith) (omega arith), none_back (k - 1) i (omega arith) (λ j b c. f j (omega arith) (omega arith)))

-- none of the rows from one on and before row j has the name of row k
pub record NoneNamed (body t : List ℕ) (tag k j : ℕ) : Type 0 where
  pub none : (i : ℕ) → tag < i → i < j → same_name (name_at body t k) (name_at body t i) ≡ false

pub named_start : (body t : List ℕ) (tag k : ℕ) → NoneNamed body t tag k (tag + 1)
named_start body t tag k = record { none = λ i a b. absurd (omega arith) }

module _ (body t : List ℕ) (tag k : ℕ) where
  pub named_on : {j : ℕ} → NoneNamed body t tag k j → {r : Bool} → Says (name_at body t k ≡ name_at body t j) r → r ≡ false
      → NoneNamed body t tag k (j + 1)
  named_on {j} w s q =
      record {
        none = λ i a b. here i a b (leb (i + 1) j) refl;
      }
    where
      here : (i : ℕ) → tag < i → i < j + 1 → (u : Bool) → leb (i + 1) j ≡ u → same_name (name_at body t k) (name_at body t i) ≡ false
      here i a b true e = w.none i a (omega (arith, leb-true (i + 1) j e))
      here i a b false e = let z : i ≡ j = omega (arith, leb-false (i + 1) j e) in rw z (sym (same_is s) ∙ q)

  pub named_yes : (j : ℕ) → tag < j → j < k → {r : Bool} → Says (name_at body t k ≡ name_at body t j) r → r ≡ true
      → true ≡ has_name (name_at body t k) (names_back body t tag k)
  named_yes j a b s q =
      sym (some_back body t (name_at body t k) k (k - (tag + 1)) j (omega arith) (omega arith) b (sym (same_is s) ∙ q))

  pub named_none : {j : ℕ} → NoneNamed body t tag k j → k ≤ j → false ≡ has_name (name_at body t k) (names_back body t tag k)
  named_none w h =
      sym (none_back body t (name_at body t k) k (k - (tag + 1)) (omega arith) (λ j a b. w.none j (omega arith) (omega arith)))

-- ---- a part without `&`
pub plain_none : (body : List ℕ) → Clear body 38 0 0
plain_none body = record { low = omega arith; high = omega arith; none = λ k l h e. absurd (omega arith) }

pub value_start_in : {body t : List ℕ} {k : ℕ} → Readable body t → InTable t k → {from : ℕ} → from ≡ get_or t (k * 8 + 5) 0
    → from ≤ length body
value_start_in o h e = omega (arith, (spans_within o h).value)

-- a value in it has none
plain_cut : {body : List ℕ} {low high : ℕ} → Clear body 38 low high → (from len : ℕ) → low ≤ from → from + len ≤ high → (k : ℕ)
    → get_or (cut body from len) k 0 ≡ 38 → ⊥
plain_cut {body} x from len l h k e =
    let g : k < len = omega (arith, get_d_in (cut body from len) k 37 e, length-take len (drop from body)) in
    x.none (from + k) (omega arith) (omega arith) (sym (get_or-take len (drop from body) k 0 g ∙ get_or-drop from body k 0) ∙ e)

-- the length of a value is that of its span
value_length : {body t : List ℕ} {k : ℕ} → Readable body t → InTable t k → length (value_at body t k) ≡ get_or t (k * 8 + 6) 0
value_length {body} {t} {k = k} o i =
    let m = length-take (get_or t (k * 8 + 6) 0) (drop (get_or t (k * 8 + 5) 0) body) in
    omega (arith, m, length-drop (get_or t (k * 8 + 5) 0) body, (spans_within o i).value)

-- ---- the fault of a value
module _ {body t : List ℕ} {k : ℕ} (o : Readable body t) (i : InTable t k) where
  pub value_plain : {low high : ℕ} → Clear body 38 low high → {from : ℕ} → from ≡ get_or t (k * 8 + 5) 0 → {l : List ℕ}
      → l ≡ value_at body t k
      → {r : Bool} → LiesIn from (length l) low high r → r ≡ true
      → Ok tt ≡ value_fault (value_at body t k)
  value_plain {low} {high} x {from} f {l} g w q =
      let h = w.says q in
      let z : length l ≡ get_or t (k * 8 + 6) 0 = ap length g ∙ value_length o i in
      let y =
      plain_valid (value_at body t k)
      (plain_cut x (get_or t (k * 8 + 5) 0) (get_or t (k * 8 + 6) 0) (omega (arith, f, h.0)) (omega (arith, f, z, h.1))) in
      rw y

pub value_good : {v l : List ℕ} → l ≡ v → Ok tt ≡ validated l → Ok tt ≡ value_fault v
value_good g e = rw (← g, ← e)

pub value_bad : {v l : List ℕ} {b : BadReference} → l ≡ v → Err b ≡ validated l → Err Cause.BadReference ≡ value_fault v
value_bad g e = rw (← g, ← e)

-- ---- the start row of the innermost open element
pub top_none : (starts : List ℕ) (depth : ℕ) → depth ≡ 0 → 0 ≡ top_of starts depth
top_none starts depth e = rw e

pub top_some : (starts : List ℕ) (depth : ℕ) → (depth ≡ 0 → ⊥) → get_or starts (depth - 1) 0 ≡ top_of starts depth
top_some starts zero h = absurd (h refl)
top_some starts (suc d) h = let e : suc d - 1 ≡ d = omega arith in rw e

-- ---- the fault of one row, by its kind
module _ (body t : List ℕ) (top k : ℕ) where
  module _ (h : 2 ≡ get_or t (k * 8 + 0) 0) {u : Bool} (q : u ≡ has_name (name_at body t k) (names_back body t top k)) where
    pub fault_repeated : u ≡ true → FaultIs body t top k (Err Cause.RepeatedAttribute)
    unfolding tok_as
    fault_repeated g = record { is = rw (← h, ← q, g) }

    pub fault_value : {f : Fault} → u ≡ false → f ≡ value_fault (value_at body t k) → FaultIs body t top k f
    unfolding tok_as
    fault_value g p = record { is = rw (← h, ← q, g) p }

  module _ (h : 4 ≡ get_or t (k * 8 + 0) 0) {u : Bool} (s : Says (name_at body t k ≡ name_at body t top) u) where
    pub fault_matched : u ≡ true → FaultIs body t top k (Ok tt)
    unfolding tok_as
    fault_matched g = record { is = rw (← h, ← same_is s, g) }

    pub fault_mismatched : u ≡ false → FaultIs body t top k (Err Cause.MismatchedEnd)
    unfolding tok_as
    fault_mismatched g = record { is = rw (← h, ← same_is s, g) }

  pub fault_text : {f : Fault} → 6 ≡ get_or t (k * 8 + 0) 0 → f ≡ value_fault (value_at body t k) → FaultIs body t top k f
  unfolding tok_as
  fault_text h p = record { is = rw (← h) p }

  pub fault_token : 8 ≡ get_or t (k * 8 + 0) 0 → FaultIs body t top k (Err Cause.TokenError)
  unfolding tok_as
  fault_token h = record { is = rw (← h) }

  pub fault_none : (kind : Kind) → kind_number kind ≡ get_or t (k * 8 + 0) 0 → (kind ≡ Kind.Attribute → ⊥) → (kind ≡ Kind.Close → ⊥)
      → (kind ≡ Kind.Text → ⊥)
      → (kind ≡ Kind.Error → ⊥)
      → FaultIs body t top k (Ok tt)
  unfolding tok_as
  fault_none Kind.Start f a b c d = record { is = rw (← f) }
  fault_none Kind.Attribute f a b c d = absurd (a refl)
  fault_none Kind.Gt f a b c d = record { is = rw (← f) }
  fault_none Kind.Close f a b c d = absurd (b refl)
  fault_none Kind.Slash f a b c d = record { is = rw (← f) }
  fault_none Kind.Text f a b c d = absurd (c refl)
  fault_none Kind.Misc f a b c d = record { is = rw (← f, validated_none) }
  fault_none Kind.Error f a b c d = absurd (d refl)
