-- Laws of the children that wait for their groups: the loops over them, and a group that is written from them.
use Prim.Native.Nat.{ℕ, zero, suc, ◌+◌, ◌-◌, ◌*◌, ◌^◌, ◌≤◌, ◌<◌}
use mathlib.Core.Path.{◌≡◌, refl, ◌∙◌, ap}
use mathlib.Core.Bool.{Bool, true, false}
use mathlib.Core.List.{List, [], ◌∷◌, ◌++◌}
use native.Mathlib.Omega.{arith}
use borrow.Author.Tests.{eq-eqb, ne_eqb}
use mir.Val.{Fits}
use mir.Syntax.{w64}
use lib.Dec.{eqb}
use lib.ListN.{length, get_or, take, drop, length-append, drop_of_length-le}
use lib.Seq.{sets, length-sets, drop-cons}
use Rattle.lists.specs.Tests.{pick}
use Rattle.lists.specs.Bytes.{ascii}
use Rattle.lists.specs.Every.{Every, none, and}
use Rattle.lists.specs.Overwrite.{Stored}
use Rattle.lists.proofs.Overwrite.{sets_append}
use Rattle.table.specs.Row.{cut}
use Rattle.table.proofs.Moved.{length_cut}
use Rattle.output.specs.declared.kept.Kept.{Kept}
use Rattle.output.specs.Kept.{kept_for, lengths, kept_len, bytes_of, kept_bytes, flat, flat_len, InBody, Inside}

abbrev pub nobody : Kept
nobody = record { member = 0; piece = record { start = 0; len = 0 } }

-- ---- one child after another: what is kept from the k-th on
none_left : (i : ℕ) (l : List Kept) (k : ℕ) → length l ≤ k → kept_for i (drop k l) ≡ []
unfolding kept_for
none_left i l k h = rw (drop_of_length-le l h)

module _ (i : ℕ) (l : List Kept) (k : ℕ) (h : k < length l) where
  one_left : {b : Bool} → eqb (get_or l k nobody).member i ≡ b
      → kept_for i (drop k l) ≡ pick b ((get_or l k nobody).piece ∷ kept_for i (drop (k + 1) l)) (kept_for i (drop (k + 1) l))
  unfolding kept_for
  one_left q =
      let e : suc k ≡ k + 1 = omega arith in
      ap (kept_for i) (drop-cons l k nobody h ∙ ap (λ (n : ℕ). get_or l k nobody ∷ drop n l) e) ∙ rw q

  mine_left : (get_or l k nobody).member ≡ i → kept_for i (drop k l) ≡ (get_or l k nobody).piece ∷ kept_for i (drop (k + 1) l)
  mine_left q = one_left (eq-eqb _ i q)

  other_left : ((get_or l k nobody).member ≡ i → ⊥) → kept_for i (drop k l) ≡ kept_for i (drop (k + 1) l)
  other_left q = one_left (ne_eqb _ i q)

-- ---- how many bytes they have: n so far
pub record LenAt (i : ℕ) (l : List Kept) (n k : ℕ) : Type 0 where
  pub whole : n + lengths (kept_for i (drop k l)) ≡ kept_len l i
  pub small : n ≤ k * 2 ^ 32

pub len_start : (i : ℕ) (l : List Kept) → LenAt i l 0 0
unfolding kept_len
len_start i l = record { whole = omega arith; small = omega arith }

module _ {i : ℕ} {l : List Kept} {n k : ℕ} (at : LenAt i l n k) where
  pub len_end : length l ≤ k → n ≡ kept_len l i
  unfolding lengths
  len_end h = let z : n + 0 ≡ kept_len l i = rw (none_left i l k h) at at.whole in omega arith

  pub len_fits_lem : {x : ℕ} → x < 2 ^ 32 → length l < 2 ^ 32 → k < length l → Fits w64 (n + x)
  len_fits_lem z f h = record { fits = omega (arith, at.small) }

  pub len_mine : k < length l → (get_or l k nobody).member ≡ i → (get_or l k nobody).piece.len < 2 ^ 32
      → LenAt i l (n + (get_or l k nobody).piece.len) (k + 1)
  unfolding lengths
  len_mine h q z =
      record { whole = omega (arith, at.whole, ap lengths (mine_left i l k h q)); small = omega (arith, at.small) }

  pub len_other : k < length l → ((get_or l k nobody).member ≡ i → ⊥) → LenAt i l n (k + 1)
  len_other h q = record { whole = omega (arith, at.whole, ap lengths (other_left i l k h q)); small = omega (arith, at.small) }

-- ---- their bytes: what stands at `at`, and what is left after it, come to the whole that is to stand at `from`
pub record CopiedAt (body : List ℕ) (l : List Kept) (i : ℕ) (t t' : List ℕ) (from at k : ℕ) : Type 0 where
  pub next : at + length (bytes_of body (kept_for i (drop k l))) ≡ from + length (kept_bytes body l i)
  pub is : sets t' at (bytes_of body (kept_for i (drop k l))) ≡ sets t from (kept_bytes body l i)
  pub same : length t' ≡ length t

pub copied_start : (body : List ℕ) (l : List Kept) (i : ℕ) (t : List ℕ) (from : ℕ) → CopiedAt body l i t t from from 0
unfolding kept_bytes
copied_start body l i t from = record { next = refl; is = refl; same = refl }

module _ {body : List ℕ} {l : List Kept} {i : ℕ} {t t' : List ℕ} {from at k : ℕ} (c : CopiedAt body l i t t' from at k) where
  pub copied_end : length l ≤ k → Stored t t' from (kept_bytes body l i) at
  unfolding bytes_of
  copied_end h =
      let n : at + 0 ≡ from + length (kept_bytes body l i) = rw (none_left i l k h) at c.next in
      record { next = omega arith; is = rw (none_left i l k h) at c.is }

  pub copied_other : k < length l → ((get_or l k nobody).member ≡ i → ⊥) → CopiedAt body l i t t' from at (k + 1)
  copied_other h q =
      record { next = rw (other_left i l k h q) at c.next; is = rw (other_left i l k h q) at c.is; same = c.same }

  module _ (h : k < length l) (q : (get_or l k nobody).member ≡ i) where
    abbrev part : List ℕ
    part = let p = (get_or l k nobody).piece in cut body p.start p.len

    abbrev rest : List ℕ
    rest = bytes_of body (kept_for i (drop (k + 1) l))

    parts : bytes_of body (kept_for i (drop k l)) ≡ part ++ rest
    unfolding bytes_of
    parts = rw (mine_left i l k h q)

    -- as it is lent
    lent : take ((get_or l k nobody).piece.start + (get_or l k nobody).piece.len - (get_or l k nobody).piece.start)
        (drop (get_or l k nobody).piece.start body) ≡ part
    lent =
        let p = (get_or l k nobody).piece in
        let z : p.start + p.len - p.start ≡ p.len = omega arith in
        rw z

    pub copied_room : from + length (kept_bytes body l i) ≤ length t
        → at + length (take ((get_or l k nobody).piece.start + (get_or l k nobody).piece.len - (get_or l k nobody).piece.start)
        (drop (get_or l k nobody).piece.start body)) ≤ length t'
    copied_room room = rw lent (omega (arith, c.next, c.same, room, ap length parts, length-append part rest))

    pub copied_mine : {t'' : List ℕ} {r : ℕ}
        → Stored t' t'' at (take ((get_or l k nobody).piece.start + (get_or l k nobody).piece.len - (get_or l k nobody).piece.start)
        (drop (get_or l k nobody).piece.start body)) r
        → CopiedAt body l i t t'' from r (k + 1)
    copied_mine {t''} {r} w =
        let s : Stored t' t'' at part r = rw lent at w in
        record {
          next = omega (arith, s.next, c.next, ap length parts, length-append part rest);
          is = rw (s.is, s.next) (sets_append t' at part rest ∙ rw (← parts) c.is);
          same = ap length s.is ∙ length-sets t' at part ∙ c.same;
        }

pub inside_at : {body : List ℕ} {l : List Kept} → Every (InBody body) l → (k : ℕ) → k < length l → InBody body (get_or l k nobody)
inside_at none k h = absurd (omega arith)
inside_at (and p e) zero h = p
inside_at (and p e) (suc k) h = inside_at e k (omega arith)

-- ---- between two tags
pub flat_size : (body : List ℕ) (l : List Kept) (i : ℕ) → length (flat body l i) ≡ length (kept_bytes body l i) + 17
unfolding flat
flat_size body l i = omega (arith, length-append (kept_bytes body l i) (ascii "</__flat>"))

module _ (body : List ℕ) (l : List Kept) (i : ℕ) {t : List ℕ} {from : ℕ} where
  module _ {t₁ : List ℕ} {a : ℕ} (x : Stored t t₁ from (ascii "<__flat>") a) where
    same₁ : length t₁ ≡ length t
    same₁ = ap length x.is ∙ length-sets t from (ascii "<__flat>")

    pub flat_kept : from + length (flat body l i) ≤ length t → a + length (kept_bytes body l i) ≤ length t₁
    flat_kept room = omega (arith, flat_size body l i, x.next, same₁, room)

    module _ {t₂ : List ℕ} {b : ℕ} (y : Stored t₁ t₂ a (kept_bytes body l i) b) where
      same₂ : length t₂ ≡ length t
      same₂ = ap length y.is ∙ length-sets t₁ a (kept_bytes body l i) ∙ same₁

      pub flat_close : from + length (flat body l i) ≤ length t → b + 9 ≤ length t₂
      flat_close room = omega (arith, flat_size body l i, x.next, y.next, same₂, room)

      pub flat_done : {t₃ : List ℕ} {r : ℕ} → Stored t₂ t₃ b (ascii "</__flat>") r → Stored t t₃ from (flat body l i) r
      unfolding flat
      flat_done {t₃} {r} z =
          let first = ascii "<__flat>" in
          let k = kept_bytes body l i in
          let last = ascii "</__flat>" in
          record {
            next = omega (arith, x.next, y.next, z.next, length-append k last);
            is =
                z.is ∙ rw (y.is, y.next, x.is, x.next)
                (sets_append (sets t from first) (from + 8) k last ∙ sets_append t from first (k ++ last));
          }

-- as many bytes as were measured
bytes_size : (body : List ℕ) {l : List Kept} → Every (InBody body) l → (i : ℕ)
    → length (bytes_of body (kept_for i l)) ≡ lengths (kept_for i l)
unfolding kept_for bytes_of lengths
bytes_size body none i = refl
bytes_size body (and {x = k} {l = l} p e) i = by (eqb k.member i) (bytes_size body e i)
  where
    by : (b : Bool) → length (bytes_of body (kept_for i l)) ≡ lengths (kept_for i l)
        → length (bytes_of body (pick b (k.piece ∷ kept_for i l) (kept_for i l))) ≡ lengths (pick b (k.piece ∷ kept_for i l) (kept_for i l))
    by true ih =
        let own = cut body k.piece.start k.piece.len in
        omega (arith, ih, length-append own (bytes_of body (kept_for i l)), length_cut body k.piece.start k.piece.len p.within)
    by false ih = ih

pub flat_long : (body : List ℕ) (l : List Kept) (i : ℕ) → Inside body l → {n : ℕ} → n ≡ flat_len l i → n ≡ length (flat body l i)
unfolding flat_len kept_len kept_bytes
flat_long body l i w q = omega (arith, q, flat_size body l i, bytes_size body w.each i)
