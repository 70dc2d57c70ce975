-- Well-formed sequences joined, and cut at an ASCII byte.
use Prim.Native.Nat.{ℕ, suc, ◌+◌, ◌-◌, ◌≤◌, ◌<◌}
use mathlib.Core.Path.{◌≡◌, refl}
use mathlib.Core.Bool.{Bool, true, false}
use mathlib.Core.List.{List, [], ◌∷◌, ◌++◌, append_assoc}
use native.Mathlib.Numerals.{add-one}
use native.Mathlib.Omega.{arith}
use borrow.Author.Tests.{leb-true, le-leb}
use lib.Dec.{leb}
use lib.ListN.{length, get_or, drop, take, length-drop}
use lib.Seq.{split_at, drop-cons, take-suc, get_or-drop}
use Rattle.lists.specs.Tests.{pick}
use Rattle.lists.proofs.Tests.{false_true}
use Rattle.utf8.specs.Table.{Range, ◌to◌, table, in_range, WellFormed, none, next, After, due, never, after, walk, is_utf8}
use Rattle.utf8.proofs.Agree.{both, in_range_lem}

-- ---- joined
-- two well-formed sequences, one after the other, are well-formed
pub well_append : {a b : List ℕ} → WellFormed a → WellFormed b → WellFormed (a ++ b)
well_append none v = v
well_append {b = b} (next {c} {s} o w) v = rw (append_assoc c s b) (next o (well_append w v))

-- after a sequence that ends with a whole character the walk begins anew
pub walk_append : (a : List ℕ) (rs : List Range) (b : List ℕ) → walk rs a ≡ true → walk rs (a ++ b) ≡ walk [] b
unfolding walk
walk_append [] [] b e = refl
walk_append [] (r ∷ rs) b e = false_true e
walk_append (x ∷ a) (r ∷ rs) b e = go (in_range r x) e (walk_append a rs b)
  where
    go : (t : Bool) → pick t (walk rs a) false ≡ true → (walk rs a ≡ true → walk rs (a ++ b) ≡ walk [] b)
        → pick t (walk rs (a ++ b)) false ≡ walk [] b
    go true q ih = ih q
    go false q ih = false_true q
walk_append (x ∷ a) [] b e = go (after table x) e (λ rs. walk_append a rs b)
  where
    go : (n : After) → elim n [ due rs ↦ walk rs a | never ↦ false ] ≡ true
        → ((rs : List Range) → walk rs a ≡ true → walk rs (a ++ b) ≡ walk [] b)
        → elim n [ due rs ↦ walk rs (a ++ b) | never ↦ false ] ≡ walk [] b
    go (due rs) q ih = ih rs q
    go never q ih = false_true q

-- ---- a pending character admits no ASCII byte
-- all ranges begin at 0x80 or above
unfoldable pub high : List Range → Bool
high [] = true
high (from to last ∷ rs) = pick (leb 0x80 from) (high rs) false

-- so do those of each row but the first
unfoldable high_rests : List (List Range) → Bool
high_rests [] = true
high_rests ([] ∷ rows) = high_rests rows
high_rests ((r ∷ rs) ∷ rows) = pick (high rs) (high_rests rows) false

rest_high : (rows : List (List Range)) (b : ℕ) (rs : List Range) → high_rests rows ≡ true → after rows b ≡ due rs → high rs ≡ true
unfolding high_rests after
rest_high [] b rs g e = let z : ◌≡◌ {A = ℕ} 0 1 = cc in absurd (omega arith)
rest_high ([] ∷ rows) b rs g e = rest_high rows b rs g e
rest_high ((r ∷ ts) ∷ rows) b rs g e =
    let p = both (high ts) (high_rests rows) g in
    go (in_range r b) e p.0 (rest_high rows b rs p.1)
  where
    go : (t : Bool) → pick t (due ts) (after rows b) ≡ due rs → high ts ≡ true → (after rows b ≡ due rs → high rs ≡ true) → high rs ≡ true
    go true q h ih = let x : rs ≡ ts = cc in rw x h
    go false q h ih = ih q

-- what a first byte asks for begins at 0x80 or above
pub after_high : (b : ℕ) (rs : List Range) → after table b ≡ due rs → high rs ≡ true
unfolding high_rests high table
after_high b rs e = rest_high table b rs refl e

-- an ASCII byte does not go on with a character
pub ascii_none : (rs : List Range) (b : ℕ) (s : List ℕ) → walk rs (b ∷ s) ≡ true → high rs ≡ true → b < 0x80 → rs ≡ []
unfolding walk high in_range
ascii_none [] b s e g h = refl
ascii_none (from to last ∷ rs) b s e g h =
    let p = both (in_range (from to last) b) (walk rs s) e in
    let q = both (leb 0x80 from) (high rs) g in
    absurd (omega (arith, in_range_lem from last b p.0, leb-true 0x80 from q.0))

-- an ASCII byte is a character
pub ascii_after : (b : ℕ) → b < 0x80 → after table b ≡ due []
unfolding after table in_range
ascii_after b h = rw (le-leb 0 b (omega arith), le-leb b 0x7F (omega arith))

-- and the walk goes past it
pub walk_ascii : (b : ℕ) (s : List ℕ) → b < 0x80 → walk [] (b ∷ s) ≡ walk [] s
unfolding walk
walk_ascii b s h = rw (ascii_after b h, walk)

-- ---- cut before an ASCII byte
pub record Cut (rs : List Range) (a c : List ℕ) : Type 0 where
  pub front : walk rs a ≡ true
  pub back : walk [] c ≡ true

-- a sequence that the walk admits, cut before an ASCII byte: no character is pending there
pub cut_before : (a : List ℕ) (rs : List Range) (b : ℕ) (c : List ℕ) → walk rs (a ++ (b ∷ c)) ≡ true → high rs ≡ true → b < 0x80
    → Cut rs a (b ∷ c)
unfolding walk high
cut_before [] rs b c e g h =
    let q = ascii_none rs b c e g h in
    record { front = rw q; back = rw q at e }
cut_before (x ∷ a) (from to last ∷ rs) b c e g h =
    let p = both (in_range (from to last) x) (walk rs (a ++ (b ∷ c))) e in
    let q = both (leb 0x80 from) (high rs) g in
    let ih = cut_before a rs b c p.1 q.1 h in
    record { front = front_of p.0 ih.front; back = ih.back }
  where
    front_of : in_range (from to last) x ≡ true → walk rs a ≡ true → pick (in_range (from to last) x) (walk rs a) false ≡ true
    front_of p q = rw p q
cut_before (x ∷ a) [] b c e g h = go (after table x) refl e (λ rs q k. cut_before a rs b c q k h)
  where
    go : (n : After) → after table x ≡ n → elim n [ due rs ↦ walk rs (a ++ (b ∷ c)) | never ↦ false ] ≡ true
        → ((rs : List Range) → walk rs (a ++ (b ∷ c)) ≡ true → high rs ≡ true → Cut rs a (b ∷ c)) → Cut [] (x ∷ a) (b ∷ c)
    go (due rs) m q ih = let w = ih rs q (after_high x rs m) in record { front = rw (m, walk) w.front; back = w.back }
    go never m q ih = false_true q

-- ---- the four cuts at an ASCII byte b between a and c
module _ (a : List ℕ) (b : ℕ) (c : List ℕ) (e : is_utf8 (a ++ (b ∷ c)) ≡ true) (h : b < 0x80) where
  -- what stands before it
  pub utf8_before : is_utf8 a ≡ true
  unfolding is_utf8 high
  utf8_before = (cut_before a [] b c e refl h).front

  -- it, and what follows
  pub utf8_from : is_utf8 (b ∷ c) ≡ true
  unfolding is_utf8 high
  utf8_from = (cut_before a [] b c e refl h).back

  -- what follows it
  pub utf8_past : is_utf8 c ≡ true
  unfolding is_utf8
  utf8_past = rw (walk_ascii b c h) at utf8_from

  -- what stands before it, with it
  pub utf8_upto : is_utf8 (a ++ (b ∷ [])) ≡ true
  unfolding is_utf8 walk
  utf8_upto = rw (walk_append a [] (b ∷ []) utf8_before, walk_ascii b [] h)

-- ---- cuts by the place i of the ASCII byte
module _ (s : List ℕ) (i : ℕ) (at : i < length s) (h : get_or s i 0 < 0x80) (e : is_utf8 s ≡ true) where
  whole : is_utf8 (take i s ++ (get_or s i 0 ∷ drop (suc i) s)) ≡ true
  whole = rw (split_at s i 0 at) at e

  -- the bytes from i on
  pub utf8_drop : is_utf8 (drop i s) ≡ true
  utf8_drop = rw (drop-cons s i 0 at) (utf8_from (take i s) (get_or s i 0) (drop (suc i) s) whole h)

  -- the first i + 1 bytes
  pub utf8_take_past : is_utf8 (take (i + 1) s) ≡ true
  utf8_take_past = rw (add-one i, take-suc s i 0 at) (utf8_upto (take i s) (get_or s i 0) (drop (suc i) s) whole h)

-- the first n bytes, the last of them ASCII
pub utf8_take_after : (s : List ℕ) (n : ℕ) → 0 < n → n ≤ length s → get_or s (n - 1) 0 < 0x80 → is_utf8 s ≡ true → is_utf8 (take n s) ≡ true
utf8_take_after s n g l h e =
    let q : n - 1 + 1 ≡ n = omega arith in
    rw q at (utf8_take_past s (n - 1) (omega arith) h e)

-- a part whose first and last bytes are ASCII
pub utf8_part : (s : List ℕ) (from end : ℕ) → from < end → end ≤ length s → get_or s from 0 < 0x80 → get_or s (end - 1) 0 < 0x80
    → is_utf8 s ≡ true → is_utf8 (take (end - from) (drop from s)) ≡ true
utf8_part s from end g l h k e =
    let q : from + (end - from - 1) ≡ end - 1 = omega arith in
    let n : get_or (drop from s) (end - from - 1) 0 ≡ get_or s (end - 1) 0 = rw q at (get_or-drop from s (end - from - 1) 0) in
    utf8_take_after (drop from s) (end - from) (omega arith) (omega (arith, length-drop from s)) (omega arith)
    (utf8_drop s from (omega arith) h e)

-- a walk that goes on after n bytes, the last of them ASCII, begins anew there, whatever character was pending before
pub walk_drop_after : (rs : List Range) (s : List ℕ) (n : ℕ) → high rs ≡ true → 0 < n → n ≤ length s → get_or s (n - 1) 0 < 0x80
    → walk rs s ≡ true → walk [] (drop n s) ≡ true
walk_drop_after rs s n g p l h e =
    let q : suc (n - 1) ≡ n = omega arith in
    let w = cut_before (take (n - 1) s) rs (get_or s (n - 1) 0) (drop (suc (n - 1)) s) (rw (split_at s (n - 1) 0 (omega arith)) at e) g h in
    rw q at (rw (walk_ascii (get_or s (n - 1) 0) (drop (suc (n - 1)) s) h) at w.back)
