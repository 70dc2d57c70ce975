-- Laws of writing what a text comes to: that the bytes stay within the room, what each store leaves, and the answer.
use Prim.Native.Nat.{ℕ, ◌+◌, ◌≤◌, ◌<◌}
use mathlib.Core.Path.{◌≡◌, refl, sym, ◌∙◌, ap, subst}
use mathlib.Core.Bool.{Bool, true, false}
use mathlib.Core.List.{List, [], ◌++◌}
use native.Mathlib.Nat.{zero-add}
use native.Mathlib.Omega.{arith}
use borrow.Author.Tests.{le-leb, lt-leb, leb-true}
use borrow.Author.Rules.{rules}
use lib.Dec.{leb}
use lib.ListN.{length, get_or, drop, length-append}
use lib.Seq.{sets, sets-eq, length-sets}
use Rattle.lists.specs.Tests.{pick}
use Rattle.lists.specs.Parts.{part}
use Rattle.lists.proofs.Parts.{get_d_in}
use Rattle.lists.specs.Find.{NextAt}
use Rattle.lists.specs.Overwrite.{overwritten, Stored}
use Rattle.lists.proofs.Overwrite.{overwrite_none, overwrite_more}
use Rattle.utf8.specs.Encode.{scalar, encode}
use Rattle.reference.specs.Text.{reference, Out, before, decode, answer, filled, unescaped, Unescape}
use Rattle.reference.specs.Text.Out.{bytes, bad}
use Rattle.reference.proofs.Result.{plain_unescapes}
use Rattle.reference.proofs.Taken.{taken}
use Rattle.reference.proofs.Place.{bad_is, fails_within}
use Rattle.reference.proofs.Walk.{DecodeAt, decode_start, decode_plain, decode_end, decode_bad, decode_ref}
use Rattle.unescape.specs.Loops.{size_of}
use Rattle.unescape.proofs.Loops.{seek_laws, next_fits, next_less, run_less}
use Rattle.reference.specs.declared.Reference.{Reference}
use Rattle.reference.specs.declared.BadReference.{BadReference}
use Rattle.reference.specs.declared.UnescapeError.{UnescapeError}
use Rattle.unescape.specs.Fill.{Room}
use Rattle.std.specs.Prelude.{IsSome, Option, None, Some, Result, Ok, Err}

-- what is written so far stays within the room that the whole has
stays : {t acc : List ℕ} {i m : ℕ} → DecodeAt false t acc i → Room (unescaped t) m → length acc ≤ m
unfolding unescaped Room before
stays {t} {acc} {i} {m} at room = go (decode false i 0 (drop i t)) (subst (λ (o : Out). Room o m) (sym at.rest) room)
  where
    go : (o : Out) → Room (before acc o) m → length acc ≤ m
    go (bytes l) h = omega (arith, length-append acc l)
    go (bad k) h = absurd h

-- a scalar value is below 0x110000
scalar_below : (c : ℕ) → scalar c ≡ true → c < 0x110000
unfolding scalar
scalar_below c e = go (leb c 0xD7FF) (leb 0xE000 c) (leb c 0x10FFFF) refl refl e
  where
    go : (t u v : Bool) → leb c 0xD7FF ≡ t → leb c 0x10FFFF ≡ v → pick t true (pick u v false) ≡ true → c < 0x110000
    go true u v p q e = omega (arith, leb-true c 0xD7FF p)
    go false u true p q e = omega (arith, leb-true c 0x10FFFF q)
    go false true false p q e = let z : ◌≡◌ {A = ℕ} 0 1 = cc in absurd (omega arith)
    go false false false p q e = let z : ◌≡◌ {A = ℕ} 0 1 = cc in absurd (omega arith)

pub small_reference : (s : List ℕ) {r : Option Reference} {y : Reference} → r ≡ reference false s → r ≡ Some y → y.code < 0x110000
small_reference s q e = scalar_below _ (taken false s (sym q ∙ e)).char

-- ---- filling: old is what stood in the room, out what stands there now, n how many bytes have been written
pub record FillAt (t old out : List ℕ) (n i : ℕ) : Type 0 where
  pub acc : List ℕ
  pub at : DecodeAt false t acc i
  pub size : n ≡ length acc
  pub is : out ≡ overwritten old acc
  pub same : length out ≡ length old

pub fill_start : (t old : List ℕ) → FillAt t old old 0 0
fill_start t old = record { acc = []; at = decode_start false t; size = refl; is = sym (overwrite_none old); same = refl }

module _ {t old out : List ℕ} {n i : ℕ} (f : FillAt t old out n i) (room : Room (unescaped t) (length old)) where
  -- new bytes, stored where the written ones end
  more : {j : ℕ} (new : List ℕ) → DecodeAt false t (f.acc ++ new) j → FillAt t old (sets out n new) (n + length new) j
  more new next =
      let l = stays next room in
      record {
        acc = f.acc ++ new;
        at = next;
        size = omega (arith, f.size, length-append f.acc new);
        is = rw (f.is, f.size, overwrite_more old f.acc new l);
        same = length-sets out n new ∙ f.same;
      }

  more_room : {j : ℕ} (new : List ℕ) → DecodeAt false t (f.acc ++ new) j → n + length new ≤ length out
  more_room new next = omega (arith, f.size, f.same, stays next room, length-append f.acc new)

  pub fill_plain : {r d : ℕ} {out' : List ℕ} → NextAt t 38 i r → Stored out out' n (part t i r) d → FillAt t old out' d r
  fill_plain x s = rw (s.next, s.is) (more (part t i _) (decode_plain f.at x.clear))

  pub fill_plain_room : {r : ℕ} → NextAt t 38 i r → n + length (part t i r) ≤ length out
  fill_plain_room x = more_room (part t i _) (decode_plain f.at x.clear)

  pub fill_end : length t ≤ i → out ≡ filled (unescaped t) old
  unfolding unescaped filled
  fill_end h =
      let d = decode_end f.at h in
      rw (d, le-leb (length f.acc) (length old) (stays f.at room)) f.is

  module _ {r : Option Reference} (h : i < length t) (amp : get_or t i 0 ≡ 38) (q : r ≡ reference false (drop (i + 1) t)) where
    -- each `&` of a text that has room begins a reference
    pub fill_some : IsSome r
    unfolding unescaped Room
    fill_some = go r refl
      where
        go : (x : Option Reference) → r ≡ x → IsSome x
        go None e = absurd (rw (decode_bad f.at h amp q e) at room)
        go (Some y) e = refl

    pub fill_ref : {y : Reference} {d : ℕ} {out' : List ℕ} → r ≡ Some y → Stored out out' n (encode y.code) d
        → FillAt t old out' d (i + 1 + y.len)
    fill_ref {y} e p = rw (p.next, p.is) (more (encode y.code) (decode_ref f.at h amp q e))

    pub fill_room : {y : Reference} → r ≡ Some y → n + length (encode y.code) ≤ length out
    fill_room {y} e = more_room (encode y.code) (decode_ref f.at h amp q e)

pub ruleset fill_laws = (
  seek_laws,
  fill_start,
  fill_plain,
  fill_plain_room,
  fill_end,
  fill_some,
  fill_ref,
  fill_room,
  small_reference,
  next_fits,
  next_less,
  run_less,
)

-- ---- the answer, from what measuring found
length_is : (o : Out) {r : Result ℕ BadReference} {n : ℕ} → r ≡ size_of o → r ≡ Ok n → (l : List ℕ) × (o ≡ bytes l) × (length l ≡ n)
unfolding size_of
length_is (bytes l) {r} {n} q e = let k : length l ≡ n = cc in (l, refl, k)
length_is (bad at) {r} {n} q e = let z : ◌≡◌ {A = ℕ} 0 1 = cc in absurd (omega arith)

place_is : (o : Out) {r : Result ℕ BadReference} {why : BadReference} → r ≡ size_of o → r ≡ Err why → o ≡ bad why.at
unfolding size_of
place_is (bytes l) q e = let z : ◌≡◌ {A = ℕ} 0 1 = cc in absurd (omega arith)
place_is (bad at) {r} {why} q e = ap bad (ap place (sym q ∙ e))
  where
    place : Result ℕ BadReference → ℕ
    place (Ok n) = 0
    place (Err x) = x.at

module _ (t : List ℕ) {r : Result ℕ BadReference} (q : r ≡ size_of (unescaped t)) where
  pub measured_room : {n m : ℕ} → r ≡ Ok n → n ≤ m → Room (unescaped t) m
  unfolding Room
  measured_room e h = let x = length_is (unescaped t) q e in rw x.1 (omega (arith, x.2))

  pub measured_length : {n : ℕ} {old new : List ℕ} → r ≡ Ok n → n ≤ length old → new ≡ filled (unescaped t) old
      → Unescape t old new (Ok n)
  unfolding answer
  measured_length {n} {old} e h k = let x = length_is (unescaped t) q e in
      record { number = rw (x.1, x.2, le-leb n (length old) h); buffer = k }

  pub measured_none : {n : ℕ} {old : List ℕ} → r ≡ Ok n → length old < n → Unescape t old old (Err UnescapeError.NoRoom)
  unfolding answer filled
  measured_none {n} {old} e h =
      let x = length_is (unescaped t) q e in
      record { number = rw (x.1, x.2, lt-leb n (length old) h); buffer = rw (x.1, x.2, lt-leb n (length old) h) }

  pub measured_bad : {why : BadReference} {old : List ℕ} → r ≡ Err why → Unescape t old old (Err (UnescapeError.BadReference why.at))
  unfolding answer filled
  measured_bad e = let x = place_is (unescaped t) q e in record { number = rw x; buffer = rw x }

  -- the place lies in the text
  pub measured_within : {why : BadReference} → r ≡ Err why → why.at < length t
  unfolding unescaped
  measured_within e = fails_within false t ((bad_is false t _).0 (place_is (unescaped t) q e))

pub ruleset answer_laws = (rules, measured_room, measured_length, measured_none, measured_bad)

-- ---- a text without `&` is copied
pub whole : {t : List ℕ} {r : ℕ} → NextAt t 38 0 r → r ≡ length t → NextAt t 38 0 (length t)
whole x e = rw (← e) x

module _ {t : List ℕ} (x : NextAt t 38 0 (length t)) where
  plain_is : unescaped t ≡ bytes t
  plain_is = plain_unescapes t (λ k e. x.clear.none k (omega arith) (get_d_in t k 37 e) e)

  pub plain_length : {old new : List ℕ} {k : ℕ} → length t ≤ length old → Stored old new 0 t k → Unescape t old new (Ok k)
  unfolding answer filled overwritten
  plain_length {old} {new} {k} h s =
      let e : new ≡ t ++ drop (length t) old = s.is ∙ rw zero-add at (sets-eq t old 0 (omega arith)) in
      let n : k ≡ length t = omega (arith, s.next) in
      record { number = rw (plain_is, le-leb (length t) (length old) h, n); buffer = rw (plain_is, le-leb (length t) (length old) h) e }

  pub plain_none : {old : List ℕ} → length old < length t → Unescape t old old (Err UnescapeError.NoRoom)
  unfolding answer filled
  plain_none {old} h = record {
    number = rw (plain_is, lt-leb (length t) (length old) h);
    buffer = rw (plain_is, lt-leb (length t) (length old) h);
  }

pub ruleset plain_laws = (rules, whole, plain_length, plain_none)
