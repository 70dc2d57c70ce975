-- Laws of an entry and its bytes: what the buffers hold once both are stored, and that they stay as they were where there is no room.
use Prim.Native.Nat.{ℕ, ◌+◌, ◌-◌, ◌*◌, ◌/◌, ◌^◌, ◌≤◌, ◌<◌, min}
use mathlib.Core.Path.{◌≡◌, refl, sym, ◌∙◌, ap, subst}
use mathlib.Core.Bool.{Bool, true, false}
use mathlib.Core.List.{List, [], ◌∷◌, ◌++◌, append-nil}
use native.Mathlib.Nat.{add-zero}
use native.Mathlib.Omega.{arith}
use borrow.Author.Tests.{ltb-true, leb-true, le-leb}
use lib.Dec.{ltb, leb}
use lib.ListN.{length, length-append}
use lib.Seq.{sets, length-sets}
use borrow.Rule.Slice.Mut.{set_vals}
use Rattle.std.specs.Prelude.{Result, Ok, Err, IsErrAnd, MatchResult}
use Rattle.std.proofs.lemmas.Result.{err_from_is_err_and}
use Rattle.lists.specs.Tests.{pick}
use Rattle.lists.proofs.Tests.{false_true}
use Rattle.lists.specs.Overwrite.{overwritten, Stored}
use Rattle.lists.proofs.Overwrite.{overwrite_more, rest, back, back_stored, sets_append}
use Rattle.refusal.specs.declared.Refusal.{Refusal}
use Rattle.refusal.specs.Answer.{Answer, gives, refuses}
use Rattle.refusal.specs.Numbers.{number, place}
use Rattle.document.specs.declared.part.Piece.{Piece}
use Rattle.document.specs.declared.part.Text.{Text}
use Rattle.document.specs.declared.part.Measured.{Measured}
use Rattle.document.specs.Part.{text_at, given, bytes_of, measured_as}
use Rattle.readings.specs.Output.{Output, refused, six_numbers, numbers_of, fits, keyless, piece_kind, failed_kind}
use Rattle.readings.specs.Output as reading
use Rattle.readings.specs.Plan.{Plan, end, stop, perform, one}
use Rattle.readings.specs.Structure.{scalar_plan}
use Rattle.output.specs.declared.entry.Entry.{Entry}
use Rattle.output.specs.declared.Output.{Output as Buffers}
use Rattle.output.specs.Entry.{entry_of}
use Rattle.output.specs.Plans.{put_entry, put_piece, put_failed, put_measured, text_or, put_text, put_scalar}
use Rattle.output.specs.Call.{room_of}
use Rattle.output.specs.Held.{room_in, Holds, Ends, SameBuffers, Does, HoldsAny, EndsAny, Enters}
use Rattle.output.specs.Held.{Fits, has_entry, has_room, PlaceFor, Pushed}

-- ---- numbers of entries
numbers_more : (l : List reading.Entry) (e : reading.Entry) → numbers_of (l ++ e ∷ []) ≡ numbers_of l ++ six_numbers e
unfolding numbers_of
numbers_more [] e = refl
numbers_more (x ∷ l) e = ap (λ (k : List ℕ). six_numbers x ++ k) (numbers_more l e)

pub numbers_length : (l : List reading.Entry) → length (numbers_of l) ≡ length l * 6
unfolding numbers_of
numbers_length [] = refl
numbers_length (x ∷ l) = omega (arith, numbers_length l)

-- ---- the test of the room
room_is : (b : Buffers) (n : ℕ) → has_room b n ≡ true → Fits b n
room_is b n = go (ltb b.count (length b.entries.now / 6)) refl
  where
    go : (x : Bool) → ltb b.count (length b.entries.now / 6) ≡ x
        → pick x (leb (b.used + n) (min (length b.texts.now) (2 ^ 32 - 1))) false ≡ true → Fits b n
    go true p y = record { entry = ltb-true _ _ p; bytes = leb-true _ _ y }
    go false p y = false_true y

module _ {b : Buffers} {n : ℕ} where
  place_is : (x : Bool) {at : ℕ} → has_room b n ≡ x → Ok at ≡ pick x (Ok b.used) (Err Refusal.NoRoom) → Fits b n × (at ≡ b.used)
  place_is true p y = (room_is b n p, cc)
  place_is false p y = cc

  -- the place where the bytes begin
  pub place_fits : {at : ℕ} → PlaceFor b n (Ok at) → Fits b n
  place_fits q = (place_is (has_room b n) refl q.is).0

  pub place_at : {at : ℕ} → PlaceFor b n (Ok at) → at ≡ b.used
  place_at q = (place_is (has_room b n) refl q.is).1

  pub place_none : {why : Refusal} → PlaceFor b n (Err why) → (has_room b n ≡ false) × (why ≡ Refusal.NoRoom)
  place_none {why} q = go (has_room b n) refl q.is
    where
      go : (x : Bool) → has_room b n ≡ x → Err why ≡ pick x (Ok b.used) (Err Refusal.NoRoom)
          → (has_room b n ≡ false) × (why ≡ Refusal.NoRoom)
      go true p y = cc
      go false p y = (p, cc)

-- ---- what the buffers hold
pub same_buffers : (b : Buffers) → SameBuffers b b
same_buffers b = record { entries = refl; texts = refl }

-- the numbers of an entry more
stored_more : (l : List reading.Entry) (entry : reading.Entry) (e : List ℕ) {e' e'' : List ℕ} {n : ℕ} → n ≡ length l
    → e' ≡ overwritten e (numbers_of l) → length e' ≡ length e → n < length e' / 6 → e'' ≡ sets e' (n * 6) (six_numbers entry)
    → e'' ≡ overwritten e (numbers_of (l ++ entry ∷ []))
stored_more l entry e c h z f p =
    let six = six_numbers entry in
    let few : length (numbers_of l ++ six) ≤ length e = omega (arith, length-append (numbers_of l) six, numbers_length l, f, c, z) in
    p ∙ rw (c, ← numbers_length l, h, overwrite_more e (numbers_of l) six few, numbers_more l entry)

held_bytes : {out : Output} {e t : List ℕ} {b : Buffers} → Holds out e t b → b.used ≤ min (length b.texts.now) (2 ^ 32 - 1)
held_bytes h = rw (h.used, h.same_texts) h.bytes

module _ {out : Output} {e t : List ℕ} {b : Buffers} (h : Holds out e t b) (entry : ℕ → reading.Entry) (x : List ℕ) where
  fits_is : fits (room_in (length e) (length t)) x out ≡ has_room b (length x)
  fits_is = rw (h.count, h.used, h.same_entries, h.same_texts)

  -- both fit: the entry's numbers and its bytes are stored where those before them end
  ends_written : {b' : Buffers} → has_room b (length x) ≡ true
      → b'.entries.now ≡ sets b.entries.now (b.count * 6) (six_numbers (entry b.used))
      → b'.texts.now ≡ sets b.texts.now b.used x → b'.count ≡ b.count + 1 → b'.used ≡ b.used + length x
      → Ends (perform (room_in (length e) (length t)) (one entry x) out) e t b' (Ok (tt {0}))
  unfolding perform
  ends_written {b'} room p q c u =
      let m = length out.texts in
      let both = room_is b (length x) room in
      let less : length (out.texts ++ x) ≤ length t = omega (arith, length-append out.texts x, both.bytes, h.used, h.same_texts) in
      rw (fits_is ∙ room)
      (record {
        is = refl;
        holds = record {
          count = omega (arith, c, h.count, length-append out.entries (entry m ∷ []));
          used = omega (arith, u, h.used, length-append out.texts x);
          entries = stored_more out.entries (entry m) e h.count h.entries h.same_entries both.entry (rw h.used at p);
          texts = q ∙ rw (h.used, h.texts, overwrite_more t out.texts x less);
          same_entries = ap length p ∙ length-sets b.entries.now (b.count * 6) (six_numbers (entry b.used)) ∙ h.same_entries;
          same_texts = ap length q ∙ length-sets b.texts.now b.used x ∙ h.same_texts;
          bytes = omega (arith, length-append out.texts x, both.bytes, h.used, h.same_texts);
        };
      })

  ends_no_room : has_room b (length x) ≡ false
      → Ends (perform (room_in (length e) (length t)) (one entry x) out) e t b (Err Refusal.NoRoom)
  unfolding perform
  ends_no_room room = rw (fits_is ∙ room) (record { is = refl; holds = h })

-- ---- a write
-- as a refusal leaves them
pub stops : {r : Refusal} (b : Buffers) → Does (stop r) b b (Err r)
unfolding perform
stops b = record { is = λ h. record { is = refl; holds = h }; same = same_buffers b }

pub no_room : (entry : ℕ → reading.Entry) (x : List ℕ) {b : Buffers} {n : ℕ} {why : Refusal} {r : Result (Unit {0}) Refusal}
    → PlaceFor b n (Err why) → n ≡ length x → IsErrAnd r (λ (e : Refusal). e ≡ why) → Does (one entry x) b b r
no_room entry x {b} {n} {r = r} q z f =
    let p = place_none q in
    let g = err_from_is_err_and r f in
    rw (g.1, g.2, p.1) (record { is = λ h. ends_no_room h entry x (rw (← z) p.0); same = same_buffers b })

-- the buffers, once the bytes x are stored where a place was found
pub record Filled (x : List ℕ) (b b₁ : Buffers) : Type 0 where
  pub texts : b₁.texts.now ≡ sets b.texts.now b.used x
  pub entries : b₁.entries ≡ b.entries
  pub count : b₁.count ≡ b.count
  pub used : b₁.used ≡ b.used
  pub name : b₁.texts.ghost_name ≡ b.texts.ghost_name

pub filled_none : (b : Buffers) → Filled [] b b
filled_none b = record { texts = refl; entries = refl; count = refl; used = refl; name = refl }

pub written : (entry : ℕ → reading.Entry) (x : List ℕ) {s : Entry} {b b₁ b' : Buffers} {n at : ℕ} → PlaceFor b n (Ok at) → n ≡ length x
    → Filled x b b₁ → Pushed s n b₁ b' → entry_of s ≡ entry at → Does (one entry x) b b' (Ok (tt {0}))
written entry x {s} {b} {b₁} {b'} {n} {at} q z f p m =
    let room : has_room b n ≡ true = is_room (has_room b n) refl q.is in
    record {
      is = λ h. ends_written h entry x (rw (← z) room)
          (p.entries ∙ rw (f.entries, f.count, m, place_at q)) (p.texts ∙ f.texts)
          (p.count ∙ ap (λ (k : ℕ). k + 1) f.count) (p.used ∙ rw (f.used, z));
      same = record {
        entries = p.same.entries ∙ rw f.entries;
        texts = p.same.texts ∙ f.name;
      };
    }
  where
    is_room : (y : Bool) → has_room b n ≡ y → Ok at ≡ pick y (Ok b.used) (Err Refusal.NoRoom) → has_room b n ≡ true
    is_room true e w = e
    is_room false e w = cc

module _ (x : List ℕ) {b : Buffers} {p : List ℕ} where
  pub filled_one : b.used + length x ≤ length b.texts.now → p ≡ overwritten (rest b.texts.now b.used) x
      → Filled x b (record b { texts = set_vals (back b.texts.now b.used p) b.texts })
  filled_one h q =
      record { texts = back_stored b.texts.now b.used x h q; entries = refl; count = refl; used = refl; name = refl }

  pub filled_put : {r : ℕ} → Stored b.texts.now p b.used x r → Filled x b (record b { texts = set_vals p b.texts })
  filled_put s = record { texts = s.is; entries = refl; count = refl; used = refl; name = refl }

  -- and others after them
  pub filled_two : (y : List ℕ) {q : List ℕ} {at : ℕ} → at ≡ b.used + length x → at + length y ≤ length b.texts.now
      → p ≡ overwritten (rest b.texts.now b.used) x
      → q ≡ overwritten (rest (back b.texts.now b.used p) at) y
      → Filled (x ++ y) b (record b { texts = set_vals (back (back b.texts.now b.used p) at q) b.texts })
  filled_two y {q} {at} z h f g =
      let one : back b.texts.now b.used p ≡ sets b.texts.now b.used x = back_stored b.texts.now b.used x (omega (arith, z, h)) f in
      let long : at + length y ≤ length (back b.texts.now b.used p) =
      omega (arith, h, ap length one, length-sets b.texts.now b.used x) in
      record {
        texts =
            back_stored (back b.texts.now b.used p) at y long g ∙ ap (λ (l : List ℕ). sets l at y) one
            ∙ rw z (sets_append b.texts.now b.used x y);
        entries = refl;
        count = refl;
        used = refl;
        name = refl;
      }

-- ---- an entry without text: room for it is room for itself alone
entry_alone : (b : Bool) → pick b true false ≡ b
entry_alone true = refl
entry_alone false = refl

pub alone : {n m : ℕ} (c : Bool) → n ≤ m → pick c (leb (n + 0) m) false ≡ c
alone {n} {m} c h = rw (le-leb (n + 0) m (omega (arith, h))) (entry_alone c)

module _ {out : Output} {e t e' t' : List ℕ} {n m : ℕ} (h : HoldsAny out e t e' t' n m) (entry : ℕ → reading.Entry) where
  any_fits : fits (room_of e t) [] out ≡ ltb n (length e' / 6)
  any_fits = rw (h.count, h.same_entries) (alone (ltb (length out.entries) (length e / 6)) h.bytes)

  any_written : {e'' : List ℕ} {k : ℕ} → ltb n (length e' / 6) ≡ true → e'' ≡ sets e' (n * 6) (six_numbers (entry m)) → k ≡ n + 1
      → EndsAny (perform (room_of e t) (one entry []) out) e t e'' t' k m (Ok (tt {0}))
  unfolding perform
  any_written room p q =
      rw (any_fits ∙ room)
      (record {
        is = refl;
        holds = record {
          count = omega (arith, q, h.count, length-append out.entries (entry (length out.texts) ∷ []));
          used = h.used ∙ ap length (sym (append-nil out.texts));
          entries =
              stored_more out.entries (entry (length out.texts)) e h.count h.entries h.same_entries (ltb-true _ _ room) (rw h.used at p);
          texts = h.texts ∙ ap (overwritten t) (sym (append-nil out.texts));
          same_entries = ap length p ∙ length-sets e' (n * 6) (six_numbers (entry m)) ∙ h.same_entries;
          same_texts = h.same_texts;
          bytes = rw (append-nil out.texts) h.bytes;
        };
      })

  any_none : ltb n (length e' / 6) ≡ false → EndsAny (perform (room_of e t) (one entry []) out) e t e' t' n m (Err Refusal.NoRoom)
  unfolding perform
  any_none room = rw (any_fits ∙ room) (record { is = refl; holds = h })

module _ (s : Entry) {b : Buffers} where
  module _ (q : has_entry b ≡ false) where
    pub entry_none : Does (put_entry s) b b (Err Refusal.NoRoom)
    unfolding put_entry
    entry_none =
        record { is = λ h. ends_no_room h (λ (at : ℕ). entry_of s) [] (alone (has_entry b) (held_bytes h) ∙ q); same = same_buffers b }

    pub enters_none : Enters (put_entry s) b b (Err Refusal.NoRoom)
    unfolding put_entry
    enters_none = record { is = λ x h. any_none h (λ (at : ℕ). entry_of s) q; texts = refl }

  module _ (q : has_entry b ≡ true) {b' : Buffers} (p : Pushed s 0 b b') where
    pub entry_written : Does (put_entry s) b b' (Ok (tt {0}))
    unfolding put_entry
    entry_written =
        record {
          is = λ h. ends_written h (λ (at : ℕ). entry_of s) [] (alone (has_entry b) (held_bytes h) ∙ q) p.entries p.texts p.count p.used;
          same = p.same;
        }

    pub enters_written : Enters (put_entry s) b b' (Ok (tt {0}))
    unfolding put_entry
    enters_written =
        record {
          is = λ x h. rw (p.used ∙ add-zero b.used) (any_written h (λ (at : ℕ). entry_of s) q p.entries p.count);
          texts = p.texts;
        }

-- those that are written
pub piece_put : (member : ℕ) (p : Piece) (s : Entry) → entry_of s ≡ keyless piece_kind member p.start p.len
    → put_piece member p ≡ put_entry s
unfolding put_piece put_entry
piece_put member p s q = rw q

pub failed_put : (member : ℕ) (why : Refusal) (s : Entry) → entry_of s ≡ keyless failed_kind member (number why) (place why)
    → put_failed member why ≡ put_entry s
unfolding put_failed put_entry
failed_put member why s q = rw q

-- nothing, and a refusal
pub enters_nothing : (b : Buffers) → Enters end b b (Ok (tt {0}))
unfolding perform
enters_nothing b = record { is = λ x h. record { is = refl; holds = h }; texts = refl }

pub enters_stop : (b : Buffers) (r : Refusal) → Enters (stop r) b b (Err r)
unfolding perform
enters_stop b r = record { is = λ x h. record { is = refl; holds = h }; texts = refl }

-- a plan that is another
pub enters_as : {f g : Plan} {b b' : Buffers} {r : Result (Unit {0}) Refusal} → f ≡ g → Enters g b b' r → Enters f b b' r
enters_as p d = rw p d

-- ---- what measuring found decides
module _ (member : ℕ) (t : Text) {b : Buffers} {r : Result (Unit {0}) Refusal} where
  pub text_refused : {why : Refusal} → refuses why ≡ text_at t → IsErrAnd r (λ (e : Refusal). e ≡ why) → Does (put_text member t) b b r
  unfolding put_text
  text_refused {why} q f =
      let g = err_from_is_err_and r f in
      subst (λ (a : Answer (List ℕ)). Does (text_or member a) b b r) q (rw (g.1, g.2) (stops b))

  pub text_written : {b' : Buffers} (m : Measured) → gives (bytes_of m) ≡ text_at t → Does (put_measured member m) b b' r
      → Does (put_text member t) b b' r
  unfolding put_text put_measured
  text_written {b'} m q d = subst (λ (a : Answer (List ℕ)). Does (text_or member a) b b' r) q d

pub given_measured : (t : Result Text Refusal) (r : Result Measured Refusal)
    → MatchResult t (λ (x : Text). measured_as r ≡ text_at x) (λ (e : Refusal). r ≡ Err e) → measured_as r ≡ given t
given_measured (Ok x) r h = h
given_measured (Err e) r h = rw h

module _ (member : ℕ) (t : Result Text Refusal) {b b' : Buffers} {r : Result (Unit {0}) Refusal} where
  pub scalar_written : (m : Measured) → gives (bytes_of m) ≡ given t → Does (put_measured member m) b b' r
      → Does (put_scalar member t) b b' r
  unfolding put_scalar put_measured
  scalar_written m q d = subst (λ (a : Answer (List ℕ)). Does (scalar_plan member a) b b' r) q d

  pub scalar_failed : (why : Refusal) → refuses why ≡ given t → Does (put_failed member why) b b' r → Does (put_scalar member t) b b' r
  unfolding put_scalar put_failed
  scalar_failed why q d = subst (λ (a : Answer (List ℕ)). Does (scalar_plan member a) b b' r) q d
