-- Laws of booleans, integers and strings from a body.
use Prim.Native.Nat.{ℕ, ◌≤◌, ◌<◌}
use mathlib.Core.Path.{◌≡◌, refl, sym, ◌∙◌, ap}
use mathlib.Core.Bool.{Bool, true, false}
use mathlib.Core.List.{List}
use native.Mathlib.Omega.{arith}
use lib.IntN.{ℤ}
use lib.Dec.{eqb}
use borrow.Author.Tests.{eqb-false}
use Rattle.lists.proofs.Parts.{get_d_in}
use Rattle.reference.specs.Text.{Out, bytes, bad, unescaped}
use Rattle.reference.proofs.Result.{plain_unescapes, unescaped_shorter}
use lib.ListN.{length, get_or, take, drop, length-append}
use lib.Seq.{take-append_seam}
use Rattle.std.specs.Prelude.{Result, Ok, Err}
use Rattle.lists.specs.Bytes.{ascii, sameb}
use Rattle.lists.proofs.Bytes.{same_is}
use Rattle.lists.specs.Overwrite.{overwritten}
use Rattle.refusal.specs.declared.Refusal.{Refusal}
use Rattle.refusal.specs.Answer.{Answer, gives, refuses, onward}
use Rattle.document.specs.Text.{string_in, text_of, unescaped_from}
use Rattle.document.specs.Part.{text_at, given, bytes_of, measured_as, CopyIs}
use Rattle.document.specs.declared.part.Text.{Text}
use Rattle.document.specs.declared.part.Measured.{Measured}
use Rattle.sheet.specs.declared.ShapeDepth.{ShapeDepth}
use Rattle.sheet.specs.declared.Settings.{Settings}
use Rattle.sheet.specs.Settings.{is_strict}
use Rattle.readings.specs.Call.{Upload}
use Rattle.readings.specs.Opening.{opened}
use Rattle.readings.specs.Scalar.{boolean_of, integer_of, unless_ill_formed, scalar_text, boolean_reading, integer_reading, string_reading}
use Rattle.decode.specs.declared.element.Element.{Element}
use Rattle.decode.specs.View.{view_of}
use Rattle.decode.specs.Element.{child_of}
use Rattle.opening.specs.Opening.{OpeningIs}

-- ---- the first text of a root
module _ (u : Upload) (s : Settings) (d : ShapeDepth) {body : List ℕ} {strict : Bool} (p : strict ≡ is_strict s d) where
  pub text_unopened : {why : Refusal} → OpeningIs body (opened strict u) (Err why) → refuses why ≡ scalar_text u s d
  unfolding scalar_text
  text_unopened x = rw (← p, ← x.is)

  module _ {e : Element} (x : OpeningIs body (opened strict u) (Ok e)) (r : Result Text Refusal)
      (y : given r ≡ text_of (view_of e.view) (child_of e)) where
    read : scalar_text u s d ≡ onward (given r) (unless_ill_formed e.view.ill_formed)
    unfolding scalar_text
    read = rw (← p, ← x.is, y)

    pub text_refused : {why : Refusal} → r ≡ Err why → refuses why ≡ scalar_text u s d
    text_refused q = sym (read ∙ rw q)

    module _ {t : Text} (q : r ≡ Ok t) where
      pub text_well : e.view.ill_formed ≡ false → text_at t ≡ scalar_text u s d
      text_well h = sym (read ∙ (rw (q, h) (go (text_at t))))
        where
          go : (a : Answer (List ℕ)) → onward a (unless_ill_formed false) ≡ a
          go (gives l) = refl
          go (refuses r) = refl

      module _ (h : e.view.ill_formed ≡ true) (m : Result Measured Refusal) (z : measured_as m ≡ text_at t) where
        pub text_bad : {why : Refusal} → m ≡ Err why → refuses why ≡ scalar_text u s d
        text_bad f = sym (read ∙ rw (q, ← z, f))

        pub text_ill : {w : Measured} → m ≡ Ok w → refuses Refusal.IllFormed ≡ scalar_text u s d
        text_ill f = sym (read ∙ rw (q, ← z, f, h))

-- ---- a value of a text that is unescaped into an array
module _ {A : Type 0} (f : List ℕ → Answer A) (t : Text) where
  pub value_bad : {why : Refusal} → measured_as (Err why) ≡ text_at t → refuses why ≡ onward (text_at t) f
  value_bad e = rw (← e)

  pub value_got : (m : Measured) → measured_as (Ok m) ≡ text_at t → (old : List ℕ) {new : List ℕ} → new ≡ overwritten old (bytes_of m)
      → {a : Answer A} → a ≡ f (take m.len new) → a ≡ onward (text_at t) f
  unfolding overwritten
  value_got m e old {new} g h =
      let z : take m.len new ≡ bytes_of m = rw (g, m.size) (take-append_seam (bytes_of m) (drop (length (bytes_of m)) old)) in
      rw (← e) (h ∙ ap f z)

pub room_kept : (m : Measured) (old : List ℕ) {new : List ℕ} → new ≡ overwritten old (bytes_of m) → m.len ≤ length new
unfolding overwritten
room_kept m old g = omega (arith, ap length g, m.size, length-append (bytes_of m) (drop (length (bytes_of m)) old))

-- a text of a body comes to no more bytes than a body has
pub value_short : (t : Text) (m : Measured) → measured_as (Ok m) ≡ text_at t → m.len ≤ 65536
value_short t m e = go (unescaped t.bytes.now) refl e
  where
    go : (o : Out) → unescaped t.bytes.now ≡ o → gives (bytes_of m) ≡ unescaped_from t.from o → m.len ≤ 65536
    go (bytes l) p q =
        let z : bytes_of m ≡ l = cc in
        omega (arith, m.size, ap length z, unescaped_shorter t.bytes.now l p, t.small)
    go (bad at) p q = cc

-- no text of more than 8 bytes is a boolean
pub boolean_long : (t : Text) (m : Measured) → measured_as (Ok m) ≡ text_at t → 8 < m.len
    → refuses Refusal.NotBoolean ≡ onward (text_at t) boolean_of
unfolding boolean_of
boolean_long t m e h =
    let a = not_long (bytes_of m) (ascii "true") (omega (arith, m.size, h)) in
    let b = not_long (bytes_of m) (ascii "false") (omega (arith, m.size, h)) in
    rw (← e, a, b)
  where
    not_long : (l w : List ℕ) → length w < length l → sameb l w ≡ false
    not_long l w h = go (sameb l w) refl
      where
        go : (t : Bool) → sameb l w ≡ t → t ≡ false
        go true q = let z = ap length (same_is l w q) in absurd (omega arith)
        go false q = refl

-- an integer from a text without a reference
pub value_plain : (t : Text) → ((k d : ℕ) → 0 ≤ k → k < length t.bytes.now → eqb (get_or t.bytes.now k d) 38 ≡ false)
    → {a : Answer ℤ} → a ≡ integer_of t.bytes.now
    → a ≡ onward (text_at t) integer_of
value_plain t h {a} q = rw (plain_unescapes t.bytes.now none) q
  where
    none : (j : ℕ) → get_or t.bytes.now j 0 ≡ 38 → ⊥
    none j e = eqb-false (get_or t.bytes.now j 0) 38 (h j 0 (omega arith) (get_d_in t.bytes.now j 37 e)) e

-- ---- of a body
module _ (u : Upload) (s : Settings) (d : ShapeDepth) where
  pub boolean_read : (t : Text) → given (Ok t) ≡ scalar_text u s d → {a : Answer Bool} → a ≡ onward (text_at t) boolean_of
      → a ≡ boolean_reading u s d
  unfolding boolean_reading
  boolean_read t e h = rw (← e) h

  pub boolean_refused : {why : Refusal} → given (Err why) ≡ scalar_text u s d → refuses why ≡ boolean_reading u s d
  unfolding boolean_reading
  boolean_refused e = rw (← e)

  pub integer_read : (t : Text) → given (Ok t) ≡ scalar_text u s d → {a : Answer ℤ} → a ≡ onward (text_at t) integer_of
      → a ≡ integer_reading u s d
  unfolding integer_reading
  integer_read t e h = rw (← e) h

  pub integer_refused : {why : Refusal} → given (Err why) ≡ scalar_text u s d → refuses why ≡ integer_reading u s d
  unfolding integer_reading
  integer_refused e = rw (← e)

  pub string_read : (t : Text) → given (Ok t) ≡ scalar_text u s d → {old new : List ℕ} {r : Result ℕ Refusal}
      → CopyIs (onward (text_at t) (string_in (length old))) old new r → CopyIs (string_reading u s d (length old)) old new r
  unfolding string_reading
  string_read t e h = rw (← e) h

  pub string_refused : {why : Refusal} → given (Err why) ≡ scalar_text u s d → (old : List ℕ)
      → CopyIs (string_reading u s d (length old)) old old (Err why)
  unfolding string_reading
  string_refused e old = rw (← e) (record { number = refl; buffer = refl })
