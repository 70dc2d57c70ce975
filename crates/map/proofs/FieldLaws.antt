-- Laws of what a child of an entry makes of its fields, and of what is written of them.
use Prim.Native.Nat.{ℕ}
use mathlib.Core.Path.{◌≡◌, sym, ◌∙◌, ap}
use mathlib.Core.Bool.{Bool, true, false}
use mathlib.Core.List.{List}
use mathlib.Core.Option as math
use Rattle.std.specs.Prelude.{Result, Ok, Err, Option, Some, None}
use Rattle.lists.specs.Bytes.{sameb}
use Rattle.refusal.specs.declared.Refusal.{Refusal}
use Rattle.refusal.specs.Answer.{Answer, gives, refuses, onward}
use Rattle.document.specs.declared.part.Measured.{Measured}
use Rattle.document.specs.declared.part.Piece.{Piece}
use Rattle.document.specs.Part.{bytes_of, measured_as}
use Rattle.document.specs.Text.{text_of}
use Rattle.sheet.specs.Sheet.{MapSheet}
use Rattle.sheet.specs.Names.{key_name, value_name, value_aggregate}
use Rattle.readings.specs.Collection.{MapValue, value_in, read_field, fields_plan}
use Rattle.readings.specs.Collection as read
use Rattle.decode.specs.declared.element.Element.{Element}
use Rattle.decode.specs.View.{view_of}
use Rattle.decode.specs.Element.{child_of}
use Rattle.output.specs.declared.Output.{Output}
use Rattle.output.specs.Plans.{put_key_text, put_key_piece}
use Rattle.output.specs.Held.{Does}
use Rattle.output.proofs.Then.{does_nothing}
use Rattle.opening.specs.Opening.{body_of}
use Rattle.map.specs.declared.fields.Value.{Value}
use Rattle.map.specs.declared.fields.Fields.{Fields}
use Rattle.map.specs.Values.{key_of, value_as, value_at, value_of}
use Rattle.map.specs.Fields.{fields_of, fields_as}

module _ (m : MapSheet) (f : Fields) (e : Element) {l : List ℕ} (name : l ≡ (child_of e).start.name.local) where
  abbrev is : Answer read.Fields
  is = read_field (body_of e) (view_of e.view) m (fields_of f) (child_of e)

  module _ {k : Bool} (key : k ≡ sameb l (key_name m)) where
    module _ (q : k ≡ true) where
      is_key : sameb (child_of e).start.name.local (key_name m) ≡ true
      is_key = ap (λ x. sameb x (key_name m)) (sym name) ∙ (sym key ∙ q)

      key_is : {a : Answer (List ℕ)} → a ≡ text_of (view_of e.view) (child_of e)
          → onward a (λ (t : List ℕ). gives (record { key = math.some t; value = (fields_of f).value })) ≡ is
      unfolding read_field
      key_is x =
          rw is_key (ap (λ (y : Answer (List ℕ)). onward y
          (λ (t : List ℕ). gives (record { key = math.some t; value = (fields_of f).value }))) x)

      pub key_refused : {r : Refusal} → measured_as (Err r) ≡ text_of (view_of e.view) (child_of e) → (g : Fields)
          → fields_as g (Err r) ≡ is
      key_refused {r} x g = key_is {a = refuses r} x

      pub key_read : (t : Measured) → measured_as (Ok t) ≡ text_of (view_of e.view) (child_of e)
          → gives (fields_of (record { key = Some t; value = f.value })) ≡ is
      key_read t x = key_is {a = gives (bytes_of t)} x

    module _ (q : k ≡ false) {v : Bool} (value : v ≡ sameb l (value_name m)) where
      no_key : sameb (child_of e).start.name.local (key_name m) ≡ false
      no_key = ap (λ x. sameb x (key_name m)) (sym name) ∙ (sym key ∙ q)

      about_value : {b : Bool} → v ≡ b → sameb (child_of e).start.name.local (value_name m) ≡ b
      about_value p = ap (λ x. sameb x (value_name m)) (sym name) ∙ (sym value ∙ p)

      module _ (p : v ≡ true) where
        value_is : {a : Answer MapValue} → a ≡ value_in (body_of e) (view_of e.view) (value_aggregate m) (child_of e)
            → onward a (λ (x : MapValue). gives (record { key = (fields_of f).key; value = math.some x })) ≡ is
        unfolding read_field
        value_is x =
            rw (no_key, about_value p)
            (ap (λ (y : Answer MapValue). onward y (λ (x : MapValue). gives (record { key = (fields_of f).key; value = math.some x }))) x)

        module _ {g : Bool} (a : g ≡ value_aggregate m) where
          pub value_refused : {r : Refusal} → value_as (Err r) ≡ value_in (body_of e) (view_of e.view) g (child_of e) → (g : Fields)
              → fields_as g (Err r) ≡ is
          value_refused {r} x g = value_is {a = refuses r} (x ∙ ap (λ b. value_in (body_of e) (view_of e.view) b (child_of e)) a)

          pub value_read : (t : Value) → value_as (Ok t) ≡ value_in (body_of e) (view_of e.view) g (child_of e)
              → gives (fields_of (record { key = f.key; value = Some t })) ≡ is
          value_read t x = value_is {a = value_as (Ok t)} (x ∙ ap (λ b. value_in (body_of e) (view_of e.view) b (child_of e)) a)

      pub neither : v ≡ false → gives (fields_of f) ≡ is
      unfolding read_field
      neither p = rw (no_key, about_value p)

-- ---- what is written
module _ (key : Measured) {v : Value} {b b' : Output} {r : Result (Unit {0}) Refusal} where
  pub text_written : {t : Measured} → v ≡ Value.Text t → Does (put_key_text key t) b b' r
      → Does (fields_plan (math.some (bytes_of key)) (math.some (value_at v))) b b' r
  unfolding put_key_text
  text_written p d = rw p d

  pub piece_written : {x : Piece} → v ≡ Value.Piece x → Does (put_key_piece key x) b b' r
      → Does (fields_plan (math.some (bytes_of key)) (math.some (value_at v))) b b' r
  unfolding put_key_piece
  piece_written p d = rw p d

pub no_key_written : {key : Option Measured} (o : math.Option MapValue) → key ≡ None → (b : Output)
    → Does (fields_plan (key_of key) o) b b (Ok tt)
no_key_written o q b = rw q (does_nothing b)

pub no_value_written : (key : Option Measured) {o : Option Value} → o ≡ None → (b : Output)
    → Does (fields_plan (key_of key) (value_of o)) b b (Ok tt)
no_value_written None q b = does_nothing b
no_value_written (Some k) q b = rw q (does_nothing b)
