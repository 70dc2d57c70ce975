-- What the fields of a map entry come from.
use Prim.Native.Nat.{ℕ}
use mathlib.Core.Path.{◌≡◌, refl}
use mathlib.Core.Bool.{Bool, true, false}
use mathlib.Core.List.{List, [], ◌∷◌, Memᴰ}
use mathlib.Core.Option.{Option, none, some}
use Rattle.lists.specs.Bytes.{sameb}
use Rattle.lists.proofs.Tests.{pick_cases}
use Rattle.refusal.specs.declared.Refusal.{Refusal}
use Rattle.refusal.specs.Answer.{Answer, gives, refuses, onward}
use Rattle.document.specs.View.{View}
use Rattle.document.specs.Scope.{Child, piece_of}
use Rattle.document.specs.Text.{text_of}
use Rattle.sheet.specs.Sheet.{MapSheet}
use Rattle.sheet.specs.Names.{key_name, value_name, value_aggregate}
use Rattle.readings.specs.Collection.{MapValue, text, piece, Fields, value_in, read_field, read_fields}
use Rattle.readings.specs.Demand.{TextField, is_key, is_plain_value}

module _ (body : List ℕ) (v : View) (m : MapSheet) (all : List Child) where
  pub data KeyFrom : Option (List ℕ) → Type 0 where
    no_key : KeyFrom none
    key : {c : Child} {k : List ℕ} → Memᴰ c all → text_of v c ≡ gives k → KeyFrom (some k)

  pub data ValueFrom : Option MapValue → Type 0 where
    no_value : ValueFrom none
    text_value : {c : Child} {t : List ℕ} → Memᴰ c all → text_of v c ≡ gives t → ValueFrom (some (text t))
    piece_value : {c : Child} → Memᴰ c all → ValueFrom (some (piece (piece_of body v c)))

  pub data FieldsFrom : Answer Fields → Type 0 where
    fields : {f : Fields} → KeyFrom f.key → ValueFrom f.value → FieldsFrom (gives f)
    no_text : {c : Child} {r : Refusal} → Memᴰ c all → TextField m c → text_of v c ≡ refuses r → FieldsFrom (refuses r)

  key_from : (f : Fields) → ValueFrom f.value → (c : Child) → Memᴰ c all → TextField m c → (a : Answer (List ℕ))
      → text_of v c ≡ a
      → FieldsFrom (onward a (λ (t : List ℕ). gives (record { key = some t; value = f.value })))
  key_from f x c i w (gives k) e = fields (key i e) x
  key_from f x c i w (refuses r) e = no_text i w e

  value_from : (f : Fields) → KeyFrom f.key → (c : Child) → Memᴰ c all → (aggregate : Bool) → (aggregate ≡ false → TextField m c)
      → FieldsFrom (onward (value_in body v aggregate c) (λ (y : MapValue). gives (record { key = f.key; value = some y })))
  value_from f k c i true w = fields k (piece_value i)
  value_from f k c i false w = go (text_of v c) refl
    where
      go : (a : Answer (List ℕ)) → text_of v c ≡ a
          → FieldsFrom (onward (onward a (λ (t : List ℕ). gives (text t)))
          (λ (y : MapValue). gives (record { key = f.key; value = some y })))
      go (gives t) e = fields k (text_value i e)
      go (refuses r) e = no_text i (w refl) e

  field_from : (f : Fields) → KeyFrom f.key → ValueFrom f.value → (c : Child) → Memᴰ c all → FieldsFrom (read_field body v m f c)
  unfolding read_field
  field_from f k x c i =
      pick_cases FieldsFrom (sameb c.start.name.local (key_name m)) _ _ (λ e. key_from f x c i (is_key e) (text_of v c) refl)
      (λ e. pick_cases FieldsFrom (sameb c.start.name.local (value_name m)) _ _
      (λ h. value_from f k c i (value_aggregate m) (is_plain_value e h)) (λ h. fields {f = f} k x))

  pub fields_from : (l : List Child) → ((c : Child) → Memᴰ c l → Memᴰ c all) → (f : Fields) → KeyFrom f.key
      → ValueFrom f.value → FieldsFrom (read_fields body v m l f)
  unfolding read_fields
  fields_from [] g f k x = fields k x
  fields_from (c ∷ l) g f k x = go (field_from f k x c (g c (Memᴰ.head refl))) (fields_from l (λ y i. g y (Memᴰ.tail i)))
    where
      go : {a : Answer Fields} → FieldsFrom a
          → ((f : Fields) → KeyFrom f.key → ValueFrom f.value → FieldsFrom (read_fields body v m l f))
          → FieldsFrom (onward a (read_fields body v m l))
      go (fields {f = f} k x) more = more f k x
      go (no_text i w e) more = no_text i w e
