-- A list's and a map's sheets are read exactly as they are written: their bytes say a sheet just when it is in the limits and they are its
-- written form.
use Prim.Native.Nat.{ℕ}
use mathlib.Core.Path.{◌≡◌, refl}
use mathlib.Core.Bool.{Bool, true, false}
use mathlib.Core.List.{List, [], ◌∷◌, ◌++◌, append-nil}
use mathlib.Core.Option.{Option, none, some}
use borrow.Author.Tests.{lt-ltb}
use Rattle.lists.specs.Tests.{pick}
use Rattle.lists.proofs.Tests.{false_true}
use Rattle.sheet.specs.Front.{bit}
use Rattle.sheet.specs.Sheet.{Item, ListSheet, item_if, only_with, list_of, Value, MapSheet, value_if, map_of}
use Rattle.sheet.proofs.Exact.InLimits.{NameIfThere, ItemIfThere, ListInLimits, ValueIfThere, MapInLimits}
use Rattle.sheet.proofs.Exact.Written.{four_bits, five_bits, is_there, name_if_written, list_with, list_written, map_with, map_written}
use Rattle.sheet.proofs.Exact.Bits.{Bits, four_read, read_four, five_read, read_five}
use Rattle.sheet.proofs.Exact.Fields.{AllBytes, front_value, front_rest, first_then, holds, bit_map_exact, name_if_exact}
use Rattle.sheet.proofs.Exact.Fields.{name_if_end, all_is}

-- ---- list
-- "2 and 3 only with 0": the fields of a bit map that keeps to that, as a sheet has them
list_fields : (t f : Bool) (x m : Option (List ℕ)) → pick (only_with t (is_there x)) (only_with t (is_there m)) false ≡ true → NameIfThere x
    → NameIfThere m
    → ItemIfThere (item_if t x m) × (list_with (item_if t x m) f ≡ four_bits t f (is_there x) (is_there m) ∷
    (name_if_written x ++ name_if_written m))
list_fields true f x m e g h = (record { xml_name = g; member_name = h }, refl)
list_fields false f none none e g h = (tt, refl)
list_fields false f none (some n) e g h = false_true e
list_fields false f (some n) m e g h = false_true e

-- what is written of a list's sheet in the limits is read as that sheet
pub list_read_written : (l : ListSheet) → ListInLimits l → list_of (list_written l) ≡ some l
unfolding list_of list_written
list_read_written l h = go l.item l.flattened h.item
  where
    go : (item : Option Item) (f : Bool) → ItemIfThere item → list_of (list_with item f) ≡ some (record { item = item; flattened = f })
    go none f h = alone (four_bits false f false false) (four_read false f false false)
      where
        alone : (b : ℕ) → Bits 16 b false f false false false → list_of (b ∷ []) ≡ some (record { item = none; flattened = f })
        alone b bits = rw (lt-ltb b 16 bits.small, bits.one, bits.two, bits.four, bits.eight)
    go (some i) f h = whole (four_bits true f (is_there i.xml_name) (is_there i.member_name))
        (four_read true f (is_there i.xml_name) (is_there i.member_name))
      where
        whole : (b : ℕ) → Bits 16 b true f (is_there i.xml_name) (is_there i.member_name) false
            → list_of (b ∷ (name_if_written i.xml_name ++ name_if_written i.member_name)) ≡ some (record { item = some i; flattened = f })
        whole b bits =
            rw (
              lt-ltb b 16 bits.small,
              bits.one,
              bits.two,
              bits.four,
              bits.eight,
              (name_if_exact (is_there i.xml_name)).reads i.xml_name (name_if_written i.member_name) (refl, h.xml_name),
              name_if_end i.member_name h.member_name,
            )

-- bytes that are read as a list's sheet are what is written of it, and it is in the limits
pub list_written_read : (bytes : List ℕ) (l : ListSheet) → AllBytes bytes → list_of bytes ≡ some l
    → ListInLimits l × (bytes ≡ list_written l)
unfolding list_of list_written
list_written_read bytes l h e =
    first_then (bit_map_exact 16) _ bytes l [] h (all_is _ l e)
    (λ b r small is bytes onward. let only = holds _ onward in first_then (name_if_exact (bit 4 b)) _ r l [] bytes only.1
    (λ x r xml_name from-x bytes onward. first_then (name_if_exact (bit 8 b)) _ r l [] bytes onward
    (λ m r member_name from-m bytes onward.
    let p = list_fields (bit 1 b) (bit 2 b) x m (rw (xml_name.0, member_name.0) only.0) xml_name.1 member_name.1 in
    rw (← front_value onward) (
      record { item = p.0 },
      rw (is, from-x, from-m, front_rest onward, append-nil (name_if_written m), p.1, xml_name.0, member_name.0, ← read_four b small),
    ))))

-- ---- map
-- "3 and 4 only with 2": the same
map_fields : (f : Bool) (k : Option (List ℕ)) (t : Bool) (x : Option (List ℕ)) (a : Bool)
    → pick (only_with t (is_there x)) (only_with t a) false ≡ true → NameIfThere x
    → ValueIfThere (value_if t x a)
    × (map_with f k (value_if t x a) ≡ five_bits f (is_there k) t (is_there x) a ∷ (name_if_written k ++ name_if_written x))
map_fields f k true x a e h = (h, refl)
map_fields f k false none false e h = (tt, rw (append-nil (name_if_written k)))
map_fields f k false none true e h = false_true e
map_fields f k false (some n) a e h = false_true e

-- what is written of a map's sheet in the limits is read as that sheet
pub map_read_written : (m : MapSheet) → MapInLimits m → map_of (map_written m) ≡ some m
unfolding map_of map_written
map_read_written m h = go m.flattened m.key_xml_name m.value h.key_xml_name h.value
  where
    go : (f : Bool) (k : Option (List ℕ)) (value : Option Value) → NameIfThere k → ValueIfThere value
        → map_of (map_with f k value) ≡ some (record { flattened = f; key_xml_name = k; value = value })
    go f k none g h = alone (five_bits f (is_there k) false false false) (five_read f (is_there k) false false false)
      where
        alone : (b : ℕ) → Bits 32 b f (is_there k) false false false
            → map_of (b ∷ name_if_written k) ≡ some (record { flattened = f; key_xml_name = k; value = none })
        alone b bits = rw (lt-ltb b 32 bits.small, bits.one, bits.two, bits.four, bits.eight, bits.sixteen, name_if_end k g)
    go f k (some v) g h = whole (five_bits f (is_there k) true (is_there v.xml_name) v.aggregate)
        (five_read f (is_there k) true (is_there v.xml_name) v.aggregate)
      where
        whole : (b : ℕ) → Bits 32 b f (is_there k) true (is_there v.xml_name) v.aggregate
            → map_of (b ∷ (name_if_written k ++ name_if_written v.xml_name))
            ≡ some (record { flattened = f; key_xml_name = k; value = some v })
        whole b bits =
            rw (
              lt-ltb b 32 bits.small,
              bits.one,
              bits.two,
              bits.four,
              bits.eight,
              bits.sixteen,
              (name_if_exact (is_there k)).reads k (name_if_written v.xml_name) (refl, g),
              name_if_end v.xml_name h,
            )

-- bytes that are read as a map's sheet are what is written of it, and it is in the limits
pub map_written_read : (bytes : List ℕ) (m : MapSheet) → AllBytes bytes → map_of bytes ≡ some m → MapInLimits m × (bytes ≡ map_written m)
unfolding map_of map_written
map_written_read bytes m h e =
    first_then (bit_map_exact 32) _ bytes m [] h (all_is _ m e)
    (λ b r small is bytes onward. let only = holds _ onward in first_then (name_if_exact (bit 2 b)) _ r m [] bytes only.1
    (λ k r key from-k bytes onward. first_then (name_if_exact (bit 8 b)) _ r m [] bytes onward
    (λ x r xml_name from-x bytes onward.
    let p = map_fields (bit 1 b) k (bit 4 b) x (bit 16 b) (rw xml_name.0 only.0) xml_name.1 in
    rw (← front_value onward) (
      record { key_xml_name = key.1; value = p.0 },
      rw (is, from-k, from-x, front_rest onward, append-nil (name_if_written x), p.1, key.0, xml_name.0, ← read_five b small),
    ))))
