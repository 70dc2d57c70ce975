-- A structure's sheet is read exactly as it is written: its bytes say a structure just when the structure is in the limits and they are its
-- written form.
use Prim.Native.Nat.{ℕ, ◌≤◌}
use mathlib.Core.Path.{◌≡◌, refl}
use mathlib.Core.Bool.{false}
use mathlib.Core.List.{List, [], ◌∷◌, ◌++◌, append_assoc, append-nil}
use mathlib.Core.Option.{some}
use native.Mathlib.Omega.{arith}
use borrow.Author.Tests.{leb-true, le-leb, lt-ltb}
use lib.Dec.{leb}
use lib.ListN.{length}
use Rattle.sheet.specs.Front.{front, bit, times}
use Rattle.sheet.specs.Sheet.{most_members, Member, Structure, member, member_list, structure_of}
use Rattle.lists.specs.Every.{Every}
use Rattle.sheet.proofs.Exact.InLimits.{MemberInLimits, StructureInLimits}
use Rattle.sheet.proofs.Exact.Written.{four_bits, five_bits, is_there, name_written, name_if_written, each_written, member_written}
use Rattle.sheet.proofs.Exact.Written.{member_list_written, structure_written}
use Rattle.sheet.proofs.Exact.Bits.{Bits, five_read, read_five, four_read, read_four}
use Rattle.sheet.proofs.Exact.Fields.{AllBytes, front_value, front_rest, Exact, first_then, holds, byte_exact, bit_map_exact}
use Rattle.sheet.proofs.Exact.Fields.{name_exact, name_if_exact, times_exact, all_is}

-- ---- members: "bits 0 XML name, 1 member name, 2 attribute, 3 flattened, 4 aggregate"
member_exact : Exact member member_written MemberInLimits
member_exact = record { reads = reads; exact = exact }
  where
    reads : (m : Member) (rest : List ℕ) → MemberInLimits m → member (member_written m ++ rest) ≡ front m rest
    reads m rest h =
        go (five_bits (is_there m.xml_name) (is_there m.member_name) m.attribute m.flattened m.aggregate) (five_read _ _ _ _ _)
      where
        go : (b : ℕ) → Bits 32 b (is_there m.xml_name) (is_there m.member_name) m.attribute m.flattened m.aggregate
            → member (b ∷ (name_if_written m.xml_name ++ name_if_written m.member_name) ++ rest) ≡ front m rest
        go b bits =
            rw (
              lt-ltb b 32 bits.small,
              bits.one,
              bits.two,
              bits.four,
              bits.eight,
              bits.sixteen,
              append_assoc (name_if_written m.xml_name) (name_if_written m.member_name) rest,
              (name_if_exact (is_there m.xml_name)).reads m.xml_name (name_if_written m.member_name ++ rest) (refl, h.xml_name),
              (name_if_exact (is_there m.member_name)).reads m.member_name rest (refl, h.member_name),
            )

    exact : (s : List ℕ) (m : Member) (rest : List ℕ) → AllBytes s → member s ≡ front m rest
        → MemberInLimits m × (s ≡ member_written m ++ rest)
    exact s m rest h e =
        first_then (bit_map_exact 32) _ s m rest h e
        (λ b r small is bytes onward. first_then (name_if_exact (bit 1 b)) _ r m rest bytes onward
        (λ x r xml_name from-x bytes onward. first_then (name_if_exact (bit 2 b)) _ r m rest bytes onward
        (λ n r member_name from-n bytes onward. rw (← front_value onward, ← front_rest onward) (
          record { xml_name = xml_name.1; member_name = member_name.1 },
          rw (is, from-x, from-n, xml_name.0, member_name.0, append_assoc (name_if_written x) (name_if_written n) r, ← read_five b small),
        ))))

-- "a count 0..64, and members"
member_list_exact : Exact member_list member_list_written (λ l. (length l ≤ most_members) × Every MemberInLimits l)
unfolding times each_written
member_list_exact = record { reads = reads; exact = exact }
  where
    reads : (l : List Member) (rest : List ℕ) → (length l ≤ most_members) × Every MemberInLimits l
        → member_list (member_list_written l ++ rest) ≡ front l rest
    reads l rest h = rw (le-leb (length l) most_members h.0) ((times_exact member_exact (length l)).reads l rest (refl, h.1))

    exact : (s : List ℕ) (l : List Member) (rest : List ℕ) → AllBytes s → member_list s ≡ front l rest
        → ((length l ≤ most_members) × Every MemberInLimits l) × (s ≡ member_list_written l ++ rest)
    exact s l rest h e =
        first_then byte_exact _ s l rest h e
        (λ n r limits is bytes onward.
        let few = holds (leb n most_members) onward in
        let p = (times_exact member_exact n).exact r l rest bytes few.1 in
        ((omega (arith, leb-true n most_members few.0, p.0.0), p.0.1), rw (is, p.1, p.0.0)))

-- at the end of a sheet
member_list_end : (l : List Member) → (length l ≤ most_members) × Every MemberInLimits l → member_list (member_list_written l) ≡ front l []
unfolding each_written
member_list_end l h = rw (append-nil (each_written member_written l)) at (member_list_exact.reads l [] h)

-- ---- structure
-- what is written of a structure in the limits is read as that structure
pub structure_read_written : (s : Structure) → StructureInLimits s → structure_of (structure_written s) ≡ some s
unfolding structure_of structure_written
structure_read_written s h = go (four_bits (is_there s.xml_name) (is_there s.original_name) (is_there s.member_name) s.unwrapped)
    (four_read _ _ _ _)
  where
    go : (b : ℕ) → Bits 16 b (is_there s.xml_name) (is_there s.original_name) (is_there s.member_name) s.unwrapped false
        → structure_of (b ∷ (name_if_written
        s.xml_name ++ (name_if_written
        s.original_name ++ (name_if_written s.member_name ++ (name_written s.shape_name ++ member_list_written s.members))))) ≡ some s
    go b bits =
        let fromMembers = member_list_written s.members in
        let fromShape = name_written s.shape_name ++ fromMembers in
        let fromMember = name_if_written s.member_name ++ fromShape in
        let fromOriginal = name_if_written s.original_name ++ fromMember in
        rw (
          lt-ltb b 16 bits.small,
          bits.one,
          bits.two,
          bits.four,
          bits.eight,
          (name_if_exact (is_there s.xml_name)).reads s.xml_name fromOriginal (refl, h.xml_name),
          (name_if_exact (is_there s.original_name)).reads s.original_name fromMember (refl, h.original_name),
          (name_if_exact (is_there s.member_name)).reads s.member_name fromShape (refl, h.member_name),
          name_exact.reads s.shape_name fromMembers h.shape_name,
          member_list_end s.members (h.few_members, h.members),
        )

-- bytes that are read as a structure are what is written of it, and it is in the limits
pub structure_written_read : (bytes : List ℕ) (s : Structure) → AllBytes bytes → structure_of bytes ≡ some s
    → StructureInLimits s × (bytes ≡ structure_written s)
unfolding structure_of structure_written
structure_written_read bytes s h e =
    first_then (bit_map_exact 16) _ bytes s [] h (all_is _ s e)
    (λ b r small is bytes onward. first_then (name_if_exact (bit 1 b)) _ r s [] bytes onward
    (λ x r xml_name from-x bytes onward. first_then (name_if_exact (bit 2 b)) _ r s [] bytes onward
    (λ o r original_name from-o bytes onward. first_then (name_if_exact (bit 4 b)) _ r s [] bytes onward
    (λ m r member_name from-m bytes onward. first_then name_exact _ r s [] bytes onward
    (λ n r shape_name from-n bytes onward. first_then member_list_exact _ r s [] bytes onward
    (λ l r members from-l bytes onward. rw (← front_value onward) (
      record {
        xml_name = xml_name.1;
        original_name = original_name.1;
        member_name = member_name.1;
        shape_name = shape_name;
        few_members = members.0;
        members = members.1;
      },
      rw (
        is,
        from-x,
        from-o,
        from-m,
        from-n,
        from-l,
        front_rest onward,
        append-nil (member_list_written l),
        xml_name.0,
        original_name.0,
        member_name.0,
        ← read_four b small,
      ),
    )))))))
