-- How much is written, on every input: the texts of a reading are shorter than 2 ^ 32 bytes, the spans of its entries lie in the text
-- buffer or in the body, and each number of an entry is below 2 ^ 32.
use Prim.Native.Nat.{ℕ, zero, suc, ◌+◌, ◌^◌, ◌≤◌, ◌<◌}
use mathlib.Core.Path.{◌≡◌, refl, ap}
use mathlib.Core.Bool.{Bool, true, false}
use mathlib.Core.List.{List, [], ◌∷◌}
use mathlib.Core.Option.{none, some}
use native.Mathlib.Omega.{arith}
use lib.ListN.{length, length-map, length-take}
use Rattle.lists.specs.Every.{Every, none, and}
use Rattle.lists.proofs.Every.{every_map}
use Rattle.lists.specs.Tests.{pick}
use Rattle.table.specs.Row.{rows_of, tok_of, toks_of}
use Rattle.table.specs.Rules.{most_bytes}
use Rattle.table.specs.Names.{name_matches}
use Rattle.document.specs.Reader.{Attribute}
use Rattle.document.proofs.Laws.Placed.{Placed}
use Rattle.document.proofs.Laws.Inside.{piece_inside}
use Rattle.document.proofs.Laws.Short.{values_short, ShortAttribute, root_attributes_short}
use Rattle.sheet.specs.Sheet.{most_members, Member, Structure, structure_of}
use Rattle.sheet.specs.Names.{indexed, entry_name}
use Rattle.sheet.proofs.Limits.{few_members_lem}
use Rattle.readings.specs.Call.{Upload, Call}
use Rattle.readings.specs.Output.{Entry, Room, Output, nothing, output}
use Rattle.readings.specs.Plan.{perform}
use Rattle.readings.specs.Opening.{Opened, Asked}
use Rattle.readings.specs.Structure.{attribute_of}
use Rattle.readings.proofs.Conditions.Opening.{OpenedAs, AskedAs}
use Rattle.readings.proofs.Conditions.Place.{text_tells, told_within}
use Rattle.readings.specs.Shape.{Shape, structure, list, map, strings, SheetOf, sheet_of, read}
use Rattle.readings.proofs.Laws.Members.{index_below}
use Rattle.readings.proofs.Laws.Siblings.{group_short}
use Rattle.readings.proofs.Laws.Inside.{root_piece_inside}
use Rattle.readings.proofs.Laws.Few.{FewIn, few_sources, few_kids, few_entries}
use Rattle.readings.proofs.Laws.Fits.{EntryFits, Fits, FewBytes, PlaceFits, PieceFits, fits_kept}
use Rattle.readings.proofs.Plans.Readings.{most_entries, output_carried, may_stop, plan_made, asked_plan}
use Rattle.readings.proofs.Plans.Made.{made_kept}
use Rattle.readings.proofs.Plans.Sources.{Sources, StructureSources, ShapeSources}
use Rattle.readings.proofs.Plans.Placed.{OpenedIn, opened_in, placed_sources}

-- ---- what there is to be written
pub attribute_short : {most : ℕ} {l : List Attribute} → Every (ShortAttribute most) l → (key v : List ℕ) → attribute_of l key ≡ some v
    → length v ≤ most
unfolding attribute_of
attribute_short none key v e = let z : ◌≡◌ {A = ℕ} 0 1 = cc in absurd (omega arith)
attribute_short {most} (and {x = a} {l = l} h w) key v e = go (name_matches a.name key) e (attribute_short w key v)
  where
    go : (b : Bool) → pick b (some a.value) (attribute_of l key) ≡ some v → (attribute_of l key ≡ some v → length v ≤ most)
        → length v ≤ most
    go true e ih = let q : a.value ≡ v = cc in rw (← q) h
    go false e ih = ih e

module _ {u : Upload} {strict : Bool} {o : Opened} (w : OpenedAs u strict o) where
  seen : OpenedIn u o
  seen = opened_in w

  -- the rules of its table bound the rows and the body
  few_in : FewIn u.body o
  few_in =
      let v = seen.view in
      let taken : length o.seen.rows ≤ length (rows_of u.rows) =
      rw v.front (omega (arith, length-take v.count (rows_of u.rows))) in
      record {
        root = seen.root.inner.at;
        rows = omega (arith, seen.root.inner.rows, length-map o.seen.rows (tok_of u.body), taken, w.rules.rules.few_rows);
        bytes = w.rules.rules.few_bytes;
      }

  fits_sources :
      Sources (Placed (toks_of u.body o.seen.rows)) (FewBytes most_bytes) (PlaceFits u.body) (PieceFits u.body) u.body o
  fits_sources =
      placed_sources seen (λ c h. (few_sources few_in).text c h.inner.at) (λ c h r e. told_within u r (text_tells u w c h r e))
      (λ c h. (piece_inside seen.view c h).within)

  fits_structure : (sheet : List ℕ) {s : Structure} → structure_of sheet ≡ some s
      → StructureSources (λ (i : ℕ). i < most_members) (FewBytes most_bytes) (λ (i : ℕ). FewBytes (most_bytes + 17)) (PieceFits u.body)
      u.body s o
  fits_structure sheet {s} says =
      record {
        member = λ m i. omega (arith, index_below zero s.members m i, few_members_lem sheet s says);
        attribute = λ key v e. omega (
          arith,
          few_in.bytes,
          attribute_short
              (root_attributes_short (length u.body) (toks_of u.body o.seen.rows) (values_short u.body o.seen.rows) o.root w.root) key v
              e,
        );
        group = λ i. omega (arith, few_in.bytes, group_short seen.view s i o.root seen.root);
        root = (root_piece_inside seen).within;
      }

-- ---- THE LAW
-- the numbers of an entry
pub record EntrySmall (e : Entry) : Type 0 where
  pub kind : e.kind < 2 ^ 32
  pub member : e.member < 2 ^ 32
  pub key_start : e.key_start < 2 ^ 32
  pub key_len : e.key_len < 2 ^ 32
  pub start : e.start < 2 ^ 32
  pub len : e.len < 2 ^ 32

pub record Small (body : List ℕ) (out : Output) : Type 0 where
  pub texts : length out.texts < 2 ^ 32
  pub spans : Every (EntryFits body (length out.texts)) out.entries
  pub numbers : Every EntrySmall out.entries

entry_small : (body : List ℕ) (t : ℕ) → t < 2 ^ 32 → length body ≤ most_bytes → (e : Entry) → EntryFits body t e → EntrySmall e
entry_small body t h few e w =
    let s = span e.kind refl w.kind.0 w.kind.1 in
    record {
      kind = omega (arith, w.kind.1);
      member = omega (arith, w.member);
      key_start = omega (arith, w.key);
      key_len = omega (arith, w.key);
      start = omega (arith, s);
      len = omega (arith, s);
    }
  where
    span : (k : ℕ) → e.kind ≡ k → 1 ≤ k → k ≤ 4 → e.start + e.len < 2 ^ 32
    span zero q l m = absurd (omega (arith, l))
    span (suc zero) q l m = omega (arith, h, w.text q)
    span (suc (suc zero)) q l m = omega (arith, few, w.piece q)
    span (suc (suc (suc zero))) q l m = omega (arith, h, w.group q)
    span (suc (suc (suc (suc zero)))) q l m = let f = w.failed q in omega (arith, few, f.0, f.1)
    span (suc (suc (suc (suc (suc k))))) q l m = absurd (omega (arith, m))

none_small : (body : List ℕ) → Small body nothing
none_small body = record { texts = omega arith; spans = none; numbers = none }

-- after few enough steps
steps_small : (body : List ℕ) (n : ℕ) (out : Output) → length body ≤ most_bytes → n ≤ 8321 → Fits body n out → Small body out
steps_small body n out few h w =
    let t : length out.texts < 2 ^ 32 = omega (arith, w.texts, h) in
    record { texts = t; spans = w.each; numbers = every_map (entry_small body (length out.texts) t few) w.each }

pub length_indexed : (i : ℕ) (l : List Member) → length (indexed i l) ≡ length l
unfolding indexed
length_indexed i [] = refl
length_indexed i (m ∷ l) = ap suc (length_indexed (suc i) l)

module _ (u : Upload) (call : Call) where
  -- so many entries at most, of a body that is opened
  few_writes : (shape : Shape) (a : Asked (SheetOf shape))
      → AskedAs u (sheet_of shape call.sheet) call.settings call.depth a
      → most_entries call.settings shape a ≤ 8321
  few_writes structure a w =
      omega (arith, few_members_lem call.sheet a.sheet w.says, length_indexed zero a.sheet.members, few_kids (few_in w.begun))
  few_writes list a w = omega (arith, few_kids (few_in w.begun))
  few_writes map a w = omega (arith, few_entries (few_in w.begun) (entry_name call.settings a.sheet))
  few_writes strings a w = omega (arith, few_kids (few_in w.begun))

  fits_shape : (shape : Shape) (a : Asked (SheetOf shape))
      → AskedAs u (sheet_of shape call.sheet) call.settings call.depth a
      → ShapeSources (λ (i : ℕ). i < most_members) (FewBytes most_bytes) (λ (i : ℕ). FewBytes (most_bytes + 17)) (PieceFits u.body)
      u.body shape a
  fits_shape structure a w = fits_structure w.begun call.sheet w.says
  fits_shape list a w = omega arith
  fits_shape map a w = omega arith
  fits_shape strings a w = omega arith

pub reading_small : (shape : Shape) (u : Upload) (call : Call) (room : Room)
    → Small u.body (output (read shape u call room))
reading_small shape u call room =
    output_carried u call room shape (Small u.body) (none_small u.body) (λ a w.
    steps_small u.body (most_entries call.settings shape a)
    (output (perform room (asked_plan shape u.body call.settings call.depth a) nothing)) (few_in w.begun).bytes
    (few_writes u call shape a w)
    (made_kept (fits_kept u.body room)
    (plan_made call.settings call.depth shape a (fits_sources w.begun) (fits_shape u call shape a w)
    (may_stop call.settings call.depth shape a))))
