-- Change request 1, of every reading and on every input: where the number is 7, the place beside it, or in the length field of an entry of
-- kind 4, is that of the failing `&` (`SevenAt` in Conditions/Place.antt); an entry of another number keeps 0.
use Prim.Native.Nat.{ℕ}
use mathlib.Core.Path.{◌≡◌, refl, ap}
use mathlib.Core.Bool.{Bool}
use mathlib.Core.List.{List, ◌∷◌}
use mathlib.Core.Option.{none}
use native.Mathlib.Omega.{arith}
use lib.ListN.{length}
use Rattle.lists.specs.Every.{Every, none}
use Rattle.lists.proofs.Every.{every_snoc}
use Rattle.lists.proofs.Tests.{false_true}
use Rattle.refusal.specs.declared.Refusal.{Refusal}
use Rattle.refusal.specs.Answer.{refuses}
use Rattle.refusal.specs.Numbers.{number, place}
use Rattle.table.specs.Row.{toks_of}
use Rattle.document.specs.Scope.{Child}
use Rattle.document.proofs.Laws.Placed.{Placed}
use Rattle.sheet.specs.declared.ShapeDepth.{ShapeDepth}
use Rattle.sheet.specs.declared.Settings.{Settings}
use Rattle.sheet.specs.Settings.{is_strict}
use Rattle.sheet.specs.Names.{entry_name}
use Rattle.readings.specs.Call.{Upload, Call}
use Rattle.readings.specs.Output.{Entry, failed_kind, Room, Output, Reading, finished, refused, output, outcome_place}
use Rattle.readings.specs.Opening.{Opened, Asked}
use Rattle.readings.specs.Scalar.{boolean_reading, integer_reading, string_reading}
use Rattle.readings.specs.Shape.{Shape, structure, list, map, strings, SheetOf, read}
use Rattle.readings.specs.Demand.{TextWanted, of_item, of_field}
use Rattle.readings.proofs.Conditions.Opening.{OpenedAs, broken_table, no_root, by_table, by_sheet, by_depth, by_root}
use Rattle.readings.proofs.Conditions.Text.{opened_text_refusal}
use Rattle.readings.proofs.Conditions.Place.{Telling, seven, other, telling, SevenAt, TellsPlace, text_tells}
use Rattle.readings.proofs.Conditions.Readings.{Stops, root_differs, no_text, ill_formed_lem, Refused, early, stops, full}
use Rattle.readings.proofs.Conditions.Numbers.{Only, later, reading_numbers}
use Rattle.readings.proofs.Conditions.Readings.{any_shape, reading_refused}
use Rattle.readings.proofs.Conditions.Values.{NotABoolean, not_boolean, NotAnInteger, not_integer, StringTooLong, too_long}
use Rattle.readings.proofs.Conditions.Scalar.{ScalarRefused, not_opened, after_the_rest, Unread, not_read, wrong}
use Rattle.readings.proofs.Conditions.Scalar.{boolean_refusal, integer_refusal, string_refusal}
use Rattle.readings.proofs.Conditions.Scalar as scalar
use Rattle.readings.proofs.Plans.Made.{Keeps, made_kept}
use Rattle.readings.proofs.Plans.Sources.{Source, of_text_lem, of_failed, of_piece, of_group, of_key_text, of_key_piece, Anything}
use Rattle.readings.proofs.Plans.Sources.{Sources}
use Rattle.readings.proofs.Plans.Placed.{opened_in, placed_sources}
use Rattle.readings.proofs.Plans.Readings.{output_carried, may_stop, plan_made}

-- a place stands beside 7 alone
pub no_place : (r : Refusal) → (number r ≡ 7 → ⊥) → place r ≡ 0
no_place r f = go (telling r) f
  where
    go : {q : Refusal} → Telling q → (number q ≡ 7 → ⊥) → place q ≡ 0
    go (seven at) f = absurd (f refl)
    go (other q n p) f = p

module _ (u : Upload) (strict : Bool) where
  -- of another number nothing is told
  not_seven : {r : Refusal} → (number r ≡ 7 → ⊥) → TellsPlace u strict r
  not_seven f = record { seven = λ at q. absurd (f (ap number q)) }

  -- ---- what there is to be written of a body that is opened
  placed : {o : Opened} → OpenedAs u strict o
      → Sources (Placed (toks_of u.body o.seen.rows)) Anything (TellsPlace u strict) Anything u.body o
  placed w = placed_sources (opened_in w) (λ c h b e. tt {0}) (text_tells u w) (λ c h. tt {0})

  -- ---- entries
  pub record EntryTells (e : Entry) : Type 0 where
    pub seven : e.kind ≡ failed_kind → e.start ≡ 7 → SevenAt u strict e.len
    pub others : e.kind ≡ failed_kind → (e.start ≡ 7 → ⊥) → e.len ≡ 0

  pub record AllTell (out : Output) : Type 0 where
    pub each : Every EntryTells out.entries

  failed_seven : (r : Refusal) → TellsPlace u strict r → number r ≡ 7 → SevenAt u strict (place r)
  failed_seven r t e = go (telling r) t e
    where
      go : {q : Refusal} → Telling q → TellsPlace u strict q → number q ≡ 7 → SevenAt u strict (place q)
      go (seven at) t e = t.seven at refl
      go (other q n p) t e = absurd (n e)

  -- nothing is said of members, texts, groups and pieces
  abbrev TellSource : (ℕ → Entry) → List ℕ → Type 0
  TellSource = Source Anything Anything (TellsPlace u strict) (λ (i : ℕ). Anything) Anything

  entry_tells : {entry : ℕ → Entry} {bytes : List ℕ} → TellSource entry bytes → (at : ℕ) → EntryTells (entry at)
  entry_tells (of_text_lem m t) at = record { seven = λ k e. absurd (omega (arith, k)); others = λ k f. absurd (omega (arith, k)) }
  entry_tells (of_failed {r = r} m t) at = record { seven = λ k e. failed_seven r t e; others = λ k f. no_place r f }
  entry_tells (of_piece m h) at = record { seven = λ k e. absurd (omega (arith, k)); others = λ k f. absurd (omega (arith, k)) }
  entry_tells (of_group m g) at = record { seven = λ k e. absurd (omega (arith, k)); others = λ k f. absurd (omega (arith, k)) }
  entry_tells (of_key_text k t) at = record { seven = λ k e. absurd (omega (arith, k)); others = λ k f. absurd (omega (arith, k)) }
  entry_tells (of_key_piece k h) at = record { seven = λ k e. absurd (omega (arith, k)); others = λ k f. absurd (omega (arith, k)) }

  tell_keeps : (room : Room) → Keeps room TellSource (λ (n : ℕ). AllTell)
  tell_keeps room =
      record {
        start = record { each = none };
        idle = λ n m out h q. q;
        write = λ n out entry bytes s f q. record { each = every_snoc q.each (entry_tells s (length out.texts)) };
      }

-- ---- readings with a sheet
-- a child of which a text is wanted stands in what is read
wanted_placed : (u : Upload) (settings : Settings) {strict : Bool} (shape : Shape) (a : Asked (SheetOf shape)) (c : Child)
    → OpenedAs u strict a.opened → TextWanted settings shape a c → Placed (toks_of u.body a.opened.seen.rows) c
wanted_placed u settings {strict} strings a c w (of_item b i e) =
    let x = placed u strict w in
    x.children a.opened.root x.root c i
wanted_placed u settings {strict} map a c w (of_field b {e = entry} i h j t) =
    let x = placed u strict w in
    x.children entry (x.entries (entry_name settings a.sheet) a.opened.root x.root entry i) c j
wanted_placed u settings structure a c w x = elim x [ ]
wanted_placed u settings list a c w x = elim x [ ]

module _ (shape : Shape) (u : Upload) (call : Call) (room : Room) where
  abbrev strictly : Bool
  strictly = is_strict call.settings call.depth

  -- THE LAW of entries
  pub entries_tell : AllTell u strictly (output (read shape u call room))
  entries_tell =
      output_carried u call room shape (AllTell u strictly) (record { each = none }) (λ a w.
      made_kept (tell_keeps u strictly room)
      (plan_made call.settings call.depth shape a (placed u strictly w.begun) (any_shape u.body shape a)
      (may_stop call.settings call.depth shape a)))

  stops_tell : {a : Asked (SheetOf shape)} {r : Refusal} → OpenedAs u strictly a.opened
      → Stops call.settings call.depth shape a r → TellsPlace u strictly r
  stops_tell w (root_differs d) = not_seven u strictly (λ e. omega (arith, e))
  stops_tell {a} w (no_text c {r = r} t e) = text_tells u w c (wanted_placed u call.settings shape a c w t) r e
  stops_tell w (ill_formed_lem e) = not_seven u strictly (λ e. omega (arith, e))

  -- THE LAW of refusals
  pub reading_tells : {r : Refusal} {out : Output} → read shape u call room ≡ refused r out → TellsPlace u strictly r
  reading_tells e = go (reading_refused u call room shape e)
    where
      go : {q : Refusal} {o : Output} → Refused u call room shape q o → TellsPlace u strictly q
      go (early (by_table n)) = not_seven u strictly (λ e. omega (arith, e))
      go (early (by_sheet t n)) = not_seven u strictly (λ e. omega (arith, e))
      go (early (by_depth t s n)) = not_seven u strictly (λ e. omega (arith, e))
      go (early (by_root t s h n)) = not_seven u strictly (λ e. omega (arith, e))
      go (stops w x) = stops_tell w.begun x
      go (full t f) = not_seven u strictly (λ e. omega (arith, e))

-- ---- a structure and a list are never refused with 7, so there is no place to tell
module _ (u : Upload) (call : Call) (room : Room) where
  tells_none : (shape : Shape) → ((r : Refusal) → Only (1 ∷ 2 ∷ 3 ∷ 4 ∷ later shape) r → number r ≡ 7 → ⊥) → (x : Reading)
      → read shape u call room ≡ x → outcome_place x ≡ 0
  tells_none shape f (finished out) e = refl
  tells_none shape f (refused r out) e = no_place r (f r (reading_numbers u call room shape e))

  pub structure_tells_none : outcome_place (read structure u call room) ≡ 0
  structure_tells_none = tells_none structure (λ r o q. false_true (rw q at o)) (read structure u call room) refl

  pub list_tells_none : outcome_place (read list u call room) ≡ 0
  list_tells_none = tells_none list (λ r o q. false_true (rw q at o)) (read list u call room) refl

-- ---- scalars
module _ (u : Upload) (settings : Settings) (depth : ShapeDepth) where
  scalar_tells : {r : Refusal} → ScalarRefused u settings depth r → TellsPlace u (is_strict settings depth) r
  scalar_tells (not_opened (broken_table n)) = not_seven u (is_strict settings depth) (λ e. omega (arith, e))
  scalar_tells (not_opened (no_root t n)) = not_seven u (is_strict settings depth) (λ e. omega (arith, e))
  scalar_tells (scalar.no_text {o = o} {r = r} w n) =
      text_tells u w o.root (opened_in w).root r ((opened_text_refusal u w o.root r).1 n)
  scalar_tells (after_the_rest w t f) = not_seven u (is_strict settings depth) (λ e. omega (arith, e))

  unread_tells : {Wrong : List ℕ → Refusal → Type 0} {r : Refusal} → ((t : List ℕ) (q : Refusal) → Wrong t q → number q ≡ 7 → ⊥)
      → Unread u settings depth Wrong r → TellsPlace u (is_strict settings depth) r
  unread_tells f (not_read w) = scalar_tells w
  unread_tells f (wrong {text = t} {r = r} p w) = not_seven u (is_strict settings depth) (f t r w)

  boolean_own : (t : List ℕ) (q : Refusal) → NotABoolean t q → number q ≡ 7 → ⊥
  boolean_own t q (not_boolean m n) e = omega (arith, e)

  integer_own : (t : List ℕ) (q : Refusal) → NotAnInteger t q → number q ≡ 7 → ⊥
  integer_own t q (not_integer n) e = omega (arith, e)

  string_own : (room : ℕ) (t : List ℕ) (q : Refusal) → StringTooLong room t q → number q ≡ 7 → ⊥
  string_own room t q (too_long h) e = omega (arith, e)

  -- THE LAW of each
  pub boolean_tells : (r : Refusal) → boolean_reading u settings depth ≡ refuses r → TellsPlace u (is_strict settings depth) r
  boolean_tells r e = unread_tells boolean_own ((boolean_refusal u settings depth r).0 e)

  pub integer_tells : (r : Refusal) → integer_reading u settings depth ≡ refuses r → TellsPlace u (is_strict settings depth) r
  integer_tells r e = unread_tells integer_own ((integer_refusal u settings depth r).0 e)

  pub string_tells : (room : ℕ) (r : Refusal) → string_reading u settings depth room ≡ refuses r → TellsPlace u (is_strict settings depth) r
  string_tells room r e = unread_tells (string_own room) ((string_refusal u settings depth room r).0 e)
