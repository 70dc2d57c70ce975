-- Laws of an entry of a map: read and written, or dropped; and of the whole.
use mathlib.Core.Path.{◌≡◌, sym, ap}
use mathlib.Core.Bool.{Bool, true, false}
use Rattle.std.specs.Prelude.{Result, Ok, Err, Option}
use Rattle.refusal.specs.declared.Refusal.{Refusal}
use Rattle.table.specs.declared.patterns.Pattern.{Pattern}
use Rattle.document.specs.Scope.{after_children}
use Rattle.sheet.specs.declared.Settings.{Settings}
use Rattle.sheet.specs.Sheet.{MapSheet}
use Rattle.sheet.specs.Names.{entry_name}
use Rattle.readings.specs.Collection.{is_wanted, read_plan, entry_plan, after_entry, fields_plan, entries_of, entries_plan}
use Rattle.readings.proofs.Laws.Few.{entries_few}
use Rattle.decode.specs.declared.place.Past.{Past}
use Rattle.decode.specs.declared.place.Cursor.{Cursor}
use Rattle.decode.specs.declared.element.Element.{Element}
use Rattle.decode.specs.View.{view_of}
use Rattle.decode.specs.Element.{child_of, DroppedIs}
use Rattle.output.specs.declared.Output.{Output}
use Rattle.output.specs.Held.{Does, Whole}
use Rattle.output.proofs.Writing.{stops}
use Rattle.output.proofs.Then.{does_as, does_nothing}
use Rattle.output.proofs.Called.{does_whole}
use Rattle.opening.specs.Opening.{body_of, asked_of}
use Rattle.opening.specs.Wanted.{asked_by}
use Rattle.opening.proofs.Few.{few_in}
use Rattle.list.specs.Children.{ChildRead, each_plan, all_plan}
use Rattle.list.proofs.ItemLaws.{stands_dropped}
use Rattle.map.specs.declared.entries.Read.{Read}
use Rattle.map.specs.Values.{key_of, value_of}
use Rattle.map.specs.Fields.{read_as, FieldsRead}

module _ (m : MapSheet) (name : Option Pattern) (e : Element) where
  abbrev wanted : Bool
  wanted = is_wanted (asked_by name) (child_of e)

  abbrev EntryRead : Output → Output → Result Cursor Refusal → Type 0
  EntryRead b b' r =
      ChildRead (λ body v c. entry_plan body v m (asked_by name) c) (λ c. after_entry (asked_by name) c) e b b' r

  pub entry_not : (b : Output) → wanted ≡ false → {p : Past} → DroppedIs e p → EntryRead b b (Ok p.at)
  unfolding entry_plan after_entry
  entry_not b q d = record { does = does_as (rw q) (does_nothing b); reached = rw q (stands_dropped e d) }

  module _ (q : wanted ≡ true) where
    entry_is : {r : Result Read Refusal} → FieldsRead m e r
        → entry_plan (body_of e) (view_of e.view) m (asked_by name) (child_of e) ≡ read_plan (read_as r)
    unfolding entry_plan
    entry_is x = rw q (ap read_plan (sym x.is))

    after_is : after_entry (asked_by name) (child_of e) ≡ after_children (child_of e)
    unfolding after_entry
    after_is = rw q

    pub entry_refused : (b : Output) {r : Refusal} → FieldsRead m e (Err r) → EntryRead b b (Err r)
    entry_refused b {r} x = record { does = does_as (entry_is x) (stops b); reached = tt }

    module _ {b b' : Output} {r : Read} (x : FieldsRead m e (Ok r)) where
      pub entry_done : Does (fields_plan (key_of r.fields.key) (value_of r.fields.value)) b b' (Ok tt) → EntryRead b b' (Ok r.at)
      entry_done d = record { does = does_as (entry_is x) d; reached = rw after_is x.left.0 }

      pub entry_full : {why : Refusal} → Does (fields_plan (key_of r.fields.key) (value_of r.fields.value)) b b' (Err why)
          → EntryRead b b' (Err why)
      entry_full d = record { does = does_as (entry_is x) d; reached = tt }

-- ---- the whole
pub map_is : (name : Option Pattern) (settings : Settings) (m : MapSheet) → asked_by name ≡ entry_name settings m → (root : Element)
    → {b b' : Output} {r : Result (Unit {0}) Refusal}
    → Does (all_plan (λ body v c. entry_plan body v m (asked_by name) c) (λ c. after_entry (asked_by name) c) root) b b' r
    → Does (entries_plan (body_of root) settings (asked_of m root)) b b' r
unfolding all_plan each_plan entries_plan entries_of
map_is name settings m n root d = rw (sym n) d

-- its keys and values come to few bytes, so it ends in the whole room
pub map_whole : (settings : Settings) (m : MapSheet) (root : Element) {b b' : Output} {r : Result (Unit {0}) Refusal}
    → Does (entries_plan (body_of root) settings (asked_of m root)) b b' r
    → Whole (entries_plan (body_of root) settings (asked_of m root)) b b' r
map_whole settings m root d = does_whole d (entries_few (body_of root) settings (asked_of m root) (few_in root))
