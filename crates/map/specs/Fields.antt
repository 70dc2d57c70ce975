-- What the fields of an entry stand for, and what is answered where they are read.
use Rattle.std.specs.Prelude.{◌≡◌, Result, Ok, Err}
use Rattle.refusal.specs.declared.Refusal.{Refusal}
use Rattle.refusal.specs.Answer.{Answer, gives, refuses}
use Rattle.document.specs.Scope.{children_of, after_children}
use Rattle.sheet.specs.Sheet.{MapSheet}
use Rattle.readings.specs.Collection.{no_fields, read_fields}
use Rattle.readings.specs.Collection as read
use Rattle.decode.specs.declared.element.Element.{Element}
use Rattle.decode.specs.Place.{Outside}
use Rattle.decode.specs.View.{view_of}
use Rattle.decode.specs.Element.{child_of}
use Rattle.opening.specs.Opening.{body_of}
use Rattle.list.specs.Children.{StandsAt}
use Rattle.map.specs.declared.fields.Fields.{Fields}
use Rattle.map.specs.declared.entries.Read.{Read}
use Rattle.map.specs.Values.{key_of, value_of}

abbrev pub fields_of : Fields → read.Fields
fields_of f = record { key = key_of f.key; value = value_of f.value }

-- once a child was taken
abbrev pub fields_as : Fields → Result (Unit {0}) Refusal → Answer read.Fields
fields_as f (Ok u) = gives (fields_of f)
fields_as f (Err r) = refuses r

-- ---- of an entry
abbrev pub read_as : Result Read Refusal → Answer read.Fields
read_as (Ok r) = gives (fields_of r.fields)
read_as (Err r) = refuses r

-- where the reader stands after it
abbrev pub Left : Element → Result Read Refusal → Type 0
Left e (Ok r) =
    StandsAt (after_children (child_of e)) e r.at × Outside e.view.table.body.now e.view.table.rows.now e.view.count r.at
Left e (Err r) = Unit {0}

pub record FieldsRead (m : MapSheet) (e : Element) (r : Result Read Refusal) : Type 0 where
  pub is : read_as r ≡ read_fields (body_of e) (view_of e.view) m (children_of (child_of e)) no_fields
  pub left : Left e r
