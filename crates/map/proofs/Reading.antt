-- Laws of reading an entry of a map: the loop over its children, and the place after it.
use Prim.Native.Nat.{◌-◌, ◌<◌, ◌≤◌}
use mathlib.Core.Path.{◌≡◌, refl, sym, ◌∙◌, ap}
use native.Mathlib.Omega.{arith}
use Rattle.std.specs.Prelude.{Result, Ok, Err}
use Rattle.refusal.specs.declared.Refusal.{Refusal}
use Rattle.refusal.specs.Answer.{Answer, onward}
use Rattle.document.specs.Scope.{Level, children, children_of, dropping, end_of, leave, after_children, level_in}
use Rattle.document.proofs.Laws.Fuel.{dropping_shortens}
use Rattle.sheet.specs.Sheet.{MapSheet}
use Rattle.readings.specs.Collection.{no_fields, read_fields, read_field}
use Rattle.readings.specs.Collection as read
use Rattle.decode.specs.declared.place.Past.{Past}
use Rattle.decode.specs.declared.place.Cursor.{Cursor}
use Rattle.decode.specs.declared.view.View.{View}
use Rattle.decode.specs.declared.element.Element.{Element}
use Rattle.decode.specs.Place.{Outside, EndedAt}
use Rattle.decode.specs.View.{view_of}
use Rattle.decode.specs.Element.{child_of, past_of, FoundAt, NextIs, DroppedIs, LeftIs}
use Rattle.decode.proofs.Known.{out_of_tag}
use Rattle.opening.specs.Opening.{body_of}
use Rattle.list.proofs.Each.{level_none, level_one, child_at}
use Rattle.list.proofs.ItemLaws.{stands_dropped}
use Rattle.map.specs.declared.fields.Fields.{Fields}
use Rattle.map.specs.Fields.{fields_of, fields_as, FieldsRead}

-- the fields of the children of a level
abbrev fields_in : Element → MapSheet → Level → read.Fields → Answer read.Fields
fields_in e m l f = read_fields (body_of e) (view_of e.view) m (children l) f

-- the level of an element
abbrev inside : Element → Level
inside e = level_in dropping (child_of e)

-- those of `scope` are still to come
pub record FieldsAt (m : MapSheet) (entry scope : Element) (f : Fields) : Type 0 where
  pub view : scope.view ≡ entry.view
  pub start : scope.start ≡ entry.start
  pub since : entry.at.row ≤ scope.at.row
  pub rest : fields_in entry m (inside scope) (fields_of f) ≡ fields_in entry m (inside entry) no_fields
  pub ends : end_of (inside scope) ≡ end_of (inside entry)

module _ (m : MapSheet) (entry : Element) where
  pub fields_start : {f : Fields} → fields_of f ≡ no_fields → FieldsAt m entry entry f
  fields_start q =
      record { view = refl; start = refl; since = omega arith; rest = ap (fields_in entry m (inside entry)) q; ends = refl }

  module _ {scope : Element} {f : Fields} (w : FieldsAt m entry scope f) where
    module _ {p : Past} (n : NextIs scope (Err p)) where
      none : inside scope ≡ Level.done (past_of scope.view p)
      none = level_none dropping dropping_shortens n

      pub fields_ended : EndedAt entry.view.table.body.now entry.view.table.rows.now entry.view.count p
      fields_ended = rw w.view at n.met.ended

      pub fields_done : {c : Cursor} → LeftIs entry p c → FieldsRead m entry (Ok (record { fields = f; at = c }))
      unfolding children end_of read_fields children_of after_children
      fields_done {c} l =
          let e : past_of entry.view p ≡ end_of (inside entry) =
          ap (λ (v : View). past_of v p) (sym w.view) ∙ (sym (ap end_of none) ∙ w.ends) in
          record {
            is = sym (ap (λ (x : Level). fields_in entry m x (fields_of f)) none) ∙ w.rest;
            left = (
              record {
                is = l.is ∙ ap (leave (child_of entry)) e;
                stands = out_of_tag l.stands;
                later = omega (arith, w.since, n.met.since, l.later);
              },
              l.stands,
            );
          }

    module _ {child : Element} (n : NextIs scope (Ok child)) {past : Past} (d : DroppedIs child past) where
      in_entry : child.view ≡ entry.view
      in_entry = n.met.view ∙ w.view

      met : inside scope ≡ Level.meets (child_of child) (level_in dropping (child_at scope.view scope.start past.at))
      met = level_one dropping dropping_shortens n (stands_dropped child d)

      module _ (g : Fields) (r : Result (Unit {0}) Refusal)
          (x : fields_as g r ≡ read_field (body_of child) (view_of child.view) m (fields_of f) (child_of child)) where
        turned : onward (fields_as g r) (λ (g : read.Fields). fields_in entry m
            (level_in dropping (child_at scope.view scope.start past.at)) g)
            ≡ fields_in entry m (inside entry) no_fields
        unfolding children read_fields
        turned =
            let same : fields_as g r ≡ read_field (body_of entry) (view_of entry.view) m (fields_of f) (child_of child) =
            x ∙ ap (λ (v : View). read_field v.table.body.now (view_of v) m (fields_of f) (child_of child)) in_entry in
            ap (λ (a : Answer read.Fields).
            onward a (λ (g : read.Fields). fields_in entry m (level_in dropping (child_at scope.view scope.start past.at)) g)) same
            ∙ (ap (λ (l : Level). fields_in entry m l (fields_of f)) (sym met) ∙ w.rest)

      pub fields_refused : (g : Fields) {r : Refusal}
          → fields_as g (Err r) ≡ read_field (body_of child) (view_of child.view) m (fields_of f) (child_of child)
          → FieldsRead m entry (Err r)
      unfolding children_of
      fields_refused g {r} x = record { is = turned g (Err r) x; left = tt }

      pub fields_stand : Outside entry.view.table.body.now entry.view.table.rows.now entry.view.count past.at
      fields_stand = rw in_entry at d.stands

      pub fields_less : entry.view.count - past.at.row < entry.view.count - scope.at.row
      fields_less =
          let s = child.start_in in
          omega (arith, n.met.since, s.low, s.high, n.met.past, d.later, ap (λ (v : View). v.count) in_entry)

      pub fields_on : {g : Fields} → fields_as g (Ok tt) ≡ read_field (body_of child) (view_of child.view) m (fields_of f) (child_of child)
          → {next : Element} → FoundAt entry.view entry.start past.at next → FieldsAt m entry next g
      unfolding end_of
      fields_on {g} x {next} y =
          let here : child_of next ≡ child_at scope.view scope.start past.at = rw (y.view, y.start, y.at, w.view, w.start) in
          let same : inside next ≡ level_in dropping (child_at scope.view scope.start past.at) = ap (level_in dropping) here in
          record {
            view = y.view;
            start = y.start;
            since = omega (arith, w.since, n.met.since, child.start_in.low, n.met.past, d.later, ap (λ (c : Cursor). c.row) y.at);
            rest = ap (λ (l : Level). fields_in entry m l (fields_of g)) same ∙ turned g (Ok tt) x;
            ends = ap end_of same ∙ (sym (ap end_of met) ∙ w.ends);
          }
