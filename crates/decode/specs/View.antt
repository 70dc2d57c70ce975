-- What a view stands for.
use Rattle.std.specs.Prelude.{◌≡◌}
use Rattle.table.specs.Row.{rows_of}
use Rattle.table.specs.Flat.{rows_from}
use Rattle.table.specs.declared.rows.ValidTable.{ValidTable}
use Rattle.document.specs.View as doc
use Rattle.decode.specs.declared.view.View.{View}
use Rattle.decode.specs.Place.{Outside, at_first}
use Rattle.decode.specs.Reader.{failure_at}

-- the rows that are seen, and what is met where they run out
abbrev pub view_of : View → doc.View
view_of v =
    record {
      rows = rows_from v.table.rows.now 0 v.count;
      failure = failure_at v.failure;
      ill_formed = v.ill_formed;
      ends = v.ends;
    }

-- all rows of a table, up to its final position
abbrev pub whole_of : ValidTable → doc.View
whole_of t = doc.whole (rows_of t.rows.now) t.end

-- what is answered: the definition's view, of this table's rows; a reader at the first is outside of start tags
pub record ViewIs (t : ValidTable) (is : doc.View) (v : View) : Type 0 where
  pub same : view_of v ≡ is
  pub body : v.table.body.now ≡ t.body.now
  pub rows : v.table.rows.now ≡ t.rows.now
  pub fresh : Outside v.table.body.now v.table.rows.now v.count at_first
