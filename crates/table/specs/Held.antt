-- The rows and the places that the code holds, as those of the rules.
use Rattle.table.specs.declared.numbers.Row.{Row as HeldRow}
use Rattle.table.specs.declared.places.Place.{Place as HeldPlace}
use Rattle.table.specs.Row.{Row}
use Rattle.table.specs.Rules.{Place}

abbrev pub row_is : HeldRow → Row
row_is r =
    record {
      kind = r.kind;
      prefix_start = r.prefix.start;
      prefix_len = r.prefix.len;
      local_start = r.local.start;
      local_len = r.local.len;
      value_start = r.value.start;
      value_len = r.value.len;
      position = r.position;
    }

abbrev pub place_is : HeldPlace → Place
place_is p = record { position = p.position; in_tag = p.in_tag; nesting = p.nesting; rooted = p.rooted }
