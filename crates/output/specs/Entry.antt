-- What an entry of the code says (readings/specs/Output.antt).
use Rattle.std.specs.Prelude.{ℕ}
use Rattle.readings.specs.Output.{text_kind, piece_kind, group_kind, failed_kind}
use Rattle.readings.specs.Output as reading
use Rattle.output.specs.declared.entry.Kind.{Kind}
use Rattle.output.specs.declared.entry.Entry.{Entry}

abbrev pub kind_of : Kind → ℕ
kind_of Kind.Text = text_kind
kind_of Kind.Piece = piece_kind
kind_of Kind.Group = group_kind
kind_of Kind.Failed = failed_kind

unfoldable pub entry_of : Entry → reading.Entry
entry_of e =
    record { kind = kind_of e.kind; member = e.member; key_start = e.key_start; key_len = e.key_len; start = e.start; len = e.len }
