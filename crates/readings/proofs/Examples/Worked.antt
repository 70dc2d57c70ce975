-- Demand 3 is not empty: an upload that passes the drain, nested, with a prefix, attributes, a flattened group and a map; its readings,
-- level by level; and the theorem used on its pieces. The tables are the tokenizer's own, those of the pieces too.
use Prim.Native.Nat.{ℕ}
use mathlib.Core.Path.{◌≡◌, refl}
use mathlib.Core.Bool.{true, false}
use mathlib.Core.List.Memᴰ
use mathlib.Core.List.{List, [], ◌∷◌, ◌++◌}
use Rattle.std.specs.Prelude.{Ok}
use Rattle.lists.specs.Bytes.{ascii}
use Rattle.lists.specs.Every.{Every}
use Rattle.lists.proofs.Every.{every_in}
use Rattle.table.specs.Row.{cut, rows_of, table_of}
use Rattle.table.specs.Piece.{element_rows, piece_rows}
use Rattle.xml.specs.Drain.{drained}
use Rattle.xml.proofs.Means.{drained_passes_is}
use Rattle.xml.specs.Piece.{ElementPiece}
use Rattle.sheet.specs.declared.Settings.{Settings}
use Rattle.readings.specs.Call.{uploaded, calling}
use Rattle.readings.specs.Output.{text_entry, piece_entry, group_entry, key_text_entry, Output, finished}
use Rattle.readings.specs.Structure.{structure_reading}
use Rattle.readings.specs.Collection.{list_reading, map_reading}
use Rattle.readings.specs.Shape.{structure}
use Rattle.readings.specs.Demand.{Handed}
use Rattle.readings.proofs.Demand.Theorem.{demand_3, promised_output}
use Rattle.readings.proofs.Examples.Asking.{settings, shape, enough}
use Rattle.readings.proofs.All.{computed}

-- ---- the upload
abbrev pub body : List ℕ
body =
    ascii "<d:core id=\"T&amp;7\"><d:site>North &lt;1</d:site><samples><s>4</s><s/></samples><ring y=\"1\">34</ring><ring/>" ++
    ascii "<notes><entry><key>sap</key><value>9</value></entry></notes></d:core>"

abbrev pub table : List ℕ
table =
    1 ∷ 1 ∷ 1 ∷ 3 ∷ 4 ∷ 0 ∷ 0 ∷ 7 ∷
    2 ∷ 0 ∷ 0 ∷ 8 ∷ 2 ∷ 12 ∷ 7 ∷ 20 ∷
    3 ∷ 0 ∷ 0 ∷ 0 ∷ 0 ∷ 0 ∷ 0 ∷ 21 ∷
    1 ∷ 22 ∷ 1 ∷ 24 ∷ 4 ∷ 0 ∷ 0 ∷ 28 ∷
    3 ∷ 0 ∷ 0 ∷ 0 ∷ 0 ∷ 0 ∷ 0 ∷ 29 ∷
    6 ∷ 0 ∷ 0 ∷ 0 ∷ 0 ∷ 29 ∷ 11 ∷ 40 ∷
    4 ∷ 42 ∷ 1 ∷ 44 ∷ 4 ∷ 0 ∷ 0 ∷ 49 ∷
    1 ∷ 0 ∷ 0 ∷ 50 ∷ 7 ∷ 0 ∷ 0 ∷ 57 ∷
    3 ∷ 0 ∷ 0 ∷ 0 ∷ 0 ∷ 0 ∷ 0 ∷ 58 ∷
    1 ∷ 0 ∷ 0 ∷ 59 ∷ 1 ∷ 0 ∷ 0 ∷ 60 ∷
    3 ∷ 0 ∷ 0 ∷ 0 ∷ 0 ∷ 0 ∷ 0 ∷ 61 ∷
    6 ∷ 0 ∷ 0 ∷ 0 ∷ 0 ∷ 61 ∷ 1 ∷ 62 ∷
    4 ∷ 0 ∷ 0 ∷ 64 ∷ 1 ∷ 0 ∷ 0 ∷ 66 ∷
    1 ∷ 0 ∷ 0 ∷ 67 ∷ 1 ∷ 0 ∷ 0 ∷ 68 ∷
    5 ∷ 0 ∷ 0 ∷ 0 ∷ 0 ∷ 0 ∷ 0 ∷ 70 ∷
    4 ∷ 0 ∷ 0 ∷ 72 ∷ 7 ∷ 0 ∷ 0 ∷ 80 ∷
    1 ∷ 0 ∷ 0 ∷ 81 ∷ 4 ∷ 0 ∷ 0 ∷ 85 ∷
    2 ∷ 0 ∷ 0 ∷ 86 ∷ 1 ∷ 89 ∷ 1 ∷ 91 ∷
    3 ∷ 0 ∷ 0 ∷ 0 ∷ 0 ∷ 0 ∷ 0 ∷ 92 ∷
    6 ∷ 0 ∷ 0 ∷ 0 ∷ 0 ∷ 92 ∷ 2 ∷ 94 ∷
    4 ∷ 0 ∷ 0 ∷ 96 ∷ 4 ∷ 0 ∷ 0 ∷ 101 ∷
    1 ∷ 0 ∷ 0 ∷ 102 ∷ 4 ∷ 0 ∷ 0 ∷ 106 ∷
    5 ∷ 0 ∷ 0 ∷ 0 ∷ 0 ∷ 0 ∷ 0 ∷ 108 ∷
    1 ∷ 0 ∷ 0 ∷ 109 ∷ 5 ∷ 0 ∷ 0 ∷ 114 ∷
    3 ∷ 0 ∷ 0 ∷ 0 ∷ 0 ∷ 0 ∷ 0 ∷ 115 ∷
    1 ∷ 0 ∷ 0 ∷ 116 ∷ 5 ∷ 0 ∷ 0 ∷ 121 ∷
    3 ∷ 0 ∷ 0 ∷ 0 ∷ 0 ∷ 0 ∷ 0 ∷ 122 ∷
    1 ∷ 0 ∷ 0 ∷ 123 ∷ 3 ∷ 0 ∷ 0 ∷ 126 ∷
    3 ∷ 0 ∷ 0 ∷ 0 ∷ 0 ∷ 0 ∷ 0 ∷ 127 ∷
    6 ∷ 0 ∷ 0 ∷ 0 ∷ 0 ∷ 127 ∷ 3 ∷ 130 ∷
    4 ∷ 0 ∷ 0 ∷ 132 ∷ 3 ∷ 0 ∷ 0 ∷ 136 ∷
    1 ∷ 0 ∷ 0 ∷ 137 ∷ 5 ∷ 0 ∷ 0 ∷ 142 ∷
    3 ∷ 0 ∷ 0 ∷ 0 ∷ 0 ∷ 0 ∷ 0 ∷ 143 ∷
    6 ∷ 0 ∷ 0 ∷ 0 ∷ 0 ∷ 143 ∷ 1 ∷ 144 ∷
    4 ∷ 0 ∷ 0 ∷ 146 ∷ 5 ∷ 0 ∷ 0 ∷ 152 ∷
    4 ∷ 0 ∷ 0 ∷ 154 ∷ 5 ∷ 0 ∷ 0 ∷ 160 ∷
    4 ∷ 0 ∷ 0 ∷ 162 ∷ 5 ∷ 0 ∷ 0 ∷ 168 ∷
    4 ∷ 170 ∷ 1 ∷ 172 ∷ 4 ∷ 0 ∷ 0 ∷ 177 ∷ []

abbrev pub final : ℕ
final = 177

-- a structure `d:core` of an attribute `id`, a text `site`, a list `samples`, a flattened list `ring` and a map `notes`
abbrev pub core_sheet : List ℕ
core_sheet =
    1 ∷ 6 ∷ ascii "d:core" ++ (4 ∷ ascii "Core" ++ (5
    ∷ 6 ∷ 2 ∷ ascii "id" ++ (2 ∷ 4 ∷ ascii "site" ++ (18 ∷ 7 ∷ ascii "samples" ++ (26 ∷ 4 ∷ ascii "ring" ++ (18 ∷ 5 ∷ ascii "notes"))))))

-- strict in everything but the names of collection elements
abbrev strictly : Settings
strictly = settings 128 true true false

pub passes : drained body table final ≡ Ok tt
unfolding computed
passes = refl

-- ---- its reading: id, site, samples, notes, and the group of the rings
abbrev pub core : Output
core =
    record {
      entries =
          text_entry 0 (ascii "T&7") 0
          ∷ text_entry 1 (ascii "North <1") 3
          ∷ piece_entry 2 (record { start = 49; len = 31 }) 0
          ∷ piece_entry 4 (record { start = 108; len = 60 }) 0
          ∷ group_entry 3 (ascii "<__flat><ring y=\"1\">34</ring><ring/></__flat>") 11
          ∷ [];
      texts = ascii "T&7" ++ (ascii "North <1" ++ ascii "<__flat><ring y=\"1\">34</ring><ring/></__flat>");
    }

pub core_is : structure_reading (uploaded body table final) (calling core_sheet strictly (shape 0)) enough ≡ finished core
unfolding computed
core_is = refl

-- ---- the theorem, used on its pieces
pub core_handed : Every (Handed (uploaded body table final) core_sheet core.texts) core.entries
core_handed =
    promised_output (rw core_is at
    (demand_3 (uploaded body table final) ((drained_passes_is body table final).0 passes) structure
    (calling core_sheet strictly (shape 0)) enough))

-- the samples: an element of the table, whose own rows pass the drain again
pub samples : ElementPiece body table 49 31
samples = (every_in core_handed _ (Memᴰ.tail (Memᴰ.tail (Memᴰ.head refl)))).piece refl

pub notes : ElementPiece body table 108 60
notes = (every_in core_handed _ (Memᴰ.tail (Memᴰ.tail (Memᴰ.tail (Memᴰ.head refl))))).piece refl

-- ---- the next level: the rows of each piece, counted from its first byte, are what the tokenizer makes of the piece alone
abbrev pub samples_table : List ℕ
samples_table =
    1 ∷ 0 ∷ 0 ∷ 1 ∷ 7 ∷ 0 ∷ 0 ∷ 8 ∷
    3 ∷ 0 ∷ 0 ∷ 0 ∷ 0 ∷ 0 ∷ 0 ∷ 9 ∷
    1 ∷ 0 ∷ 0 ∷ 10 ∷ 1 ∷ 0 ∷ 0 ∷ 11 ∷
    3 ∷ 0 ∷ 0 ∷ 0 ∷ 0 ∷ 0 ∷ 0 ∷ 12 ∷
    6 ∷ 0 ∷ 0 ∷ 0 ∷ 0 ∷ 12 ∷ 1 ∷ 13 ∷
    4 ∷ 0 ∷ 0 ∷ 15 ∷ 1 ∷ 0 ∷ 0 ∷ 17 ∷
    1 ∷ 0 ∷ 0 ∷ 18 ∷ 1 ∷ 0 ∷ 0 ∷ 19 ∷
    5 ∷ 0 ∷ 0 ∷ 0 ∷ 0 ∷ 0 ∷ 0 ∷ 21 ∷
    4 ∷ 0 ∷ 0 ∷ 23 ∷ 7 ∷ 0 ∷ 0 ∷ 31 ∷ []

pub samples_rows : table_of (piece_rows body (element_rows (rows_of table) 7)) ≡ samples_table
unfolding computed table_of
samples_rows = refl

pub samples_read :
    list_reading (uploaded (cut body 49 31) samples_table 31) (calling (0 ∷ []) strictly (shape 1)) enough
    ≡ finished (record {
      entries = piece_entry 0 (record { start = 9; len = 8 }) 0 ∷ piece_entry 0 (record { start = 17; len = 4 }) 0 ∷ [];
      texts = [];
    })
unfolding computed
samples_read = refl

abbrev pub notes_table : List ℕ
notes_table =
    1 ∷ 0 ∷ 0 ∷ 1 ∷ 5 ∷ 0 ∷ 0 ∷ 6 ∷
    3 ∷ 0 ∷ 0 ∷ 0 ∷ 0 ∷ 0 ∷ 0 ∷ 7 ∷
    1 ∷ 0 ∷ 0 ∷ 8 ∷ 5 ∷ 0 ∷ 0 ∷ 13 ∷
    3 ∷ 0 ∷ 0 ∷ 0 ∷ 0 ∷ 0 ∷ 0 ∷ 14 ∷
    1 ∷ 0 ∷ 0 ∷ 15 ∷ 3 ∷ 0 ∷ 0 ∷ 18 ∷
    3 ∷ 0 ∷ 0 ∷ 0 ∷ 0 ∷ 0 ∷ 0 ∷ 19 ∷
    6 ∷ 0 ∷ 0 ∷ 0 ∷ 0 ∷ 19 ∷ 3 ∷ 22 ∷
    4 ∷ 0 ∷ 0 ∷ 24 ∷ 3 ∷ 0 ∷ 0 ∷ 28 ∷
    1 ∷ 0 ∷ 0 ∷ 29 ∷ 5 ∷ 0 ∷ 0 ∷ 34 ∷
    3 ∷ 0 ∷ 0 ∷ 0 ∷ 0 ∷ 0 ∷ 0 ∷ 35 ∷
    6 ∷ 0 ∷ 0 ∷ 0 ∷ 0 ∷ 35 ∷ 1 ∷ 36 ∷
    4 ∷ 0 ∷ 0 ∷ 38 ∷ 5 ∷ 0 ∷ 0 ∷ 44 ∷
    4 ∷ 0 ∷ 0 ∷ 46 ∷ 5 ∷ 0 ∷ 0 ∷ 52 ∷
    4 ∷ 0 ∷ 0 ∷ 54 ∷ 5 ∷ 0 ∷ 0 ∷ 60 ∷ []

pub notes_rows : table_of (piece_rows body (element_rows (rows_of table) 23)) ≡ notes_table
unfolding computed table_of
notes_rows = refl

pub notes_read :
    map_reading (uploaded (cut body 108 60) notes_table 60) (calling (0 ∷ []) strictly (shape 1)) enough
    ≡ finished (record { entries = key_text_entry (ascii "sap") (ascii "9") 0 ∷ []; texts = ascii "sap9" })
unfolding computed
notes_read = refl
