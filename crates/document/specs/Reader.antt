-- A document that is being read (01, src/decode.rs, `Document`): tokens are taken one by one and the element depth is counted. Scopes
-- (`ScopedDecoder`), the skip to a scope's end, and the next start element in it (`next_start_element`). Each walk has two clauses: what a
-- token does is said by functions that do not recurse.
use Rattle.std.specs.Prelude.{ℕ, zero, suc, Bool, true, false, List, [], ◌∷◌, ◌++◌, eqb}
use Rattle.lists.specs.Tests.{pick, less}
use Rattle.reference.specs.Text.{Out, bytes, unescaped}
use Rattle.reference.specs.Text as text
use Rattle.table.specs.Row.{Name, Tok, start, attr, gt, close, slash, matter, bad, Move, enters, leaves, stays, move_of}
use Rattle.xml.specs.Drain.{same_name}
use Rattle.document.specs.declared.Depth.{Depth}

-- ---- element depth: "decode.rs's `Depth` .. starts at 0 for the root"
abbrev pub depth : ℕ → Depth
depth d = record { 0 = d }

abbrev pub deeper : Depth → Depth
deeper d = depth (suc d.0)

abbrev pub shallower : Depth → Depth
shallower d = depth (less d.0)

abbrev pub same_depth : Depth → Depth → Bool
same_depth c d = eqb c.0 d.0

-- the depth after a token: 1 more after a start, 1 less after a close tag and after `/>`
abbrev pub depth_by : Move → Depth → Depth
depth_by (enters n) d = deeper d
depth_by leaves d = shallower d
depth_by stays d = d

abbrev pub depth_after : Tok → Depth → Depth
depth_after t d = depth_by (move_of t) d

-- ---- the reader: its depth, the number of the next row, and the tokens from it on
pub record Reader : Type 0 where
  pub depth : Depth
  pub row : ℕ
  pub rest : List Tok

abbrev pub reader : Depth → ℕ → List Tok → Reader
reader d k l = record { depth = d; row = k; rest = l }

-- at the first row, outside the root
abbrev pub fresh : List Tok → Reader
fresh l = reader (depth zero) zero l

-- ---- scopes
-- the scope of the whole document, which no close tag ends; or of an element: "`ScopedDecoder` ends at the close tag with its own depth and
-- name, or when tokens run out". It does not look at the end of a scope around it.
pub data Scope : Type 0 where
  document : Scope
  element : Depth → Name → Scope

-- whether a close tag of m that leaves depth d ends the scope
abbrev pub is_end : Scope → Depth → Name → Bool
is_end document d m = false
is_end (element own n) d m = pick (same_depth d own) (same_name m n) false

-- whether a token that leaves depth d does
abbrev pub ends_at : Scope → Depth → Tok → Bool
ends_at s d (start n) = false
ends_at s d (attr m v) = false
ends_at s d gt = false
ends_at s d (close m) = is_end s d m
ends_at s d slash = false
ends_at s d (matter b) = false
ends_at s d bad = false

-- where the reader stands once a scope is over, and whether the scope's own end was read; else the rows ran out
pub record Past : Type 0 where
  pub ended : Bool
  pub reader : Reader

-- the skip to the end of a scope (`for _ in self {}`), from depth d and row k
unfoldable pub skip : Scope → Depth → ℕ → List Tok → Past
skip s d k [] = record { ended = false; reader = reader d k [] }
skip s d k (t ∷ l) =
    let d' = depth_after t d in
    let more = skip s d' (suc k) l in
    pick (ends_at s d' t) (record { ended = true; reader = reader d' (suc k) l }) more

-- ---- start elements
-- an attribute, its value unescaped
pub record Attribute : Type 0 where
  pub name : Name
  pub value : List ℕ

-- `StartEl`: name, attributes, whether it ended in `/>`, and depth, which is the depth before it; beside them the number of its row
pub record StartEl : Type 0 where
  pub name : Name
  pub attributes : List Attribute
  pub closed : Bool
  pub depth : Depth
  pub row : ℕ

-- `StartEl::new("", "", 0)`
abbrev pub blank : StartEl
blank = record { name = record { prefix = []; local = [] }; attributes = []; closed = false; depth = depth zero; row = zero }

-- a start in row k, met at depth d
abbrev pub begun : StartEl → Name → Depth → ℕ → StartEl
begun o n d k = record { name = n; attributes = o.attributes; closed = o.closed; depth = d; row = k }

abbrev pub add_attribute : StartEl → Name → List ℕ → StartEl
add_attribute o m v =
    record {
      name = o.name;
      attributes = o.attributes ++ record { name = m; value = v } ∷ [];
      closed = o.closed;
      depth = o.depth;
      row = o.row;
    }

abbrev pub as_closed : StartEl → StartEl
as_closed o = record { name = o.name; attributes = o.attributes; closed = true; depth = o.depth; row = o.row }

-- what a token does to the search for a start element: it goes on with what was met so far; the start tag is complete; or the search is
-- over, at the scope's end or at an attribute that does not unescape
pub data Turn : Type 0 where
  goes : StartEl → Turn
  complete : StartEl → Turn
  over : Bool → Turn

-- "Going on to the next child after an attribute that does not unescape. The Rust ends the level there."
abbrev pub on_attribute : StartEl → Name → Out → Turn
on_attribute o m (bytes v) = goes (add_attribute o m v)
on_attribute o m (text.bad at) = over false

abbrev pub on_close : StartEl → Bool → Turn
on_close o true = over true
on_close o false = goes o

-- the token of row k, met at depth d
abbrev pub turn : Scope → StartEl → Depth → ℕ → Tok → Turn
turn s o d k (start n) = goes (begun o n d k)
turn s o d k (attr m v) = on_attribute o m (unescaped v)
turn s o d k gt = complete o
turn s o d k (close m) = on_close o (is_end s (shallower d) m)
turn s o d k slash = complete (as_closed o)
turn s o d k (matter b) = goes o
turn s o d k bad = goes o

-- a start element and the reader after its tag; or none, with the reader where the search was over, and whether the scope's end was read
pub data Next : Type 0 where
  found : StartEl → Reader → Next
  gone : Past → Next

abbrev pub take_turn : Turn → Reader → (StartEl → Next) → Next
take_turn (goes o) r more = more o
take_turn (complete o) r more = found o r
take_turn (over ended) r more = gone (record { ended = ended; reader = r })

-- `next_start_element`: o is what was met so far
unfoldable pub next : Scope → StartEl → Depth → ℕ → List Tok → Next
next s o d k [] = gone (record { ended = false; reader = reader d k [] })
next s o d k (t ∷ l) =
    take_turn (turn s o d k t) (reader (depth_after t d) (suc k) l) (λ (o' : StartEl). next s o' (depth_after t d) (suc k) l)
