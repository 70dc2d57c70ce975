-- The rules that a table obeys: a definition for each sentence of 01, "Token table", over sets of kinds that are named first.
use Rattle.std.specs.Prelude.{ℕ, zero, suc, ◌+◌, ◌-◌, ◌%◌, ◌≤◌, ◌<◌, ◌≡◌, Bool, true, false, List, [], ◌∷◌, eqb, length, get_or}
use Rattle.lists.specs.Characters.{solidus, less_than, greater_than}
use Rattle.lists.specs.Tests.{pick}
use Rattle.utf8.specs.Table.{is_utf8}
use Rattle.table.specs.Row.{Row, rows_of}

-- ---- the limits, each named once
abbrev pub most_rows : ℕ
most_rows = 8192

abbrev pub most_bytes : ℕ
most_bytes = 65536

abbrev pub most_open : ℕ
most_open = 256

-- "Kinds: 1 start .. 8 token error"
abbrev pub most_kind : ℕ
most_kind = 8

-- a kind is one of a list
abbrev pub among : List ℕ → ℕ → Bool
among [] k = false
among (x ∷ l) k = pick (eqb k x) true (among l k)

-- ---- which fields a kind uses: "Kinds 1 and 4 use prefix and local, 2 all three spans, 6 the value, the others none."
abbrev pub uses_name : ℕ → Bool
uses_name k = among (1 ∷ 2 ∷ 4 ∷ []) k

abbrev pub uses_value : ℕ → Bool
uses_value k = among (2 ∷ 6 ∷ []) k

-- ---- what a kind does, each set of kinds named once
-- 3 and 5 end a start tag
abbrev pub ends_tag : ℕ → Bool
ends_tag k = among (3 ∷ 5 ∷ []) k

-- 4 and 5 close an element
abbrev pub closes_element : ℕ → Bool
closes_element k = among (4 ∷ 5 ∷ []) k

-- "In kinds 1 and 4 the last `<` before the local name .."
abbrev pub is_tag : ℕ → Bool
is_tag k = among (1 ∷ 4 ∷ []) k

-- "Kinds 3 and 4 end in `>`, kind 5 in `/>`."
abbrev pub ends_in_gt : ℕ → Bool
ends_in_gt k = among (3 ∷ 4 ∷ 5 ∷ []) k

-- "After a start only 2, then 3 or 5, or 8 .. Kinds 2, 3, 5 come nowhere else."
abbrev pub may_be_in_tag : ℕ → Bool
may_be_in_tag k = among (2 ∷ 3 ∷ 5 ∷ 8 ∷ []) k

abbrev pub in_tag_only : ℕ → Bool
in_tag_only k = among (2 ∷ 3 ∷ 5 ∷ []) k

-- "Kinds 4 and 6 need an open element."
abbrev pub needs_element : ℕ → Bool
needs_element k = among (4 ∷ 6 ∷ []) k

-- "Once the root has closed, only 7 and 8."
abbrev pub may_follow_root : ℕ → Bool
may_follow_root k = among (7 ∷ 8 ∷ []) k

-- ---- where a row stands
-- what the rows before it have come to: the position of the last (0 at first); whether a start tag is not ended yet; how many elements
-- are open, "each .. from its kind 1 row, one that ends in `/>` too"; whether the root has begun
pub record Place : Type 0 where
  pub position : ℕ
  pub in_tag : Bool
  pub nesting : ℕ
  pub rooted : Bool

abbrev pub at_first : Place
at_first = record { position = 0; in_tag = false; nesting = 0; rooted = false }

-- how many elements are open after a row of a kind, where n are before it: a start row opens one, kinds 4 and 5 close one
abbrev pub open_count : ℕ → ℕ → ℕ
open_count n kind = pick (eqb kind 1) (suc n) (pick (closes_element kind) (n - 1) n)

-- a start row begins a start tag, 3 and 5 end one
abbrev pub after : Place → Row → Place
after p r =
    record {
      position = r.position;
      in_tag = pick (eqb r.kind 1) true (pick (ends_tag r.kind) false p.in_tag);
      nesting = open_count p.nesting r.kind;
      rooted = pick (eqb r.kind 1) true p.rooted;
    }

-- ---- the rules of a row r that stands at p, before the rest
-- it has a kind
abbrev pub KnownKind : Row → Type 0
KnownKind r = (1 ≤ r.kind) × (r.kind ≤ most_kind)

-- "Unused fields, and an empty prefix or value, are 0 and 0."
pub record ZeroFields (r : Row) : Type 0 where
  pub prefix : uses_name r.kind ≡ false → r.prefix_len ≡ 0
  pub local : uses_name r.kind ≡ false → (r.local_start ≡ 0) × (r.local_len ≡ 0)
  pub value : uses_value r.kind ≡ false → r.value_len ≡ 0
  pub empty_prefix : r.prefix_len ≡ 0 → r.prefix_start ≡ 0
  pub empty_value : r.value_len ≡ 0 → r.value_start ≡ 0

-- "Positions never fall"
abbrev pub PositionRises : Place → Row → Type 0
PositionRises p r = p.position ≤ r.position

-- "A filled span begins no earlier than the previous row's position (0 at first) and ends no later than its own"
abbrev pub FilledSpan : ℕ → ℕ → ℕ → ℕ → Type 0
FilledSpan previous own from len = 0 < len → (previous ≤ from) × (from + len ≤ own)

pub record FilledSpans (p : Place) (r : Row) : Type 0 where
  pub prefix : FilledSpan p.position r.position r.prefix_start r.prefix_len
  pub local : FilledSpan p.position r.position r.local_start r.local_len
  pub value : FilledSpan p.position r.position r.value_start r.value_len

-- "the start of a local name obeys this even if the name is empty"
abbrev pub LocalStart : Place → Row → Type 0
LocalStart p r = uses_name r.kind ≡ true → (p.position ≤ r.local_start) × (r.local_start ≤ r.position)

-- the place of the last `<` before a place, or 0 where there is none
unfoldable pub last_lt : List ℕ → ℕ → ℕ
last_lt body zero = zero
last_lt body (suc i) = let before = last_lt body i in pick (eqb (get_or body i 0) less_than) i before

-- where a tag begins: the last `<` before its local name
abbrev pub begin_of : List ℕ → Row → ℕ
begin_of body r = last_lt body r.local_start

-- "In kinds 1 and 4 the last `<` before the local name stands no earlier than the previous position, and before a filled prefix."
pub record LastLt (body : List ℕ) (p : Place) (r : Row) : Type 0 where
  pub is : get_or body (begin_of body r) 0 ≡ less_than
  pub before : begin_of body r < r.local_start
  pub late : p.position ≤ begin_of body r
  pub prefix : 0 < r.prefix_len → begin_of body r < r.prefix_start

abbrev pub TagBegins : List ℕ → Place → Row → Type 0
TagBegins body p r = is_tag r.kind ≡ true → LastLt body p r

-- the byte so many places before the row's own position
abbrev pub EndsIn : List ℕ → Row → ℕ → ℕ → Type 0
EndsIn body r back b = (back ≤ r.position) × (get_or body (r.position - back) 0 ≡ b)

-- "Kinds 3 and 4 end in `>`, kind 5 in `/>`."
pub record Ending (body : List ℕ) (r : Row) : Type 0 where
  pub gt : ends_in_gt r.kind ≡ true → EndsIn body r 1 greater_than
  pub slash : r.kind ≡ 5 → EndsIn body r 2 solidus

-- "After a start only 2, then 3 or 5, or 8, or the table's end (a body cut inside a tag). Kinds 2, 3, 5 come nowhere else."
pub record TagOrder (p : Place) (r : Row) : Type 0 where
  pub inside : p.in_tag ≡ true → may_be_in_tag r.kind ≡ true
  pub outside : p.in_tag ≡ false → in_tag_only r.kind ≡ false

-- "Kinds 4 and 6 need an open element."
abbrev pub NeedsOpen : Place → Row → Type 0
NeedsOpen p r = needs_element r.kind ≡ true → 0 < p.nesting

-- "Once the root has closed, only 7 and 8."
abbrev pub AfterRoot : Place → Row → Type 0
AfterRoot p r = p.rooted ≡ true → p.nesting ≡ 0 → may_follow_root r.kind ≡ true

-- "Kind 8 is last."
abbrev pub ErrorLast : Row → List Row → Type 0
ErrorLast r rest = r.kind ≡ 8 → length rest ≡ 0

-- "at most .. 256 open elements (each is open from its kind 1 row, one that ends in `/>` too)"
abbrev pub OpenLimit : Place → Row → Type 0
OpenLimit p r = r.kind ≡ 1 → p.nesting < most_open

pub record RowRules (body : List ℕ) (p : Place) (r : Row) (rest : List Row) : Type 0 where
  pub known_kind : KnownKind r
  pub zero_fields : ZeroFields r
  pub position_rises : PositionRises p r
  pub filled_spans : FilledSpans p r
  pub local_start : LocalStart p r
  pub tag_begins : TagBegins body p r
  pub ending : Ending body r
  pub tag_order : TagOrder p r
  pub needs_open : NeedsOpen p r
  pub after_root : AfterRoot p r
  pub error_last : ErrorLast r rest
  pub open_limit : OpenLimit p r

-- each row obeys them
pub data EachRow (body : List ℕ) : Place → List Row → Type 0 where
  none : {p : Place} → EachRow body p []
  row : {p : Place} {r : Row} {rest : List Row} → RowRules body p r rest → EachRow body (after p r) rest → EachRow body p (r ∷ rest)

-- ---- the rules of a table
-- the position of the last row, or p
abbrev pub last_position : ℕ → List Row → ℕ
last_position p [] = p
last_position p (r ∷ rest) = last_position r.position rest

-- rows with their body and their final position
pub record Rules (body : List ℕ) (rows : List Row) (final : ℕ) : Type 0 where
  -- "at most 8,192 rows, 65,536 body bytes"
  pub few_rows : length rows ≤ most_rows
  pub few_bytes : length body ≤ most_bytes
  -- "A body that is not UTF-8 has no rows"
  pub utf8 : 0 < length rows → is_utf8 body ≡ true
  -- "Positions .. end at or before the final position, which is at most the body length."
  pub ends : last_position 0 rows ≤ final
  pub within : final ≤ length body
  pub each : EachRow body at_first rows

-- a flat table: "The length divides by 8"
pub record TableRules (body table : List ℕ) (final : ℕ) : Type 0 where
  pub whole : length table % 8 ≡ 0
  pub rules : Rules body (rows_of table) final
