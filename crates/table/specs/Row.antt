-- Rows of a token table (01, "Token table"), and the token that a row stands for.
use Rattle.std.specs.Prelude.{ℕ, zero, suc, List, [], ◌∷◌, map, take, drop}

-- "Eight 32-bit numbers a row: kind, prefix start and length, local start and length, value start and length, stream position after
-- the token"
pub record Row : Type 0 where
  pub kind : ℕ
  pub prefix_start : ℕ
  pub prefix_len : ℕ
  pub local_start : ℕ
  pub local_len : ℕ
  pub value_start : ℕ
  pub value_len : ℕ
  pub position : ℕ

-- the rows of a flat table; what is left over at the end, fewer than eight numbers, is no row
unfoldable pub rows_of : List ℕ → List Row
rows_of [] = []
rows_of (a ∷ []) = []
rows_of (a ∷ b ∷ []) = []
rows_of (a ∷ b ∷ c ∷ []) = []
rows_of (a ∷ b ∷ c ∷ d ∷ []) = []
rows_of (a ∷ b ∷ c ∷ d ∷ e ∷ []) = []
rows_of (a ∷ b ∷ c ∷ d ∷ e ∷ f ∷ []) = []
rows_of (a ∷ b ∷ c ∷ d ∷ e ∷ f ∷ g ∷ []) = []
rows_of (a ∷ b ∷ c ∷ d ∷ e ∷ f ∷ g ∷ h ∷ l) =
    record {
      kind = a;
      prefix_start = b;
      prefix_len = c;
      local_start = d;
      local_len = e;
      value_start = f;
      value_len = g;
      position = h;
    } ∷ rows_of l

-- the flat table of some rows: eight numbers a row
unfoldable pub table_of : List Row → List ℕ
table_of [] = []
table_of (r ∷ rows) =
    r.kind ∷ r.prefix_start ∷ r.prefix_len ∷ r.local_start ∷ r.local_len ∷ r.value_start ∷ r.value_len ∷ r.position ∷ table_of rows

-- the bytes of a span
abbrev pub cut : List ℕ → ℕ → ℕ → List ℕ
cut body from len = take len (drop from body)

-- a name: its prefix and its local name
pub record Name : Type 0 where
  pub prefix : List ℕ
  pub local : List ℕ

abbrev pub name_of : List ℕ → Row → Name
name_of body r = record { prefix = cut body r.prefix_start r.prefix_len; local = cut body r.local_start r.local_len }

abbrev pub value_of : List ℕ → Row → List ℕ
value_of body r = cut body r.value_start r.value_len

-- what stands between tags and leaves the elements as they are: "6 text, 7 all others"
pub data Matter : Type 0 where
  text : List ℕ → Matter
  misc : Matter

-- the bytes of it in which references stand
abbrev pub references_in : Matter → List ℕ
references_in (text v) = v
references_in misc = []

-- what a row stands for, with its bytes: "Kinds: 1 start, 2 attribute, 3 `>`, 4 close tag, 5 `/>`, 6 text, 7 all others, 8 token error."
pub data Tok : Type 0 where
  start : Name → Tok
  attr : Name → List ℕ → Tok
  gt : Tok
  close : Name → Tok
  slash : Tok
  matter : Matter → Tok
  bad : Tok

-- what a token does to the elements: it opens one of a name, closes the innermost, or leaves them as they are
pub data Move : Type 0 where
  enters : Name → Move
  leaves : Move
  stays : Move

abbrev pub move_of : Tok → Move
move_of (start n) = enters n
move_of (attr m v) = stays
move_of gt = stays
move_of (close m) = leaves
move_of slash = leaves
move_of (matter b) = stays
move_of bad = stays

-- by the number of its kind; a number that is no kind stands for a token error
unfoldable pub tok_as : ℕ → Name → List ℕ → Tok
tok_as zero n v = bad
tok_as (suc zero) n v = start n
tok_as (suc (suc zero)) n v = attr n v
tok_as (suc (suc (suc zero))) n v = gt
tok_as (suc (suc (suc (suc zero)))) n v = close n
tok_as (suc (suc (suc (suc (suc zero))))) n v = slash
tok_as (suc (suc (suc (suc (suc (suc zero)))))) n v = matter (text v)
tok_as (suc (suc (suc (suc (suc (suc (suc zero))))))) n v = matter misc
tok_as (suc (suc (suc (suc (suc (suc (suc (suc k)))))))) n v = bad

abbrev pub tok_of : List ℕ → Row → Tok
tok_of body r = tok_as r.kind (name_of body r) (value_of body r)

abbrev pub toks_of : List ℕ → List Row → List Tok
toks_of body rows = map (tok_of body) rows
