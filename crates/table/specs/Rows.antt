-- The rows of a flat table by number: what row k stands for, and rows that can be read.
use Rattle.std.specs.Prelude.{ℕ, ◌+◌, ◌*◌, ◌%◌, ◌≤◌, ◌≡◌, true, List, length}
use Rattle.lists.specs.Decide.{is_yes}
use Rattle.table.specs.Row.{Row, Name, Tok, name_of, value_of, tok_of, rows_of}
use Rattle.table.specs.Rules.{Place, RowRules, EachRow, at_first}
use Rattle.table.specs.Flat.{row_at, SpansIn}
use Rattle.table.specs.Test.{dec_table}

-- the name, the value and the token of row k
abbrev pub name_at : List ℕ → List ℕ → ℕ → Name
name_at body t k = name_of body (row_at t k)

abbrev pub value_at : List ℕ → List ℕ → ℕ → List ℕ
value_at body t k = value_of body (row_at t k)

abbrev pub tok_at : List ℕ → List ℕ → ℕ → Tok
tok_at body t k = tok_of body (row_at t k)

-- row k is a row of the table
pub record InTable (t : List ℕ) (k : ℕ) : Type 0 where
  pub row : k * 8 + 8 ≤ length t

-- the spans of each row lie in the body
pub record Readable (body t : List ℕ) : Type 0 where
  pub each : (k : ℕ) → k * 8 + 8 ≤ length t → SpansIn body t k

-- row k obeys the rules of a row, where it stands
pub record RulesAt (body t : List ℕ) (k : ℕ) : Type 0 where
  pub place : Place
  pub rest : List Row
  pub rules : RowRules body place (row_at t k) rest

-- whole rows, each of which obeys its rules where it stands
pub record Walkable (body t : List ℕ) : Type 0 where
  pub whole : length t % 8 ≡ 0
  pub each : EachRow body at_first (rows_of t)
  pub readable : Readable body t

-- a table obeys the rules, as the test of them computes: an equation of flags, so that there is one proof of it at most
pub record Obeys (body t : List ℕ) (final : ℕ) : Type 0 where
  pub is : is_yes (dec_table body t final) ≡ true
