-- What is lent to a reading, and what it is asked.
use Rattle.std.specs.Prelude.{ℕ, List}
use Rattle.sheet.specs.declared.ShapeDepth.{ShapeDepth}
use Rattle.sheet.specs.declared.Settings.{Settings}

-- a body with its token table: the rows, eight numbers each, and "beside it one final position", the end
pub record Upload : Type 0 where
  pub body : List ℕ
  pub rows : List ℕ
  pub end : ℕ

abbrev pub uploaded : List ℕ → List ℕ → ℕ → Upload
uploaded body rows end = record { body = body; rows = rows; end = end }

-- a reading by a sheet: the sheet's bytes, the settings, and the shape depth, "given with each call"
pub record Call : Type 0 where
  pub sheet : List ℕ
  pub settings : Settings
  pub depth : ShapeDepth

abbrev pub calling : List ℕ → Settings → ShapeDepth → Call
calling sheet settings depth = record { sheet = sheet; settings = settings; depth = depth }
