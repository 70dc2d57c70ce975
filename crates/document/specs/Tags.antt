-- Where start tags stand among tokens: an attribute, `>` and `/>` come only in a start tag, and nothing else but a token error
-- does.
use Rattle.std.specs.Prelude.{◌≡◌, Bool, true, false, not, List, [], ◌∷◌}
use Rattle.table.specs.Row.{Tok, start, attr, gt, close, slash, matter, bad}

-- ---- the order of tokens, as far as start tags go
-- whether a token may stand in a start tag, and outside of one
abbrev pub may_stand : Tok → Bool → Bool
may_stand (start n) in_tag = not in_tag
may_stand (attr m v) in_tag = in_tag
may_stand gt in_tag = in_tag
may_stand (close m) in_tag = not in_tag
may_stand slash in_tag = in_tag
may_stand (matter b) in_tag = not in_tag
may_stand bad in_tag = true

-- whether a start tag is not ended yet after a token
abbrev pub in_tag_after : Tok → Bool → Bool
in_tag_after (start n) in_tag = true
in_tag_after (attr m v) in_tag = in_tag
in_tag_after gt in_tag = false
in_tag_after (close m) in_tag = in_tag
in_tag_after slash in_tag = false
in_tag_after (matter b) in_tag = in_tag
in_tag_after bad in_tag = in_tag

-- each token may stand where it does, the first in a start tag or outside of one
pub data Tags : Bool → List Tok → Type 0 where
  no_token : {b : Bool} → Tags b []
  token : {b : Bool} {t : Tok} {l : List Tok} → may_stand t b ≡ true → Tags (in_tag_after t b) l → Tags b (t ∷ l)
