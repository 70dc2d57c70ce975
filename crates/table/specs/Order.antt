-- The rules on the order of kinds as the code tests them, and the place after a row.
use Rattle.std.specs.Prelude.{ℕ, ◌≤◌, ◌<◌, ◌≡◌, Bool, true, false, eqb}
use Rattle.lists.specs.Tests.{pick}
use Rattle.table.specs.Rules.{open_count, most_open, most_kind, ends_tag, in_tag_only, may_be_in_tag, may_follow_root, needs_element, Place}

-- ---- start tags
pub record InOrder (in_tag : Bool) (kind : ℕ) : Type 0 where
  pub inside : in_tag ≡ true → may_be_in_tag kind ≡ true
  pub outside : in_tag ≡ false → in_tag_only kind ≡ false

-- ---- open elements
pub record OpenOrder (nesting : ℕ) (rooted : Bool) (kind : ℕ) : Type 0 where
  pub needs : needs_element kind ≡ true → 0 < nesting
  pub root : rooted ≡ true → nesting ≡ 0 → may_follow_root kind ≡ true
  pub limit : kind ≡ 1 → nesting < most_open

-- ---- all of them, with so many rows left
pub record Order (in_tag : Bool) (nesting : ℕ) (rooted : Bool) (kind left : ℕ) : Type 0 where
  pub low : 1 ≤ kind
  pub high : kind ≤ most_kind
  pub tag : InOrder in_tag kind
  pub count : OpenOrder nesting rooted kind
  pub last : kind ≡ 8 → left ≡ 0

-- ---- the place after a row
-- `after` by the row's kind and position
abbrev pub step_to : Place → ℕ → ℕ → Place
step_to p kind own =
    record {
      position = own;
      in_tag = pick (eqb kind 1) true (pick (ends_tag kind) false p.in_tag);
      nesting = open_count p.nesting kind;
      rooted = pick (eqb kind 1) true p.rooted;
    }
