-- The children of a root: what is written of them, and what is kept of them for the groups.
use Rattle.std.specs.Prelude.{ℕ, ◌+◌, ◌≤◌, ◌≡◌, List, [], ◌∷◌, ◌++◌, Result, Ok, Err, length, take}
use Rattle.std.proofs.Math.Option.{Option, none, some}
use Rattle.lists.specs.Every.{Every}
use Rattle.refusal.specs.declared.Refusal.{Refusal}
use Rattle.document.specs.declared.part.Piece.{Piece}
use Rattle.document.specs.Scope.{Child, children_of, piece_of}
use Rattle.sheet.specs.Sheet.{Structure}
use Rattle.sheet.specs.Names.{Indexed}
use Rattle.readings.specs.Plan.{one_by_one}
use Rattle.readings.specs.Structure.{member_plan, child_plan, flat_member, group_of, has_group}
use Rattle.decode.specs.declared.view.View.{View as Seen}
use Rattle.decode.specs.declared.element.Element.{Element}
use Rattle.decode.specs.View.{view_of}
use Rattle.decode.specs.Element.{child_of}
use Rattle.output.specs.declared.Output.{Output}
use Rattle.output.specs.declared.kept.Kept.{Kept}
use Rattle.output.specs.Kept.{is_kept, flat, InBody, Inside}
use Rattle.output.specs.Held.{Does, done}
use Rattle.opening.specs.Opening.{body_of}

-- ---- what is kept of a root: the pieces of its groups, each in the body
pub record KeepsAll (root : Element) (s : Structure) (kept : List Kept) : Type 0 where
  pub flat : (i : ℕ) → flat (body_of root) kept i ≡ group_of (body_of root) (view_of root.view) s (children_of (child_of root)) i
  pub has : (i : ℕ) → is_kept kept i ≡ has_group s i (children_of (child_of root))
  pub inside : Inside (body_of root) kept
  pub few : length kept ≤ 4096

-- ---- an answer that tells how many are kept
-- where it is given, the fact about the number
abbrev pub Counted : Result ℕ Refusal → (ℕ → Type 0) → Type 0
Counted (Ok n) P = P n
Counted (Err r) P = Unit {0}

-- ---- one child of a view, of a member
-- a piece that waits for a member's group
abbrev pub waiting : Option ℕ → Piece → List Kept
waiting none p = []
waiting (some i) p = record { member = i; piece = p } ∷ []

-- of a child, by its member
abbrev pub kept_of : Seen → Child → Option Indexed → List Kept
kept_of v c m = waiting (flat_member m) (piece_of v.table.body.now (view_of v) c)

-- the first n of `l'` are the first `count` of `l`, and the child if it is kept
pub record KeptMore (v : Seen) (c : Child) (m : Option Indexed) (l : List Kept) (count : ℕ) (l' : List Kept) (n : ℕ) : Type 0 where
  pub is : take n l' ≡ take count l ++ kept_of v c m
  pub inside : Every (InBody v.table.body.now) (kept_of v c m)
  pub few : n ≤ count + 1

-- and its plan is done
pub record Taken (v : Seen) (c : Child) (m : Option Indexed) (l : List Kept) (count : ℕ) (l' : List Kept) (b b' : Output)
    (r : Result ℕ Refusal) : Type 0 where
  pub does : Does (member_plan v.table.body.now (view_of v) c m) b b' (done r)
  pub keeps : Counted r (KeptMore v c m l count l')

-- ---- all of them
-- the first n of `l` are what is kept
pub record AllKept (root : Element) (s : Structure) (l : List Kept) (n : ℕ) : Type 0 where
  pub room : n ≤ length l
  pub all : KeepsAll root s (take n l)

-- and their plans are done, one after another
pub record ChildrenTaken (root : Element) (s : Structure) (l : List Kept) (b b' : Output) (r : Result ℕ Refusal) : Type 0 where
  pub does : Does (one_by_one (child_plan (body_of root) (view_of root.view) s) (children_of (child_of root))) b b' (done r)
  pub keeps : Counted r (AllKept root s l)
