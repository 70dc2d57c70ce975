-- The children that are kept are the siblings of the definition (readings/specs/Structure.antt): what a loop over children carries.
use Prim.Native.Nat.{ℕ}
use mathlib.Core.Path.{◌≡◌, refl, sym, ◌∙◌, ap}
use mathlib.Core.Bool.{Bool, true, false}
use mathlib.Core.List.{List, [], ◌∷◌, ◌++◌, append_assoc, append-nil}
use mathlib.Core.Option.{none as nobody, some}
use lib.Dec.{eqb}
use Rattle.std.specs.Prelude.{◌||◌}
use Rattle.lists.specs.Tests.{pick}
use Rattle.lists.specs.Every.{Every, none, and}
use Rattle.table.specs.Row.{cut}
use Rattle.document.specs.declared.part.Piece.{Piece}
use Rattle.document.specs.View.{View}
use Rattle.document.specs.Scope.{Child, piece_of}
use Rattle.sheet.specs.Sheet.{Structure}
use Rattle.sheet.specs.Names.{resolve}
use Rattle.readings.specs.Structure.{flat_member, in_group, siblings, group_of, has_group}
use Rattle.output.specs.declared.kept.Kept.{Kept}
use Rattle.output.specs.Kept.{kept_for, is_kept, bytes_of, kept_bytes, flat, InBody, Inside}

-- ---- one child more
kept_append : (i : ℕ) (l m : List Kept) → kept_for i (l ++ m) ≡ kept_for i l ++ kept_for i m
unfolding kept_for
kept_append i [] m = refl
kept_append i (x ∷ l) m = by (eqb x.member i) (kept_append i l m)
  where
    by : (f : Bool) → kept_for i (l ++ m) ≡ kept_for i l ++ kept_for i m
        → pick f (x.piece ∷ kept_for i (l ++ m)) (kept_for i (l ++ m)) ≡ pick f (x.piece ∷ kept_for i l) (kept_for i l) ++ kept_for i m
    by true ih = ap (λ (r : List Piece). x.piece ∷ r) ih
    by false ih = ih

bytes_append : (body : List ℕ) (l m : List Piece) → bytes_of body (l ++ m) ≡ bytes_of body l ++ bytes_of body m
unfolding bytes_of
bytes_append body [] m = refl
bytes_append body (p ∷ l) m =
    ap (λ (r : List ℕ). cut body p.start p.len ++ r) (bytes_append body l m)
    ∙ sym (append_assoc (cut body p.start p.len) (bytes_of body l) (bytes_of body m))

kept_bytes_append : (body : List ℕ) (l m : List Kept) (i : ℕ) → kept_bytes body (l ++ m) i ≡ kept_bytes body l i ++ kept_bytes body m i
unfolding kept_bytes
kept_bytes_append body l m i = ap (bytes_of body) (kept_append i l m) ∙ bytes_append body (kept_for i l) (kept_for i m)

kept_bytes_one : (body : List ℕ) (k : Kept) (i : ℕ) (rest : List ℕ)
    → kept_bytes body (k ∷ []) i ++ rest ≡ pick (eqb k.member i) (cut body k.piece.start k.piece.len ++ rest) rest
unfolding kept_bytes kept_for bytes_of
kept_bytes_one body k i rest = by (eqb k.member i)
  where
    by : (f : Bool) → bytes_of body (pick f (k.piece ∷ []) []) ++ rest ≡ pick f (cut body k.piece.start k.piece.len ++ rest) rest
    by true = ap (λ (r : List ℕ). r ++ rest) (append-nil (cut body k.piece.start k.piece.len))
    by false = refl

more_has : (l : List Kept) (k : Kept) (i : ℕ) (h : Bool)
    → pick (is_kept (l ++ k ∷ []) i) true h ≡ pick (is_kept l i) true (pick (eqb k.member i) true h)
unfolding is_kept
more_has [] k i h = by (eqb k.member i)
  where
    by : (f : Bool) → pick (f || false) true h ≡ pick f true h
    by true = refl
    by false = refl
more_has (x ∷ l) k i h = by (eqb x.member i) (more_has l k i h)
  where
    by : (f : Bool) → pick (is_kept (l ++ k ∷ []) i) true h ≡ pick (is_kept l i) true (pick (eqb k.member i) true h)
        → pick (f || is_kept (l ++ k ∷ []) i) true h ≡ pick (f || is_kept l i) true (pick (eqb k.member i) true h)
    by true ih = refl
    by false ih = ih

inside_append : {body : List ℕ} {l : List Kept} {k : Kept} → Every (InBody body) l → InBody body k → Every (InBody body) (l ++ k ∷ [])
inside_append none p = and p none
inside_append (and q e) p = and q (inside_append e p)

-- ---- after some of the children: those kept so far, with those that are left, are those of all children
pub record KeepsSiblings (body : List ℕ) (v : View) (s : Structure) (l : List Kept) (left all : List Child) : Type 0 where
  pub bytes : (i : ℕ) → kept_bytes body l i ++ siblings body v s i left ≡ siblings body v s i all
  pub has : (i : ℕ) → pick (is_kept l i) true (has_group s i left) ≡ has_group s i all
  pub inside : Inside body l

pub keeps_start : (body : List ℕ) (v : View) (s : Structure) (all : List Child) → KeepsSiblings body v s [] all all
unfolding kept_bytes is_kept kept_for bytes_of
keeps_start body v s all = record { bytes = λ i. refl; has = λ i. refl; inside = record { each = none } }

module _ {body : List ℕ} {v : View} {s : Structure} {l : List Kept} {c : Child} {left all : List Child}
    (q : KeepsSiblings body v s l (c ∷ left) all) where
  -- a child that is not kept
  pub keeps_other : flat_member (resolve s c.start.name.local) ≡ nobody → KeepsSiblings body v s l left all
  unfolding siblings has_group in_group
  keeps_other e = record { bytes = λ i. rw e at (q.bytes i); has = λ i. rw e at (q.has i); inside = q.inside }

  -- a child that is kept
  pub keeps_more : {k : Kept} → flat_member (resolve s c.start.name.local) ≡ some k.member → piece_of body v c ≡ k.piece → InBody body k
      → KeepsSiblings body v s (l ++ k ∷ []) left all
  unfolding siblings has_group in_group
  keeps_more {k} e w g =
      record {
        bytes = λ i.
            (let rest = siblings body v s i left in
            ap (λ (r : List ℕ). r ++ rest) (kept_bytes_append body l (k ∷ []) i)
            ∙ append_assoc (kept_bytes body l i) (kept_bytes body (k ∷ []) i) rest
            ∙ ap (λ (r : List ℕ). kept_bytes body l i ++ r) (kept_bytes_one body k i rest)
            ∙ ap (λ (p : Piece). kept_bytes body l i ++ pick (eqb k.member i) (cut body p.start p.len ++ rest) rest) (sym w)
            ∙ rw e at (q.bytes i));
        has = λ i. more_has l k i (has_group s i left) ∙ rw e at (q.has i);
        inside = record { each = inside_append q.inside.each g };
      }

-- ---- after all of them
module _ {body : List ℕ} {v : View} {s : Structure} {l : List Kept} {all : List Child} (q : KeepsSiblings body v s l [] all) (i : ℕ) where
  keeps_bytes : kept_bytes body l i ≡ siblings body v s i all
  unfolding siblings
  keeps_bytes = sym (append-nil (kept_bytes body l i)) ∙ q.bytes i

  pub keeps_flat : flat body l i ≡ group_of body v s all i
  unfolding flat group_of
  keeps_flat = rw keeps_bytes

  pub keeps_has : is_kept l i ≡ has_group s i all
  unfolding has_group
  keeps_has = flag (is_kept l i) (q.has i)
    where
      flag : (b : Bool) {a : Bool} → pick b true false ≡ a → b ≡ a
      flag true e = e
      flag false e = e
