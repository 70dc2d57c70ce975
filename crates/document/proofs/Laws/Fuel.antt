-- The loop over the children of a scope does not depend on its fuel: more than there are tokens is enough. What follows from that is all
-- that a proof about code needs of the fuel: the equation of one turn.
use Prim.Native.Nat.{ℕ, zero, suc, ◌≤◌, ◌<◌}
use mathlib.Core.Path.{◌≡◌, refl}
use native.Mathlib.Omega.{arith}
use lib.ListN.{length}
use Rattle.lists.proofs.Tests.{pick_all}
use Rattle.document.specs.Reader.{Reader, Scope, Past, blank, Next}
use Rattle.document.specs.Scope.{Child, scope_of, skip_from, shut, Level, done, on_next, next_from, level, level_in, end_of, dropping}
use Rattle.document.specs.Scope.{leave, after_children, level_from}
use Rattle.document.proofs.Laws.Onward.{GoneOn, still, gone_on_on, skip_goes_on, Leaves, leaves_found, leaves_none, next_leaves}

-- ---- the loop over children does not depend on its fuel
-- what is said of the reader after a child: it has no more tokens left than the child's content had
abbrev pub Shortens : (Child → Reader) → Type 0
Shortens past = (c : Child) → length (past c).rest ≤ length c.inner.rest

on_next_same : (past : Child → Reader) → Shortens past → (f g : Reader → Level) {from : Reader} {x : Next} → Leaves from x
    → ((r : Reader) → length r.rest < length from.rest → f r ≡ g r) → on_next past f x ≡ on_next past g x
on_next_same past short f g (leaves_none p h) same = refl
on_next_same past short f g (leaves_found {el = el} r h i) same =
    let c : Child = record { start = el; inner = r } in
    rw (same (past c) (omega (arith, short c, i)))

-- more fuel than tokens is enough
pub level_fuel : (past : Child → Reader) → Shortens past → (f g : ℕ) (s : Scope) (r : Reader) → length r.rest < f → length r.rest < g
    → level f past s r ≡ level g past s r
unfolding level
level_fuel past short zero g s r h i = absurd (omega (arith, h))
level_fuel past short (suc f) zero s r h i = absurd (omega (arith, i))
level_fuel past short (suc f) (suc g) s r h i =
    on_next_same past short (level f past s) (level g past s) {from = r} (next_leaves s blank r.depth r.row r.rest)
    (λ q j. level_fuel past short f g s q (omega (arith, h, j)) (omega (arith, i, j)))

-- one turn of the loop
pub level_step : (past : Child → Reader) → Shortens past → (s : Scope) (r : Reader)
    → level_from past s r ≡ on_next past (level_from past s) (next_from s r)
unfolding level
level_step past short s r =
    on_next_same past short (level (length r.rest) past s) (level_from past s) {from = r}
    (next_leaves s blank r.depth r.row r.rest)
    (λ q j. level_fuel past short (length r.rest) (suc (length q.rest)) s q j (omega arith))

-- ---- where the reader stands after a child that is dropped, and after one whose children were asked for
-- past goes on from the child's content
abbrev pub GoesOn : (Child → Reader) → Type 0
GoesOn past = (c : Child) → GoneOn c.inner (past c)

pub dropping_goes_on : GoesOn dropping
dropping_goes_on c =
    pick_all (λ p. GoneOn c.inner p.reader) c.start.closed (shut c.inner) (skip_from (scope_of c.start) c.inner)
    (still c.inner) (skip_goes_on (scope_of c.start) c.inner.depth c.inner.row c.inner.rest)

on_next_goes_on : (past : Child → Reader) → GoesOn past → (more : Reader → Level) → ((r : Reader) → GoneOn r (end_of (more r)).reader)
    → {from : Reader} {x : Next} → Leaves from x
    → GoneOn from (end_of (on_next past more x)).reader
unfolding end_of
on_next_goes_on past on more f (leaves_none p g) = g
on_next_goes_on past on more f (leaves_found {el = el} r g h) =
    let c : Child = record { start = el; inner = r } in
    gone_on_on g (gone_on_on (on c) (f (past c)))

-- the reader at the end of a level
pub level_goes_on : (past : Child → Reader) → GoesOn past → (f : ℕ) (s : Scope) (r : Reader) → GoneOn r (end_of (level f past s r)).reader
unfolding level end_of
level_goes_on past on zero s r = still r
level_goes_on past on (suc f) s r =
    on_next_goes_on past on (level f past s) (level_goes_on past on f s) (next_leaves s blank r.depth r.row r.rest)

pub after_children_goes_on : GoesOn after_children
unfolding after_children
after_children_goes_on c = left (end_of (level_in dropping c)) ended
  where
    own : Scope
    own = scope_of c.start

    -- the children of the element, or none of one that ended in `/>`
    ended : GoneOn c.inner (end_of (level_in dropping c)).reader
    ended =
        pick_all (λ l. GoneOn c.inner (end_of l).reader) c.start.closed (done (shut c.inner))
        (level (suc (length c.inner.rest)) dropping own c.inner)
        (still c.inner) (level_goes_on dropping dropping_goes_on (suc (length c.inner.rest)) own c.inner)

    -- and then the rest of its scope
    left : (p : Past) → GoneOn c.inner p.reader → GoneOn c.inner (leave c p)
    left p g =
        pick_all (λ r. GoneOn c.inner r) p.ended p.reader (skip_from own p.reader).reader g
        (gone_on_on g (skip_goes_on own p.reader.depth p.reader.row p.reader.rest))

pub dropping_shortens : Shortens dropping
dropping_shortens c = (dropping_goes_on c).short
