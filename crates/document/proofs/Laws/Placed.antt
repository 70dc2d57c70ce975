-- The root and the children that a reader meets stand in the tokens: each has its own start in its row. So it is wherever the reader is led
-- from one child to the next outside of start tags, as it is once a child was dropped or its children were read.
use Prim.Native.Nat.{ℕ, zero, suc, ◌+◌, ◌≤◌}
use mathlib.Core.Path.{◌≡◌, refl, ◌∙◌}
use mathlib.Core.Bool.{Bool, false, true}
use mathlib.Core.List.{List, Memᴰ}
use mathlib.Core.Option.{none, some}
use native.Mathlib.Omega.{arith}
use lib.ListN.{length, drop}
use Rattle.lists.specs.Every.{Every, none, and}
use Rattle.lists.proofs.Every.{every_in}
use Rattle.lists.proofs.Tests.{pick_all, pick_cases, false_true}
use Rattle.table.specs.Row.{Tok}
use Rattle.document.specs.Reader.{Reader, fresh, Scope, document, Past, StartEl, blank, Next, found, gone}
use Rattle.document.specs.Scope.{Child, scope_of, skip_from, shut, done, on_next, next_from, level, level_in, children, children_of, end_of}
use Rattle.document.specs.Scope.{dropping, leave, after_children, on_root, root_of}
use Rattle.document.proofs.Laws.Onward.{GoneOn, still, skip_goes_on, next_goes_on, after_next}
use Rattle.document.specs.Tags.{Tags}
use Rattle.document.proofs.Laws.Tags.{skip_outside, Begun, Ends, at_start, at_none, next_ends}

-- ---- readers and children that stand in the tokens
-- a reader outside of start tags: its row and what is left of the tokens belong together
pub record Outside (all : List Tok) (r : Reader) : Type 0 where
  pub at : drop r.row all ≡ r.rest
  pub rows : r.row + length r.rest ≡ length all
  pub tags : Tags false r.rest

-- a child whose start stands in its row, before the reader at its content
pub record Placed (all : List Tok) (c : Child) : Type 0 where
  pub begun : Begun all 0 c.inner.row c.start
  pub inner : Outside all c.inner

-- the end of a level: outside of start tags if the scope's end was read
pub record Left (all : List Tok) (p : Past) : Type 0 where
  in_tag : Bool
  tags : Tags in_tag p.reader.rest
  out : p.ended ≡ true → in_tag ≡ false
  at : drop p.reader.row all ≡ p.reader.rest
  rows : p.reader.row + length p.reader.rest ≡ length all

-- past leads from a child's content to outside of start tags
abbrev pub Outward : (Child → Reader) → Type 0
Outward past = (all : List Tok) (c : Child) → Outside all c.inner → Outside all (past c)

-- what a search from outside of start tags comes to: a child that stands in the tokens, from a row on; or the end of the level
pub data Meets (all : List Tok) (from : ℕ) : Next → Type 0 where
  meets_child : {el : StartEl} {r : Reader} → Placed all (record { start = el; inner = r }) → from ≤ el.row → Meets all from (found el r)
  meets_none : {p : Past} → Left all p → Meets all from (gone p)

module _ (all : List Tok) where
  -- a reader that has gone on from another
  on_outside : {a b : Reader} → Outside all a → GoneOn a b → Tags false b.rest → Outside all b
  on_outside w g t = record { at = g.stands all w.at; rows = g.rows ∙ w.rows; tags = t }

  on_left : {a : Reader} (p : Past) {b : Bool} → Outside all a → GoneOn a p.reader → Tags b p.reader.rest
      → (p.ended ≡ true → b ≡ false) → Left all p
  on_left p {b} w g t f = record { in_tag = b; tags = t; out = f; at = g.stands all w.at; rows = g.rows ∙ w.rows }

  pub next_meets : (s : Scope) (r : Reader) → Outside all r → Meets all r.row (next_from s r)
  next_meets s r w =
      go (next_from s r) (next_ends all r.row s blank r.depth r.row r.rest (omega arith) w.at w.tags (λ e. false_true e))
      (next_goes_on s blank r.depth r.row r.rest)
    where
      go : (x : Next) → Ends all r.row x → GoneOn r (after_next x) → Meets all r.row x
      go x (at_start {el = el} b t) g =
          meets_child {el = el} (record {
            begun = record { later = b.later; at = b.at; since = omega arith; before = b.before };
            inner = on_outside w g t;
          }) b.since
      go x (at_none {p = p} t f) g = meets_none (on_left p w g t f)

  -- ---- the children of a scope
  pub level_placed : (past : Child → Reader) → Outward past → (f : ℕ) (s : Scope) (r : Reader) → Outside all r
      → Every (Placed all) (children (level f past s r))
  unfolding level children
  level_placed past out zero s r w = none
  level_placed past out (suc f) s r w = go (next_meets s r w) (level_placed past out f s)
    where
      go : {x : Next} → Meets all r.row x → ((q : Reader) → Outside all q → Every (Placed all) (children (level f past s q)))
          → Every (Placed all) (children (on_next past (level f past s) x))
      go (meets_child {el = el} {r = q} p h) ih = let c : Child = record { start = el; inner = q } in
          and p (ih (past c) (out all c p.inner))
      go (meets_none l) ih = none

  level_left : (past : Child → Reader) → Outward past → (f : ℕ) (s : Scope) (r : Reader) → Outside all r
      → Left all (end_of (level f past s r))
  unfolding level end_of
  level_left past out zero s r w = on_left _ w (still r) w.tags (λ e. refl)
  level_left past out (suc f) s r w = go (next_meets s r w) (level_left past out f s)
    where
      go : {x : Next} → Meets all r.row x → ((q : Reader) → Outside all q → Left all (end_of (level f past s q)))
          → Left all (end_of (on_next past (level f past s) x))
      go (meets_child {el = el} {r = q} p h) ih = let c : Child = record { start = el; inner = q } in ih (past c) (out all c p.inner)
      go (meets_none l) ih = l

  -- of an element
  pub level_in_placed : (past : Child → Reader) → Outward past → (c : Child) → Outside all c.inner
      → Every (Placed all) (children (level_in past c))
  unfolding children
  level_in_placed past out c w =
      pick_all (λ l. Every (Placed all) (children l)) c.start.closed (done (shut c.inner))
      (level (suc (length c.inner.rest)) past (scope_of c.start) c.inner)
      none (level_placed past out (suc (length c.inner.rest)) (scope_of c.start) c.inner w)

  level_in_left : (past : Child → Reader) → Outward past → (c : Child) → Outside all c.inner → Left all (end_of (level_in past c))
  unfolding end_of
  level_in_left past out c w =
      pick_all (λ l. Left all (end_of l)) c.start.closed (done (shut c.inner))
      (level (suc (length c.inner.rest)) past (scope_of c.start) c.inner)
      (on_left _ w (still c.inner) w.tags (λ e. refl))
      (level_left past out (suc (length c.inner.rest)) (scope_of c.start) c.inner w)

-- ---- a child that is dropped, and one whose children were read
pub dropping_outward : Outward dropping
dropping_outward all c w =
    let own = scope_of c.start in
    pick_all (λ (p : Past). Outside all p.reader) c.start.closed (shut c.inner) (skip_from own c.inner)
    w (on_outside all w (skip_goes_on own c.inner.depth c.inner.row c.inner.rest)
    (skip_outside own c.inner.depth c.inner.row w.tags))

pub after_children_outward : Outward after_children
unfolding after_children
after_children_outward all c w = left (end_of (level_in dropping c)) (level_in_left all dropping dropping_outward c w)
  where
    own : Scope
    own = scope_of c.start

    left : (p : Past) → Left all p → Outside all (leave c p)
    left p l =
        let r = p.reader in
        let g = skip_goes_on own r.depth r.row r.rest in
        pick_cases (λ (q : Reader). Outside all q) p.ended r (skip_from own r).reader
        (λ e. record { at = l.at; rows = l.rows; tags = rw (l.out e) at l.tags })
        (λ e. record { at = g.stands all l.at; rows = g.rows ∙ l.rows; tags = skip_outside own r.depth r.row l.tags })

-- ---- the children of an element, and the root
pub children_placed : (all : List Tok) (c : Child) → Placed all c → (x : Child) → Memᴰ x (children_of c) → Placed all x
unfolding children_of
children_placed all c p = every_in (level_in_placed all dropping dropping_outward c p.inner)

pub root_placed : (all : List Tok) → Tags false all → (c : Child) → root_of all ≡ some c → Placed all c
unfolding root_of
root_placed all t c e = go (next_meets all document (fresh all) (record { at = refl; rows = omega arith; tags = t })) e
  where
    go : {x : Next} → Meets all 0 x → on_root x ≡ some c → Placed all c
    go (meets_child {el = el} {r = r} p h) e = let q : record { start = el; inner = r } ≡ c = cc in rw (← q) p
    go (meets_none l) e = let z : ◌≡◌ {A = ℕ} 0 1 = cc in absurd (omega arith)
