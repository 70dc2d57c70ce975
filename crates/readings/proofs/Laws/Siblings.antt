-- The pieces of the children of an element follow one another in the body: those of one group together are no longer than the body.
use Prim.Native.Nat.{ℕ, zero, suc, ◌+◌, ◌≤◌}
use mathlib.Core.Path.{◌≡◌, refl, sym}
use mathlib.Core.Bool.{Bool, true, false}
use mathlib.Core.List.{List, [], ◌∷◌, ◌++◌}
use native.Mathlib.Omega.{arith}
use lib.ListN.{length, take, drop, length-take, length-append}
use Rattle.lists.specs.Bytes.{ascii}
use Rattle.lists.specs.Tests.{pick}
use Rattle.lists.proofs.Tests.{pick_all, pick_cases, false_true}
use Rattle.table.specs.Row.{Row, cut, toks_of}
use Rattle.table.specs.Rules.{Place, after, EachRow, none, row, last_position}
use Rattle.table.proofs.Moved.{last_taken}
use Rattle.table.proofs.Element.{each_take}
use Rattle.document.specs.View.{View}
use Rattle.document.specs.Reader.{Reader, Scope, Next}
use Rattle.document.specs.Scope.{Child, scope_of, skip_from, shut, done, on_next, level, children, children_of, dropped, dropping, piece_of}
use Rattle.document.proofs.Laws.Onward.{skip_leaves_none}
use Rattle.document.proofs.Laws.Fuel.{dropping_goes_on, dropping_shortens}
use Rattle.document.proofs.Laws.Placed.{Outside, Placed, Meets, meets_child, meets_none, next_meets, dropping_outward}
use Rattle.document.proofs.Laws.Inside.{ViewIn, piece_since, piece_ends}
use Rattle.document.proofs.Laws.Short.{few_children}
use Rattle.sheet.specs.Sheet.{Structure}
use Rattle.readings.specs.Structure.{in_group, siblings, group_of}

-- positions never fall from one front of the rows to a longer one
last_rises : {body : List ℕ} {p : Place} {rows : List Row} → EachRow body p rows → (k m : ℕ) → k ≤ m
    → last_position p.position (take k rows) ≤ last_position p.position (take m rows)
last_rises {body = body} {p = p} e zero m h = last_taken e m
last_rises {body = body} {p = p} e (suc k) zero h = absurd (omega (arith, h))
last_rises {body = body} {p = p} none (suc k) (suc m) h = omega arith
last_rises {body = body} {p = p} (row {r = r} {rest = rest} o t) (suc k) (suc m) h =
    last_rises {body = body} {p = after p r} t k m (omega (arith, h))

-- a child that is dropped without its end leaves no token
dropped_leaves_none : (c : Child) → (dropped c).ended ≡ false → length (dropped c).reader.rest ≡ 0
dropped_leaves_none c e = go c.start.closed e
  where
    go : (b : Bool) → (pick b (shut c.inner) (skip_from (scope_of c.start) c.inner)).ended ≡ false
        → length (pick b (shut c.inner) (skip_from (scope_of c.start) c.inner)).reader.rest ≡ 0
    go true e = false_true (sym e)
    go false e = skip_leaves_none (scope_of c.start) c.inner.depth c.inner.row c.inner.rest e

-- a group: its siblings, and 17 bytes around them
pub group_length : (body : List ℕ) (v : View) (s : Structure) (l : List Child) (i : ℕ)
    → length (group_of body v s l i) ≡ length (siblings body v s i l) + 17
unfolding group_of
group_length body v s l i =
    let x = siblings body v s i l in
    let front : length (ascii "<__flat>") ≡ 8 = refl in
    let back : length (ascii "</__flat>") ≡ 9 = refl in
    omega (
      arith,
      length-append (ascii "<__flat>") (x ++ ascii "</__flat>"),
      length-append x (ascii "</__flat>"),
      front,
      back,
    )

module _ {body : List ℕ} {rows : List Row} {final : ℕ} {v : View} (w : ViewIn body rows final v) (s : Structure) (i : ℕ) where
  -- where the rows before row k end
  abbrev up_to : ℕ → ℕ
  up_to k = last_position 0 (take k v.rows)

  -- how many bytes the siblings among some children have
  abbrev size : List Child → ℕ
  size l = length (siblings body v s i l)

  no_size : (l : List Child) → length l ≤ 0 → size l ≡ 0
  unfolding siblings
  no_size [] h = refl
  no_size (c ∷ l) h = absurd (omega (arith, h))

  -- one more child, met from row k on, before others that are met after it
  one_more : (c : Child) → Placed (toks_of body v.rows) c → (k : ℕ) → k ≤ c.start.row → (more : List Child)
      → length more ≤ length (dropping c).rest
      → size more + up_to (dropping c).row ≤ v.ends → size (c ∷ more) + up_to k ≤ v.ends
  unfolding siblings
  one_more c m k h more few ih =
      pick_cases (λ (x : List ℕ). length x + up_to k ≤ v.ends) (in_group s i c)
      (cut body (piece_of body v c).start (piece_of body v c).len ++ siblings body v s i more) (siblings body v s i more)
      (λ e. inside (dropped c).ended refl (piece_ends w c m)) (λ e. omega (arith, ih, rises, goes))
    where
      rises : up_to k ≤ up_to c.start.row
      rises = last_rises w.each k c.start.row h

      goes : up_to c.start.row ≤ up_to (dropping c).row
      goes = let g = dropping_goes_on c in
          last_rises w.each c.start.row (dropping c).row (omega (arith, g.short, g.rows, m.begun.before))

      taken : length (cut body (piece_of body v c).start (piece_of body v c).len) ≤ (piece_of body v c).len
      taken = omega (arith, length-take (piece_of body v c).len (drop (piece_of body v c).start body))

      joined : length (cut body (piece_of body v c).start (piece_of body v c).len ++ siblings body v s i more) ≡ length
          (cut body (piece_of body v c).start (piece_of body v c).len) + size more
      joined = length-append (cut body (piece_of body v c).start (piece_of body v c).len) (siblings body v s i more)

      inside : (b : Bool) → (dropped c).ended ≡ b
          → (piece_of body v c).start + (piece_of body v c).len ≡ pick b (up_to (dropping c).row) v.ends
          → length (cut body (piece_of body v c).start (piece_of body v c).len ++ siblings body v s i more) + up_to k ≤ v.ends
      inside true e p = omega (arith, joined, taken, p, ih, rises, piece_since w c m)
      inside false e p = omega (
        arith,
        joined,
        taken,
        p,
        rises,
        piece_since w c m,
        no_size more (omega (arith, few, dropped_leaves_none c e)),
      )

  before_end : (k : ℕ) → up_to k ≤ v.ends
  before_end k = omega (arith, each_take k w.each, w.last)

  level_size : (f : ℕ) (sc : Scope) (r : Reader) → Outside (toks_of body v.rows) r
      → size (children (level f dropping sc r)) + up_to r.row ≤ v.ends
  unfolding level children siblings
  level_size zero sc r o = omega (arith, before_end r.row)
  level_size (suc f) sc r o = go (next_meets (toks_of body v.rows) sc r o) (level_size f sc)
    where
      go : {x : Next} → Meets (toks_of body v.rows) r.row x
          → ((q : Reader) → Outside (toks_of body v.rows) q → size (children (level f dropping sc q)) + up_to q.row ≤ v.ends)
          → size (children (on_next dropping (level f dropping sc) x)) + up_to r.row ≤ v.ends
      go (meets_child {el = el} {r = q} p h) ih =
          let c : Child = record { start = el; inner = q } in
          one_more c p r.row h (children (level f dropping sc (dropping c))) (few_children dropping dropping_shortens f sc (dropping c))
          (ih (dropping c) (dropping_outward (toks_of body v.rows) c p.inner))
      go (meets_none l) ih = omega (arith, before_end r.row)

  pub siblings_short : (c : Child) → Placed (toks_of body v.rows) c → size (children_of c) ≤ length body
  unfolding children_of children siblings
  siblings_short c p =
      let inside = level_size (suc (length c.inner.rest)) (scope_of c.start) c.inner p.inner in
      pick_all (λ l. size (children l) ≤ length body) c.start.closed (done (shut c.inner))
      (level (suc (length c.inner.rest)) dropping (scope_of c.start) c.inner)
      (omega arith) (omega (arith, inside, w.ends, w.within))

  pub group_short : (c : Child) → Placed (toks_of body v.rows) c → length (group_of body v s (children_of c) i) ≤ length body + 17
  group_short c p = omega (arith, group_length body v s (children_of c) i, siblings_short c p)
