-- Laws of the search for the part of a body that has a name.
use Prim.Native.Nat.{ℕ, ◌+◌, ◌≤◌}
use mathlib.Core.Path.{◌≡◌, refl, sym, ◌∙◌, ap, subst}
use mathlib.Core.Bool.{Bool, true, false}
use mathlib.Core.List.{List, []}
use mathlib.Core.Option.{Option, none, some}
use native.Mathlib.Omega.{arith}
use lib.Dec.{eqb}
use lib.ListN.{length, take, drop}
use lib.Pointwise.{pointwise}
use Rattle.std.specs.Prelude.{Result, Ok, Err}
use Rattle.lists.specs.Tests.{pick}
use Rattle.lists.specs.Bytes.{sameb}
use Rattle.refusal.specs.declared.Refusal.{Refusal}
use Rattle.refusal.specs.Answer.{Answer, gives, refuses, onward}
use Rattle.refusal.specs.Numbers.{number}
use Rattle.table.specs.Row.{cut, rows_of, toks_of}
use Rattle.table.specs.Test.{dec_table}
use Rattle.table.specs.declared.rows.ValidTable.{ValidTable}
use Rattle.lists.specs.Decide.{is_yes}
use Rattle.lists.proofs.Tests.{false_true}
use Rattle.document.specs.declared.part.Piece.{Piece}
use Rattle.document.specs.View.{view}
use Rattle.document.specs.View.{View as Seen}
use Rattle.document.specs.Scope.{Child, children_of, piece_of, root_of}
use Rattle.readings.specs.Call.{Upload}
use Rattle.readings.specs.Opening.{Opened, with_table, present, rooted}
use Rattle.readings.specs.Find.{first_child, find_in, find, part_of, refusal_of}
use Rattle.decode.specs.declared.place.Past.{Past as PastAt}
use Rattle.decode.specs.declared.place.Start.{Start}
use Rattle.decode.specs.declared.view.View.{View}
use Rattle.decode.specs.declared.element.Element.{Element}
use Rattle.decode.specs.View.{view_of}
use Rattle.decode.specs.Element.{child_at, child_of, NextIs, DroppedIs, FoundAt, PieceIs}
use Rattle.opening.specs.Opening.{body_of, OpeningIs}
use Rattle.scalar.specs.Find.{first_piece, FindingIs}
use Rattle.scalar.proofs.Bytes.{same_pointwise}
use Rattle.decode.proofs.Scope.{no_more, one_more}

-- ---- whether a name is the one
pub local_is : (a name : List ℕ) {n : List ℕ} {u : Bool} → a ≡ n → u ≡ pointwise eqb a name → u ≡ sameb n name
local_is a name e h = h ∙ (same_pointwise a name ∙ ap (λ (l : List ℕ). sameb l name) e)

-- ---- the loop: the elements of `scope` have the same first piece as those of the root
module _ (root : Element) (name : List ℕ) where
  abbrev body : List ℕ
  body = body_of root

  abbrev the_piece : Answer Piece
  the_piece = first_piece body (view_of root.view) name (children_of (child_of root))

  pub record FindAt (scope : Element) : Type 0 where
    pub view : scope.view ≡ root.view
    pub start : scope.start ≡ root.start
    pub rest : first_piece body (view_of root.view) name (children_of (child_of scope)) ≡ the_piece

  pub find_start : FindAt root
  find_start = record { view = refl; start = refl; rest = refl }

  module _ {scope : Element} (w : FindAt scope) where
    pub find_gone : {p : PastAt} → NextIs scope (Err p) → FindingIs body the_piece (Err Refusal.NoSuchElement)
    unfolding first_child
    find_gone n = record { is = rw (no_more n) at w.rest; inside = tt }

    module _ {child : Element} {past : PastAt} (n : NextIs scope (Ok child)) (d : DroppedIs child past) {u : Bool}
        (q : u ≡ sameb (child_of child).start.name.local name) where
      abbrev after : List Child
      after = children_of (child_at scope.view scope.start past.at)

      turned : onward (present Refusal.NoSuchElement (pick u (some (child_of child)) (first_child name after)))
          (λ (c : Child). gives (piece_of body (view_of root.view) c))
          ≡ the_piece
      unfolding first_child
      turned = rw q (rw (one_more n d) at w.rest)

      pub find_here : {p : Piece} → u ≡ true → PieceIs child p → FindingIs body the_piece (Ok p)
      find_here {p} h z =
          let v : child.view ≡ root.view = n.met.view ∙ w.view in
          let i : p.start + p.len ≤ length body = subst (λ (v : View). p.start + p.len ≤ length v.table.body.now) v z.inside in
          record {
            is = ap gives (z.is ∙ ap (λ (v : View). piece_of v.table.body.now (view_of v) (child_of child)) v) ∙ rw h at turned;
            inside = i;
          }

      pub find_on : {scope' : Element} → u ≡ false → FoundAt root.view root.start past.at scope' → FindAt scope'
      find_on {scope'} h f =
          let e : child_at scope.view scope.start past.at ≡ child_of scope' =
          ap (λ (v : View). child_at v scope.start past.at) (w.view ∙ sym f.view)
          ∙ (ap (λ (s : Start). child_at scope'.view s past.at) (w.start ∙ sym f.start)
          ∙ ap (child_at scope'.view scope'.start) (sym f.at)) in
          record { view = f.view; start = f.start; rest = rw e at (rw h at turned) }

  -- ---- of the root
  module _ {u : Bool} (q : u ≡ sameb (child_of root).start.name.local name) where
    pub in_whole : u ≡ true → FindingIs body (find_in body (view_of root.view) name (child_of root))
        (Ok (record { start = 0; len = length body }))
    unfolding find_in
    in_whole h = record { is = rw (← q, h); inside = omega arith }

    pub in_child : {r : Result Piece Refusal} → u ≡ false → FindingIs body the_piece r
        → FindingIs body (find_in body (view_of root.view) name (child_of root)) r
    unfolding find_in
    in_child h x = record { is = rw (← q, h) x.is; inside = x.inside }

-- ---- of a body: 4 is 13 here
same_root : {a b t s : List ℕ} {e f : ℕ} → a ≡ b → t ≡ s → e ≡ f
    → rooted a (view false a (rows_of t) e) ≡ rooted b (view false b (rows_of s) f)
same_root p q r = rw (p, q, r)

no_table : {P : Type 0} (d : Dec P) → is_yes d ≡ false → (a : Answer Piece) → with_table d a ≡ refuses Refusal.Table
no_table (yes p) q a = false_true (sym q)
no_table (no b) q a = refl

good_table : {P : Type 0} (d : Dec P) → is_yes d ≡ true → (a : Answer Piece) → with_table d a ≡ a
good_table (yes p) q a = refl
good_table (no b) q a = false_true q

-- what is found, by what was opened
abbrev found_of : List ℕ → List ℕ → Answer Opened → Answer Piece
found_of bytes name (gives o) = find_in bytes o.seen name o.root
found_of bytes name (refuses why) = refuses Refusal.NoSuchElement

module _ (u : Upload) (name : List ℕ) where
  abbrev seen : Seen
  seen = view false u.body (rows_of u.rows) u.end

  abbrev searched : Answer Piece
  searched = onward (present Refusal.NoSuchElement (root_of (toks_of u.body seen.rows))) (find_in u.body seen name)

  pub find_table : is_yes (dec_table u.body u.rows u.end) ≡ false → FindingIs u.body (find u name) (Err Refusal.Table)
  unfolding find
  find_table e = record { is = sym (no_table (dec_table u.body u.rows u.end) e searched); inside = tt }

  module _ (v : ValidTable) (x : (v.body.now ≡ u.body) × (v.rows.now ≡ u.rows) × (v.end ≡ u.end)) where
    found_is : find u name ≡ found_of u.body name (rooted v.body.now (view false v.body.now (rows_of v.rows.now) v.end))
    unfolding find
    found_is =
        let q : is_yes (dec_table u.body u.rows u.end) ≡ true = rw (x.0, x.1, x.2) at v.obeys.is in
        good_table (dec_table u.body u.rows u.end) q searched
        ∙ (through (root_of (toks_of u.body seen.rows)) ∙ ap (found_of u.body name) (sym (same_root x.0 x.1 x.2)))
      where
        through : (r : Option Child) → onward (present Refusal.NoSuchElement r) (find_in u.body seen name)
            ≡ found_of u.body name (onward (present Refusal.NoRoot r) (λ (c : Child). gives (record { seen = seen; root = c })))
        through none = refl
        through (some c) = refl

    pub find_rootless : {why : Refusal} → OpeningIs v.body.now (rooted v.body.now (view false v.body.now (rows_of v.rows.now) v.end))
        (Err why)
        → FindingIs u.body (find u name) (Err Refusal.NoSuchElement)
    find_rootless {why} o = record { is = sym (found_is ∙ ap (found_of u.body name) (sym o.is)); inside = tt }

    pub find_found : {root : Element} → OpeningIs v.body.now (rooted v.body.now (view false v.body.now (rows_of v.rows.now) v.end))
        (Ok root)
        → {r : Result Piece Refusal}
        → FindingIs (body_of root) (find_in (body_of root) (view_of root.view) name (child_of root)) r
        → FindingIs u.body (find u name) r
    find_found {root} o {r} y =
        let z = subst (λ (b : List ℕ). FindingIs b (find_in b (view_of root.view) name (child_of root)) r) (o.of_body ∙ x.0) y in
        record { is = z.is ∙ sym (found_is ∙ ap (found_of u.body name) (sym o.is)); inside = z.inside }

  -- ---- its part and its number
  module _ {r : Result Piece Refusal} (y : FindingIs u.body (find u name) r) where
    pub part_some : {p : Piece} → r ≡ Ok p
        → take p.len (drop p.start u.body) ≡ cut u.body (part_of (find u name)).start (part_of (find u name)).len
    part_some {p} e = let z : gives p ≡ find u name = rw e at y.is in rw (← z)

    pub part_none : {why : Refusal} → r ≡ Err why → [] ≡ cut u.body (part_of (find u name)).start (part_of (find u name)).len
    part_none {why} e = let z : refuses why ≡ find u name = rw e at y.is in rw (← z)

    pub number_some : {p : Piece} → r ≡ Ok p → 0 ≡ refusal_of (find u name)
    number_some {p} e = let z : gives p ≡ find u name = rw e at y.is in rw (← z)

    pub number_none : {why : Refusal} → r ≡ Err why → {n : ℕ} → n ≡ number why → n ≡ refusal_of (find u name)
    number_none {why} e q = let z : refuses why ≡ find u name = rw e at y.is in rw (← z) q
