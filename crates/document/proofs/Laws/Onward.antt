-- How far a reader goes on: the skip to a scope's end and the search for a start element leave no more tokens than there were, and keep row
-- numbers and tokens together.
use Prim.Native.Nat.{ℕ, suc, ◌+◌, ◌≤◌, ◌<◌}
use mathlib.Core.Path.{◌≡◌, refl, sym, ◌∙◌}
use mathlib.Core.Bool.{Bool, true, false}
use mathlib.Core.List.{List, [], ◌∷◌}
use native.Mathlib.Omega.{arith}
use lib.ListN.{length, drop}
use Rattle.lists.specs.Tests.{pick}
use Rattle.lists.proofs.Tests.{pick_all, false_true}
use Rattle.table.specs.Row.{Tok}
use Rattle.xml.proofs.Past.{at_next}
use Rattle.document.specs.declared.Depth.{Depth}
use Rattle.document.specs.Reader.{Reader, reader, depth_after, Scope, ends_at, Past, skip, StartEl, Turn, goes, complete, over, turn}
use Rattle.document.specs.Reader.{Next, found, gone, take_turn, next}

-- ---- a reader that has gone on from another
-- it has no more tokens left; its row number and what is left come to the same sum; and if the first had the tokens of a table from its row
-- on, so has it
pub record GoneOn (from to : Reader) : Type 0 where
  pub short : length to.rest ≤ length from.rest
  pub rows : to.row + length to.rest ≡ from.row + length from.rest
  pub stands : (all : List Tok) → drop from.row all ≡ from.rest → drop to.row all ≡ to.rest

-- not at all
pub still : (r : Reader) → GoneOn r r
still r = record { short = omega arith; rows = refl; stands = λ all h. h }

-- by one token more
one_more : {d e : Depth} {k : ℕ} {t : Tok} {l : List Tok} {r : Reader} → GoneOn (reader e (suc k) l) r → GoneOn (reader d k (t ∷ l)) r
one_more {k = k} g =
    record {
      short = omega (arith, g.short);
      rows = omega (arith, g.rows);
      stands = λ all h. g.stands all (at_next all k h);
    }

-- twice
pub gone_on_on : {a b c : Reader} → GoneOn a b → GoneOn b c → GoneOn a c
gone_on_on g h =
    record {
      short = omega (arith, g.short, h.short);
      rows = h.rows ∙ g.rows;
      stands = λ all e. h.stands all (g.stands all e);
    }

-- ---- the skip goes on
pub skip_goes_on : (s : Scope) (d : Depth) (k : ℕ) (l : List Tok) → GoneOn (reader d k l) (skip s d k l).reader
unfolding skip
skip_goes_on s d k [] = still (reader d k [])
skip_goes_on s d k (t ∷ l) =
    let e = depth_after t d in
    pick_all (λ p. GoneOn (reader d k (t ∷ l)) p.reader) (ends_at s e t) (record { ended = true; reader = reader e (suc k) l })
    (skip s e (suc k) l)
    (one_more (still (reader e (suc k) l))) (one_more (skip_goes_on s e (suc k) l))

-- one that does not meet the scope's end leaves no token
pub skip_leaves_none : (s : Scope) (d : Depth) (k : ℕ) (l : List Tok) → (skip s d k l).ended ≡ false
    → length (skip s d k l).reader.rest ≡ 0
unfolding skip
skip_leaves_none s d k [] e = refl
skip_leaves_none s d k (t ∷ l) e = go (ends_at s (depth_after t d) t) (skip_leaves_none s (depth_after t d) (suc k) l) e
  where
    go : (b : Bool) → ((skip s (depth_after t d) (suc k) l).ended ≡ false → length (skip s (depth_after t d) (suc k) l).reader.rest ≡ 0)
        → (pick b (record { ended = true; reader = reader (depth_after t d) (suc k) l }) (skip s (depth_after t d) (suc k) l)).ended ≡ false
        → length (pick b (record { ended = true; reader = reader (depth_after t d) (suc k) l })
        (skip s (depth_after t d) (suc k) l)).reader.rest ≡ 0
    go true ih e = false_true (sym e)
    go false ih e = ih e

-- ---- the search for a start element goes on
-- a start element that is found leaves fewer tokens than there were; none leaves no more
pub data Leaves (from : Reader) : Next → Type 0 where
  leaves_found : {el : StartEl} (r : Reader) → GoneOn from r → length r.rest < length from.rest → Leaves from (found el r)
  leaves_none : (p : Past) → GoneOn from p.reader → Leaves from (gone p)

leaves_more : {d e : Depth} {k : ℕ} {t : Tok} {l : List Tok} {x : Next} → Leaves (reader e (suc k) l) x → Leaves (reader d k (t ∷ l)) x
leaves_more (leaves_found r g h) = leaves_found r (one_more g) (omega (arith, h))
leaves_more (leaves_none p g) = leaves_none p (one_more g)

leaves_turn : (t : Turn) (r : Reader) (more : StartEl → Next) {from : Reader} → GoneOn from r → length r.rest < length from.rest
    → ((o : StartEl) → Leaves from (more o)) → Leaves from (take_turn t r more)
leaves_turn (goes o) r more g h f = f o
leaves_turn (complete o) r more g h f = leaves_found r g h
leaves_turn (over ended) r more g h f = leaves_none (record { ended = ended; reader = r }) g

pub next_leaves : (s : Scope) (o : StartEl) (d : Depth) (k : ℕ) (l : List Tok) → Leaves (reader d k l) (next s o d k l)
unfolding next
next_leaves s o d k [] = leaves_none (record { ended = false; reader = reader d k [] }) (still (reader d k []))
next_leaves s o d k (t ∷ l) =
    let e = depth_after t d in
    leaves_turn (turn s o d k t) (reader e (suc k) l) (λ (o' : StartEl). next s o' e (suc k) l)
    (one_more (still (reader e (suc k) l))) (omega arith) (λ o'. leaves_more (next_leaves s o' e (suc k) l))

-- where the reader stands after the search
abbrev pub after_next : Next → Reader
after_next (found el r) = r
after_next (gone p) = p.reader

leaves_on : {from : Reader} {x : Next} → Leaves from x → GoneOn from (after_next x)
leaves_on (leaves_found r g h) = g
leaves_on (leaves_none p g) = g

leaves_fewer : {from : Reader} {el : StartEl} {r : Reader} → Leaves from (found el r) → length r.rest < length from.rest
leaves_fewer (leaves_found r g h) = h

-- the laws of its parts: found or not, it goes on; what is found leaves fewer tokens, and none leaves no more
pub next_goes_on : (s : Scope) (o : StartEl) (d : Depth) (k : ℕ) (l : List Tok) → GoneOn (reader d k l) (after_next (next s o d k l))
next_goes_on s o d k l = leaves_on (next_leaves s o d k l)

pub next_short : (s : Scope) (o : StartEl) (d : Depth) (k : ℕ) (l : List Tok) {el : StartEl} {r : Reader} → next s o d k l ≡ found el r
    → length r.rest < length l
next_short s o d k l {el} {r} e = leaves_fewer {from = reader d k l} {el = el} {r = r} (rw (← e) (next_leaves s o d k l))

pub next_rest : (all : List Tok) (s : Scope) (o : StartEl) (d : Depth) (k : ℕ) (l : List Tok) → drop k all ≡ l
    → (after_next (next s o d k l)).rest ≡ drop (after_next (next s o d k l)).row all
next_rest all s o d k l h = sym ((next_goes_on s o d k l).stands all h)
