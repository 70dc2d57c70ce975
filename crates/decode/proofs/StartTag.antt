-- Laws of the reading of a start tag: its attributes, and its end.
use Prim.Native.Nat.{ℕ, zero, suc, ◌+◌, ◌-◌, ◌*◌, ◌≤◌, ◌<◌}
use mathlib.Core.Path.{◌≡◌, refl, sym, ◌∙◌, ap}
use mathlib.Core.Bool.{Bool, true, false}
use mathlib.Core.List.{List, [], ◌∷◌, ◌++◌}
use native.Mathlib.Numerals.{add-one}
use native.Mathlib.Omega.{arith}
use borrow.Author.Tests.{eqb-true}
use lib.Dec.{eqb}
use lib.ListN.{get_or}
use Rattle.lists.specs.Tests.{pick}
use Rattle.lists.proofs.Tests.{false_true}
use Rattle.reference.specs.Text.{Out, bytes, unescaped, meaning}
use Rattle.reference.specs.Text as ref
use Rattle.std.specs.Prelude.{Result, Ok, Err, is_ok}
use Rattle.reference.specs.declared.BadReference.{BadReference}
use Rattle.unescape.specs.Loops.{size_of}
use Rattle.table.specs.Row.{Name, Tok, start, attr, gt, slash, bad, tok_as}
use Rattle.table.specs.Rows.{name_at, value_at, tok_at}
use Rattle.table.proofs.Classes.{Kind, of_start, of_attr, of_gt, of_close, of_slash, of_matter, of_error, kind_of_lem}
use Rattle.document.specs.Reader.{reader, depth, depth_after, Scope, Attribute, StartEl, blank, on_attribute, take_turn, turn, next}
use Rattle.document.specs.Reader as doc
use Rattle.document.proofs.Laws.Steps.{next_end, next_token}
use Rattle.document.specs.Tags.{may_stand, in_tag_after, Tags}
use Rattle.decode.specs.Seen.{Sees}
use Rattle.decode.specs.Place.{toks_from, is_bytes, StartIn, over_at}
use Rattle.decode.specs.Reader.{attribute_at, attributes_from, start_at, good_attribute, FoundFrom, GoneFrom, TagEnd, StartsAt, TagIs}
use Rattle.decode.proofs.Known.{Stands, stands, outside, toks_next, toks_none, tags_next, error_end}

pub bytes_are : (o : Out) → is_bytes o ≡ true → o ≡ bytes (meaning o)
bytes_are (bytes v) e = refl
bytes_are (ref.bad at) e = false_true e

not_bytes : (o : StartEl) (m : Name) (x : Out) → is_bytes x ≡ false → on_attribute o m x ≡ doc.over false
not_bytes o m (bytes v) e = false_true (sym e)
not_bytes o m (ref.bad at) e = refl

-- an attribute that unescapes is one, and unescapes
pub good_is : (body t : List ℕ) (k : ℕ) → good_attribute body t k ≡ true
    → (get_or t (k * 8 + 0) 0 ≡ 2) × (is_bytes (unescaped (value_at body t k)) ≡ true)
good_is body t k = go (eqb (get_or t (k * 8 + 0) 0) 2) refl
  where
    go : (u : Bool) → eqb (get_or t (k * 8 + 0) 0) 2 ≡ u → pick u (is_bytes (unescaped (value_at body t k))) false ≡ true
        → (get_or t (k * 8 + 0) 0 ≡ 2) × (is_bytes (unescaped (value_at body t k)) ≡ true)
    go true e q = (eqb-true (get_or t (k * 8 + 0) 0) 2 e, q)
    go false e q = false_true q

-- a text that is measured has a length exactly where it unescapes
measured : (o : Out) → is_ok (size_of o) ≡ is_bytes o
unfolding size_of
measured (bytes l) = refl
measured (ref.bad at) = refl

pub good_ok : (body t : List ℕ) (k : ℕ) → 2 ≡ get_or t (k * 8 + 0) 0 → {x : List ℕ} → x ≡ value_at body t k
    → {m : Result ℕ BadReference} → m ≡ size_of (unescaped x)
    → {r : Bool} → r ≡ is_ok m
    → r ≡ good_attribute body t k
good_ok body t k h f g q = rw (← h, q, g, f) (measured (unescaped (value_at body t k)))

-- ---- the attributes
-- one attribute more
attributes_more : (body t : List ℕ) (k m : ℕ)
    → attributes_from body t k (suc m) ≡ attributes_from body t k m ++ attribute_at body t (k + m) ∷ []
attributes_more body t k zero = let z : k + 0 ≡ k = omega arith in rw z
attributes_more body t k (suc m) =
    let z : k + suc m ≡ suc k + m = omega arith in
    rw z (ap {B = List Attribute} (λ l. attribute_at body t k ∷ l) (attributes_more body t (suc k) m))

-- what was met so far, up to row k, of the tag of row i at depth d
abbrev so_far : List ℕ → List ℕ → ℕ → ℕ → ℕ → StartEl
so_far body t i k d = start_at body t (record { row = i; end = k; closed = false; depth = depth d })

-- the start tag of row i is read up to row k: the search for a start element goes on from there with what was met so far, whatever the
-- scope and the depth
record TagRead (body t : List ℕ) (n i k : ℕ) : Type 0 where
  tags : Tags true (toks_from body t n k)
  rest : (s : Scope) (d : ℕ)
      → next s (so_far body t i k d) (depth (suc d)) k (toks_from body t n k)
      ≡ next s blank (depth d) i (toks_from body t n i)

module _ (body t : List ℕ) (n i : ℕ) where
  tag_start : Tags false (toks_from body t n i) → i < n → get_or t (i * 8 + 0) 0 ≡ 1 → TagRead body t n i (i + 1)
  unfolding tok_as
  tag_start g h q =
      let l = toks_from body t n (i + 1) in
      let m = name_at body t i in
      let e : toks_from body t n i ≡ start m ∷ l = rw q at (toks_next body t n i h) in
      let z : i + 1 - (i + 1) ≡ 0 = omega arith in
      record {
        tags = rw q at (tags_next body t n i g h).1;
        rest = λ s c. rw z (sym (ap (next s blank (depth c) i) e ∙ rw (← add-one i) at (next_token s blank (depth c) i (start m) l)));
      }

  module _ {k : ℕ} (w : TagRead body t n i k) (h : k < n) where
    abbrev met : ℕ → StartEl
    met = so_far body t i k

    -- what one row does
    turned : (u : Tok) → tok_at body t k ≡ u → (s : Scope) (d : ℕ)
        → take_turn (turn s (met d) (depth (suc d)) k u) (reader (depth_after u (depth (suc d))) (k + 1) (toks_from body t n (k + 1)))
        (λ (o' : StartEl). next s o' (depth_after u (depth (suc d))) (k + 1) (toks_from body t n (k + 1)))
        ≡ next s blank (depth d) i (toks_from body t n i)
    turned u e s d =
        rw (← add-one k) at
        (sym (next_token s (met d) (depth (suc d)) k u (toks_from body t n (suc k)))
        ∙ (ap (λ (l : List Tok). next s (met d) (depth (suc d)) k l) (sym (rw (e, add-one k) at (toks_next body t n k h))) ∙ w.rest s d))

    tags_after : (u : Tok) → tok_at body t k ≡ u → Tags (in_tag_after u true) (toks_from body t n (k + 1))
    tags_after u e = rw e at (tags_next body t n k w.tags h).1

    tag_on : i < k → good_attribute body t k ≡ true → TagRead body t n i (k + 1)
    unfolding tok_as
    tag_on l q =
        let g = good_is body t k q in
        let z : k + 1 - (i + 1) ≡ suc (k - (i + 1)) = omega arith in
        let y : i + 1 + (k - (i + 1)) ≡ k = omega arith in
        let x = rw y at (attributes_more body t (i + 1) (k - (i + 1))) in
        let a : tok_at body t k ≡ attr (name_at body t k) (value_at body t k) = rw g.0 in
        record {
          tags = tags_after _ a;
          rest = λ s d. rw (z, x) (rw (bytes_are (unescaped (value_at body t k)) g.1) at (turned _ a s d));
        }

  -- all attributes that unescape
  tag_read : (m : ℕ) → Tags false (toks_from body t n i) → i < n → get_or t (i * 8 + 0) 0 ≡ 1 → i + 1 + m ≤ n
      → ((j : ℕ) → i < j → j < i + 1 + m → good_attribute body t j ≡ true)
      → TagRead body t n i (i + 1 + m)
  tag_read zero g h q l f = let z : i + 1 + 0 ≡ i + 1 = omega arith in rw z (tag_start g h q)
  tag_read (suc m) g h q l f =
      let z : i + 1 + suc m ≡ i + 1 + m + 1 = omega arith in
      rw z
      (tag_on (tag_read m g h q (omega arith) (λ j a b. f j a (omega arith))) (omega arith) (omega arith)
      (f (i + 1 + m) (omega arith) (omega arith)))

-- ---- the loop over attributes
pub tag_none : (body t : List ℕ) (i j : ℕ) → i < j → j < i + 1 → good_attribute body t j ≡ true
tag_none body t i j a b = absurd (omega arith)

-- ---- its end
module _ {body t : List ℕ} {n : ℕ} (q : Sees body t n) {d i k : ℕ} (o : StartsAt body t n d i) (e : TagEnd body t n i k) where
  s : Stands body t n d i
  s = stands o.at

  w : TagRead body t n i k
  w =
      let z : i + 1 + (k - (i + 1)) ≡ k = omega (arith, e.low) in
      rw z at (tag_read body t n i (k - (i + 1)) s.tags o.here o.starts (omega (arith, e.high)) (λ j a b. e.good j a (omega arith)))

  -- the search is over, in the start tag
  gone_in : (j : ℕ) → k ≤ j → j ≤ n → {b : Bool} → Tags b (toks_from body t n j) → GoneFrom body t n i (over_at false j (d + 1))
  gone_in j l h {b} g =
      record {
        ended =
            record {
              at = record { at = record { high = h; low = omega (arith, s.low, e.low) }; in_tag = b; tags = g };
              out = λ q. false_true q;
            };
        since = omega (arith, e.low);
      }

  pub tag_done : n ≤ k → TagIs body t n d i (Err (over_at false k (d + 1)))
  tag_done h =
      let z = toks_none body t n k h in
      record {
        is = λ s. rw (add-one d, z) (sym (next_end s (so_far body t i k d) (depth (suc d)) k) ∙ rw z at (w.rest s d));
        met = gone_in k (omega arith) e.high w.tags;
      }

  module _ (h : k < n) where
    -- the start element, if the tag ends here
    start_in : {closed : Bool} → StartIn body t n (record { row = i; end = k; closed = closed; depth = depth d })
    start_in = record { starts = o.starts; low = e.low; high = h; deep = s.low; good = λ j a b. (good_is body t j (e.good j a b)).1 }

    met_here : {closed : Bool} (inner : ℕ) → inner ≤ k + 1 → Tags false (toks_from body t n (k + 1))
        → FoundFrom body t n i (record {
          start = record { row = i; end = k; closed = closed; depth = depth d };
          at = record { row = k + 1; depth = depth inner };
        })
    met_here inner l g =
        record {
          start = start_in;
          stands = outside (record { high = omega arith; low = l; tags = g });
          since = omega arith;
          past = omega arith;
        }

    module _ {kind : ℕ} (f : kind ≡ get_or t (k * 8 + 0) 0) where
      gt_here : kind ≡ 3 → tok_at body t k ≡ gt
      unfolding tok_as
      gt_here x = rw (← f, x)

      slash_here : kind ≡ 5 → tok_at body t k ≡ slash
      unfolding tok_as
      slash_here x = rw (← f, x)

      -- what is found
      pub tag_gt : kind ≡ 3 → TagIs body t n d i (Ok (record {
        start = record { row = i; end = k; closed = false; depth = depth d };
        at = record { row = k + 1; depth = depth (d + 1) };
      }))
      tag_gt x =
          record {
            is = λ s. rw (add-one d) (turned body t n i w h _ (gt_here x) s d);
            met = met_here (d + 1) (omega (arith, s.low, e.low)) (tags_after body t n i w h _ (gt_here x));
          }

      pub tag_slash : kind ≡ 5 → TagIs body t n d i (Ok (record {
        start = record { row = i; end = k; closed = true; depth = depth d };
        at = record { row = k + 1; depth = depth d };
      }))
      tag_slash x =
          record {
            is = λ s. turned body t n i w h _ (slash_here x) s d;
            met = met_here d (omega (arith, s.low, e.low)) (tags_after body t n i w h _ (slash_here x));
          }

      -- an attribute that does not unescape, or a token error
      pub tag_over : (kind ≡ 3 → ⊥) → (kind ≡ 5 → ⊥) → TagIs body t n d i (Err (over_at false (k + 1) (d + 1)))
      tag_over b c =
          go (kind_of_lem (get_or t (k * 8 + 0) 0) (name_at body t k) (value_at body t k))
          (tags_next body t n k w.tags h).0 (λ z. b (f ∙ z)) (λ z. c (f ∙ z)) refl refl
        where
          gone_here : GoneFrom body t n i (over_at false (k + 1) (d + 1))
          gone_here = gone_in (k + 1) (omega arith) (omega arith) (tags_next body t n k w.tags h).1

          bad_token : tok_at body t k ≡ bad → TagIs body t n d i (Err (over_at false (k + 1) (d + 1)))
          bad_token y =
              let z = toks_none body t n (k + 1) (error_end q k h y) in
              record {
                is =
                    λ s. rw (add-one d, z)
                    (sym (next_end s (so_far body t i k d) (depth (suc d)) (k + 1)) ∙ rw z at (turned body t n i w h bad y s d));
                met = gone_here;
              }

          bad_value : get_or t (k * 8 + 0) 0 ≡ 2 → tok_at body t k ≡ attr (name_at body t k) (value_at body t k)
              → TagIs body t n d i (Err (over_at false (k + 1) (d + 1)))
          bad_value x y =
              let p : is_bytes (unescaped (value_at body t k)) ≡ false = rw x at (e.stops h) in
              let z = not_bytes (so_far body t i k d) (name_at body t k) (unescaped (value_at body t k)) p in
              record {
                is = λ s. rw (add-one d) (rw z at (turned body t n i w h _ y s d));
                met = gone_here;
              }

          go : {j : ℕ} {u : Tok} → Kind (name_at body t k) (value_at body t k) j u → may_stand (tok_at body t k) true ≡ true
              → (get_or t (k * 8 + 0) 0 ≡ 3 → ⊥) → (get_or t (k * 8 + 0) 0 ≡ 5 → ⊥) → get_or t (k * 8 + 0) 0 ≡ j → tok_at body t k ≡ u
              → TagIs body t n d i (Err (over_at false (k + 1) (d + 1)))
          go of_start m b c x y = false_true (rw y at m)
          go of_attr m b c x y = bad_value x y
          go of_gt m b c x y = absurd (b x)
          go of_close m b c x y = false_true (rw y at m)
          go of_slash m b c x y = absurd (c x)
          go (of_matter z) m b c x y = false_true (rw y at m)
          go (of_error z) m b c x y = bad_token y
