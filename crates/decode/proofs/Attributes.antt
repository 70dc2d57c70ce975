-- Laws of the search for an attribute among the rows of a start tag: the first that a pattern asks for, by its row, is the definition's.
use Prim.Native.Nat.{ℕ, zero, suc, ◌+◌, ◌-◌, ◌*◌, ◌≤◌, ◌<◌}
use mathlib.Core.Path.{◌≡◌, refl, sym, ◌∙◌}
use mathlib.Core.Bool.{Bool, true, false}
use mathlib.Core.List.{List}
use native.Mathlib.Omega.{arith}
use borrow.Author.Tests.{eqb-true, eqb-false}
use lib.Dec.{eqb}
use lib.ListN.{length}
use Rattle.std.specs.Prelude.{Some, None}
use Rattle.std.proofs.Math.Option as math
use Rattle.lists.specs.Tests.{pick}
use Rattle.reference.specs.Text.{unescaped, meaning}
use Rattle.table.specs.Names.{name_matches}
use Rattle.table.specs.Rows.{name_at, value_at}
use Rattle.document.specs.declared.part.Text.{Text}
use Rattle.decode.specs.declared.place.Start.{Start}
use Rattle.decode.specs.declared.view.View.{View}
use Rattle.decode.specs.Place.{StartIn}
use Rattle.decode.specs.Reader.{attributes_from, NoMatch, NamedIn}
use Rattle.decode.specs.Element.{first_named, ValueIs, AttributeOf}
use Rattle.decode.proofs.Known.{row_seen}
use Rattle.decode.proofs.StartTag.{bytes_are}

-- ---- the loop: none of the rows before row k is asked for
pub named_start : (body t pattern : List ℕ) (from : ℕ) → NoMatch body t pattern from from
named_start body t pattern from = record { none = λ j l h. absurd (omega arith) }

module _ {body t pattern : List ℕ} {from k : ℕ} (w : NoMatch body t pattern from k) where
  pub named_none : {end : ℕ} → end ≤ k → NamedIn body t pattern from end None
  named_none h = record { none = λ j l u. w.none j l (omega arith) }

  module _ {r : Bool} (g : r ≡ name_matches (name_at body t k) pattern) where
    pub named_on : r ≡ false → NoMatch body t pattern from (k + 1)
    named_on q = record { none = λ j l u. go j l u (eqb j k) refl }
      where
        go : (j : ℕ) → from ≤ j → j < k + 1 → (b : Bool) → eqb j k ≡ b → name_matches (name_at body t j) pattern ≡ false
        go j l u true p = rw (eqb-true j k p) (sym g ∙ q)
        go j l u false p = let z = eqb-false j k p in w.none j l (omega arith)

    pub named_found : {n : ℕ} {s : Start} → n * 8 ≤ length t → StartIn body t n s → s.row < k → k < s.end → from ≤ k → r ≡ true
        → NamedIn body t pattern from s.end (Some k)
    named_found m o l h u q =
        record {
          low = u;
          high = h;
          asked = sym g ∙ q;
          earlier = w;
          row = row_seen m (omega (arith, o.high));
          value = bytes_are (unescaped (value_at body t k)) (o.good k l h);
        }

-- ---- the definition's search among the attributes of m rows from row `from` on
module _ (body t pattern : List ℕ) where
  none_named : (m from : ℕ) → ((j : ℕ) → from ≤ j → j < from + m → name_matches (name_at body t j) pattern ≡ false)
      → first_named pattern (attributes_from body t from m) ≡ math.none
  unfolding first_named
  none_named zero from f = refl
  none_named (suc m) from f =
      rw (f from (omega arith) (omega arith), none_named m (suc from) (λ j l u. f j (omega arith) (omega arith)))

  some_named : (m from k : ℕ) → from ≤ k → k < from + m → NoMatch body t pattern from k → name_matches (name_at body t k) pattern ≡ true
      → first_named pattern (attributes_from body t from m) ≡ math.some (meaning (unescaped (value_at body t k)))
  unfolding first_named
  some_named zero from k l h w q = absurd (omega arith)
  some_named (suc m) from k l h w q =
      go (eqb from k) refl
      (λ (u : suc from ≤ k). some_named m (suc from) k u (omega arith) (record { none = λ j a b. w.none j (omega arith) b }) q)
    where
      go : (b : Bool) → eqb from k ≡ b
          → (suc from ≤ k → first_named pattern (attributes_from body t (suc from) m) ≡ math.some (meaning (unescaped (value_at body t k))))
          → pick (name_matches (name_at body t from) pattern) (math.some (meaning (unescaped (value_at body t from))))
          (first_named pattern (attributes_from body t (suc from) m))
          ≡ math.some (meaning (unescaped (value_at body t k)))
      go true p more = rw (eqb-true from k p, q)
      go false p more = let z = eqb-false from k p in rw (w.none from (omega arith) (omega arith), more (omega arith))

-- ---- as an attribute of a start element in a view
module _ (v : View) (s : Start) (pattern : List ℕ) where
  abbrev body : List ℕ
  body = v.table.body.now

  abbrev t : List ℕ
  t = v.table.rows.now

  pub attribute_none : NamedIn body t pattern (s.row + 1) s.end None → AttributeOf v s pattern None
  attribute_none x =
      record {
        is = sym (none_named body t pattern (s.end - (s.row + 1)) (s.row + 1) (λ j l u. x.none j l (omega arith)));
        value = tt;
        row = x;
      }

  pub attribute_some : {k : ℕ} {f : Text} → NamedIn body t pattern (s.row + 1) s.end (Some k) → ValueIs body t k f
      → AttributeOf v s pattern (Some f)
  attribute_some {k} x y =
      record {
        is =
            rw y.bytes
            (sym (some_named body t pattern (s.end - (s.row + 1)) (s.row + 1) k x.low (omega (arith, x.low, x.high)) x.earlier x.asked));
        value = rw y.bytes x.value;
        row = record { row = k; low = x.low; high = x.high; asked = x.asked; earlier = x.earlier; value = y };
      }
