-- The kinds of rows and their tokens, gone through once: what the rules ask of a kind's number, said by the class of its token.
use Prim.Native.Nat.{ℕ, zero, suc, ◌≤◌}
use mathlib.Core.Path.{◌≡◌, refl}
use mathlib.Core.Bool.{Bool, true, false, not}
use mathlib.Core.List.{List}
use native.Mathlib.Omega.{arith}
use borrow.Author.Tests.{ne_eqb}
use lib.Dec.{eqb}
use lib.ListN.{length}
use Rattle.table.specs.Row.{Name, Matter, text, misc, references_in, Tok, start, attr, gt, close, slash, matter, bad, tok_as}
use Rattle.table.specs.Rules.{most_kind, closes_element, ends_tag, in_tag_only, may_be_in_tag, may_follow_root, needs_element}

-- "Kinds 4 and 6 need an open element."
abbrev pub needs_open : Matter → Bool
needs_open (text v) = true
needs_open misc = false

-- a kind that starts and closes no element, and comes in no start tag and ends none
pub record Loose (k : ℕ) : Type 0 where
  pub start : eqb k 1 ≡ false
  pub tag_end : ends_tag k ≡ false
  pub closing : closes_element k ≡ false
  pub in_tag : in_tag_only k ≡ false

-- the kind of what stands between tags, of a row with this value
pub record OfMatter (v : List ℕ) (k : ℕ) (m : Matter) : Type 0 where
  pub loose : Loose k
  pub outside : may_be_in_tag k ≡ false
  pub within : needs_element k ≡ needs_open m
  pub behind : may_follow_root k ≡ not (needs_open m)
  pub is_text : (b : List ℕ) → m ≡ text b → k ≡ 6
  pub value : length (references_in m) ≤ length v

-- a number that stands for a token error: kind 8, or no kind
pub record OfError (k : ℕ) : Type 0 where
  pub loose : Loose k
  pub eight : 1 ≤ k → k ≤ most_kind → k ≡ 8

pub data Kind (n : Name) (v : List ℕ) : ℕ → Tok → Type 0 where
  of_start : Kind n v 1 (start n)
  of_attr : Kind n v 2 (attr n v)
  of_gt : Kind n v 3 gt
  of_close : Kind n v 4 (close n)
  of_slash : Kind n v 5 slash
  of_matter : {k : ℕ} {m : Matter} → OfMatter v k m → Kind n v k (matter m)
  of_error : {k : ℕ} → OfError k → Kind n v k bad

not_text {ℓ} : {A : Type ℓ} {b : List ℕ} → misc ≡ text b → A
not_text e = let z : ◌≡◌ {A = ℕ} 0 1 = cc in absurd (omega arith)

pub kind_of_lem : (k : ℕ) (n : Name) (v : List ℕ) → Kind n v k (tok_as k n v)
unfolding tok_as
kind_of_lem zero n v =
    of_error {k = 0} (record {
      loose = record { start = refl; tag_end = refl; closing = refl; in_tag = refl };
      eight = λ l h. absurd (omega (arith, l));
    })
kind_of_lem (suc zero) n v = of_start
kind_of_lem (suc (suc zero)) n v = of_attr
kind_of_lem (suc (suc (suc zero))) n v = of_gt
kind_of_lem (suc (suc (suc (suc zero)))) n v = of_close
kind_of_lem (suc (suc (suc (suc (suc zero))))) n v = of_slash
kind_of_lem (suc (suc (suc (suc (suc (suc zero)))))) n v =
    of_matter {k = 6} {m = text v} (record {
      loose = record { start = refl; tag_end = refl; closing = refl; in_tag = refl };
      outside = refl;
      within = refl;
      behind = refl;
      is_text = λ b e. refl;
      value = omega arith;
    })
kind_of_lem (suc (suc (suc (suc (suc (suc (suc zero))))))) n v =
    of_matter {k = 7} {m = misc} (record {
      loose = record { start = refl; tag_end = refl; closing = refl; in_tag = refl };
      outside = refl;
      within = refl;
      behind = refl;
      is_text = λ b e. not_text e;
      value = omega arith;
    })
kind_of_lem (suc (suc (suc (suc (suc (suc (suc (suc k)))))))) n v =
    let j = suc (suc (suc (suc (suc (suc (suc (suc k))))))) in
    let not : (x : ℕ) → x ≤ 7 → eqb j x ≡ false = λ x h. ne_eqb j x (λ e. omega (arith, e, h)) in
    let one = not 1 (omega arith) in
    let two = not 2 (omega arith) in
    let three = not 3 (omega arith) in
    let four = not 4 (omega arith) in
    let five = not 5 (omega arith) in
    of_error {k = j} (record {
      loose = record { start = one; tag_end = rw (three, five); closing = rw (four, five); in_tag = rw (two, three, five) };
      eight = λ l h. omega (arith, h);
    })
