-- What it means that there is no text where one is wanted: 6, 7, 8 and 9 "as met" (01, "Numbers": "6 element where text is wanted", "7
-- reference", "8 token error where text is wanted"; "In a text under strict reading a mismatched or unclosed tag gives 9").
use Prim.Native.Nat.{ℕ, suc, ◌+◌}
use mathlib.Core.Path.{◌≡◌, refl, ◌∙◌, ap, subst}
use mathlib.Core.Logic.{◌↔◌}
use mathlib.Core.Bool.{Bool, true, false, not}
use mathlib.Core.List.{List, [], ◌∷◌}
use mathlib.Core.Option.{Option, none, some}
use native.Mathlib.Omega.{arith}
use Rattle.lists.specs.Tests.{pick}
use Rattle.lists.proofs.Tests.{false_true}
use Rattle.refusal.specs.declared.Refusal.{Refusal}
use Rattle.refusal.specs.Answer.{Answer, gives, refuses}
use Rattle.reference.specs.Text.{Out, unescaped}
use Rattle.reference.specs.Text as text
use Rattle.table.specs.Row.{Row, Name, Tok, start, attr, gt, close, slash, text, misc, matter, bad}
use Rattle.document.specs.declared.Depth.{Depth}
use Rattle.document.specs.View.{View}
use Rattle.document.specs.Reader.{depth_after, Scope, is_end}
use Rattle.document.specs.Scope.{Child, scope_of}
use Rattle.document.specs.Text.{value_start_at, unescaped_from, at_end, text_turn, take_first, first_text, text_of}
use Rattle.readings.specs.Call.{Upload}
use Rattle.readings.specs.Opening.{Opened}
use Rattle.readings.proofs.Conditions.Answers.{given_refused, refuses_same}
use Rattle.readings.proofs.Conditions.Opening.{OpenedAs}
use Rattle.readings.proofs.Conditions.View.{Stopped, opened_stops}

-- a token in which no text begins, and which neither begins an element nor ends the scope; it leaves depth d
abbrev pub is_passed : Scope → Depth → Tok → Bool
is_passed s d (start n) = false
is_passed s d (attr m v) = true
is_passed s d gt = true
is_passed s d (close m) = not (is_end s d m)
is_passed s d slash = true
is_passed s d (matter (text v)) = false
is_passed s d (matter misc) = true
is_passed s d bad = true

-- from these tokens on, the first in row k, there is no text: tokens are passed up to a start tag (6), up to a text that does not unescape
-- (7, with the place of the failing `&` in the body), or to the end of the rows, where the reader is stopped
pub data NoText (Stop : Refusal → Type 0) (rows : List Row) (s : Scope) : Depth → ℕ → List Tok → Refusal → Type 0 where
  element_inside : {d : Depth} {k : ℕ} {n : Name} {l : List Tok} → NoText Stop rows s d k (start n ∷ l) Refusal.ElementInText
  bad_reference : {d : Depth} {k : ℕ} {v : List ℕ} {at : ℕ} {l : List Tok} → unescaped v ≡ text.bad at
      → NoText Stop rows s d k (matter (text v) ∷ l) (Refusal.BadReference (value_start_at rows k + at))
  rows_end : {d : Depth} {k : ℕ} {r : Refusal} → Stop r → NoText Stop rows s d k [] r
  passed : {d : Depth} {k : ℕ} {t : Tok} {l : List Tok} {r : Refusal} → is_passed s (depth_after t d) t ≡ true
      → NoText Stop rows s (depth_after t d) (suc k) l r → NoText Stop rows s d k (t ∷ l) r

-- the same of an element, which did not end in `/>`
pub record NoTextIn (Stop : Refusal → Type 0) (rows : List Row) (c : Child) (r : Refusal) : Type 0 where
  pub not_closed : c.start.closed ≡ false
  pub inside : NoText Stop rows (scope_of c.start) c.inner.depth c.inner.row c.inner.rest r

module _ (Stop : Refusal → Type 0) (rows : List Row) (failure : Option Refusal) (stops : (r : Refusal) → (failure ≡ some r) ↔ Stop r) where
  first_text_refused : (s : Scope) (d : Depth) (k : ℕ) (l : List Tok) {r : Refusal} → first_text rows failure s d k l ≡ refuses r
      → NoText Stop rows s d k l r
  unfolding first_text
  first_text_refused s d k [] {r} e = go failure refl e
    where
      go : (f : Option Refusal) → failure ≡ f → at_end f ≡ refuses r → NoText Stop rows s d k [] r
      go none p e = given_refused e
      go (some q) p e = subst (NoText Stop rows s d k []) (refuses_same e) (rows_end ((stops q).0 p))
  first_text_refused s d k (start n ∷ l) e = subst (NoText Stop rows s d k (start n ∷ l)) (refuses_same e) element_inside
  first_text_refused s d k (attr m v ∷ l) e = passed refl (first_text_refused s d (suc k) l e)
  first_text_refused s d k (gt ∷ l) e = passed refl (first_text_refused s d (suc k) l e)
  first_text_refused s d k (close m ∷ l) {r} e =
      go (is_end s (depth_after (close m) d) m) refl e (first_text_refused s (depth_after (close m) d) (suc k) l)
    where
      go : (b : Bool) → is_end s (depth_after (close m) d) m ≡ b
          → pick b (gives []) (first_text rows failure s (depth_after (close m) d) (suc k) l) ≡ refuses r →
          (first_text rows failure s (depth_after (close m) d) (suc k) l ≡ refuses r
          → NoText Stop rows s (depth_after (close m) d) (suc k) l r)
          → NoText Stop rows s d k (close m ∷ l) r
      go true p e ih = given_refused e
      go false p e ih = passed (ap not p) (ih e)
  first_text_refused s d k (slash ∷ l) e = passed refl (first_text_refused s (depth_after slash d) (suc k) l e)
  first_text_refused s d k (matter (text v) ∷ l) {r} e = go (unescaped v) refl e
    where
      go : (o : Out) → unescaped v ≡ o → unescaped_from (value_start_at rows k) o ≡ refuses r
          → NoText Stop rows s d k (matter (text v) ∷ l) r
      go (text.bytes b) p e = given_refused e
      go (text.bad at) p e = subst (NoText Stop rows s d k (matter (text v) ∷ l)) (refuses_same e) (bad_reference p)
  first_text_refused s d k (matter misc ∷ l) e = passed refl (first_text_refused s d (suc k) l e)
  first_text_refused s d k (bad ∷ l) e = passed refl (first_text_refused s d (suc k) l e)

  passes_on : (from : ℕ) (s : Scope) (d : Depth) (t : Tok) (more : Answer (List ℕ)) → is_passed s d t ≡ true
      → text_turn (take_first from) s d t more ≡ more
  passes_on from s d (start n) more e = false_true e
  passes_on from s d (attr m v) more e = refl
  passes_on from s d gt more e = refl
  passes_on from s d (close m) more e = go (is_end s d m) e
    where
      go : (b : Bool) → not b ≡ true → pick b (gives []) more ≡ more
      go true e = false_true e
      go false e = refl
  passes_on from s d slash more e = refl
  passes_on from s d (matter (text v)) more e = false_true e
  passes_on from s d (matter misc) more e = refl
  passes_on from s d bad more e = refl

  refused_first_text : {s : Scope} {d : Depth} {k : ℕ} {l : List Tok} {r : Refusal} → NoText Stop rows s d k l r
      → first_text rows failure s d k l ≡ refuses r
  unfolding first_text
  refused_first_text element_inside = refl
  refused_first_text (bad_reference e) = rw e
  refused_first_text (rows_end {r = r} e) = rw ((stops r).1 e)
  refused_first_text {s = s} (passed {d = d} {k = k} {t = t} {l = l} p n) =
      passes_on (value_start_at rows k) s (depth_after t d) t (first_text rows failure s (depth_after t d) (suc k) l) p
      ∙ refused_first_text n

-- of an element in a view
text_refusal : (Stop : Refusal → Type 0) (v : View) → ((r : Refusal) → (v.failure ≡ some r) ↔ Stop r) → (c : Child) (r : Refusal)
    → (text_of v c ≡ refuses r) ↔ NoTextIn Stop v.rows c r
unfolding text_of
text_refusal Stop v stops c r =
    (go c.start.closed refl, λ w. rw w.not_closed (refused_first_text Stop v.rows v.failure stops w.inside))
  where
    inside : Answer (List ℕ)
    inside = first_text v.rows v.failure (scope_of c.start) c.inner.depth c.inner.row c.inner.rest

    go : (b : Bool) → c.start.closed ≡ b → pick b (gives []) inside ≡ refuses r → NoTextIn Stop v.rows c r
    go true p e = given_refused e
    go false p e =
        record {
          not_closed = p;
          inside = first_text_refused Stop v.rows v.failure stops (scope_of c.start) c.inner.depth c.inner.row
              c.inner.rest e;
        }

-- of an element of a table that was opened
pub opened_text_refusal : (u : Upload) {strict : Bool} {o : Opened} → OpenedAs u strict o → (c : Child) (r : Refusal) →
    (text_of o.seen c ≡ refuses r) ↔ NoTextIn (Stopped u strict) o.seen.rows c r
opened_text_refusal u {strict} {o} w c r = text_refusal (Stopped u strict) o.seen (opened_stops u w) c r

-- ---- 6 asks for no place: whether an element stands where text is wanted is said by the tokens, whatever rows a view tells places by. So
-- the condition of 6 in demand 3 says the same of each view without a failure.
no_place_asked : {Stop : Refusal → Type 0} {rows others : List Row} {s : Scope} {d : Depth} {k j : ℕ} {l : List Tok} {r : Refusal}
    → r ≡ Refusal.ElementInText → NoText Stop rows s d k l r → NoText Stop others s d j l r
no_place_asked q element_inside = element_inside
no_place_asked q (bad_reference e) = let z : ◌≡◌ {A = ℕ} 0 1 = cc in absurd (omega arith)
no_place_asked q (rows_end x) = rows_end x
no_place_asked q (passed p n) = passed p (no_place_asked q n)

pub six_by_tokens : (v w : View) → v.failure ≡ w.failure → (c : Child) → text_of v c ≡ refuses Refusal.ElementInText
    → text_of w c ≡ refuses Refusal.ElementInText
six_by_tokens v w q c e =
    let n = (text_refusal (λ (r : Refusal). w.failure ≡ some r) v (λ r. rw q (λ x. x, λ x. x)) c Refusal.ElementInText).0 e in
    (text_refusal (λ (r : Refusal). w.failure ≡ some r) w (λ r. (λ x. x, λ x. x)) c Refusal.ElementInText).1
    (record { not_closed = n.not_closed; inside = no_place_asked refl n.inside })
