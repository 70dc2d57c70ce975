-- Laws of the walk to the first text of an element.
use Prim.Native.Nat.{ℕ, suc, ◌+◌, ◌*◌, ◌^◌, ◌≤◌, ◌<◌}
use mathlib.Core.Path.{◌≡◌, refl, sym, ◌∙◌, ap}
use mathlib.Core.Bool.{Bool, true, false}
use mathlib.Core.List.{List, []}
use native.Mathlib.Numerals.{add-one}
use native.Mathlib.Omega.{arith}
use lib.ListN.{length, get_or, drop, length-take}
use Rattle.std.specs.Prelude.{Ok, Err, Option, Some, None, Result}
use Rattle.lists.specs.Tests.{pick}
use Rattle.refusal.specs.declared.Refusal.{Refusal}
use Rattle.refusal.specs.Answer.{Answer, gives, refuses}
use Rattle.reference.specs.Text.{decode, unescaped}
use Rattle.table.specs.Row.{Row, Name, Matter, text, misc, Tok, matter, tok_as}
use Rattle.table.specs.Flat.{rows_from}
use Rattle.table.specs.Kinds.{DepthIs}
use Rattle.table.specs.Rows.{InTable, Readable, name_at, value_at, tok_at}
use Rattle.table.proofs.Classes.{OfMatter, Kind, of_start, of_attr, of_gt, of_close, of_slash, of_matter, of_error, kind_of_lem}
use Rattle.table.proofs.Flat.{unroll, drop_from}
use Rattle.table.proofs.Valid.{spans_within}
use Rattle.document.specs.declared.Depth.{Depth}
use Rattle.document.specs.declared.part.Text.{Text}
use Rattle.document.specs.Reader.{depth, depth_after, Scope, ends_at}
use Rattle.document.specs.Scope.{scope_of}
use Rattle.document.specs.Text.{value_start_at, at_end, text_turn, take_first, first_text, text_of}
use Rattle.document.specs.View.{View as Seen}
use Rattle.document.specs.Part.{given}
use Rattle.document.proofs.Laws.Steps.{first_text_end, first_text_token}
use Rattle.document.proofs.Laws.Place.{value_start_lem}
use Rattle.decode.specs.declared.place.Cursor.{Cursor}
use Rattle.decode.specs.declared.place.Start.{Start}
use Rattle.decode.specs.declared.view.View.{View}
use Rattle.decode.specs.Place.{toks_from}
use Rattle.decode.specs.Reader.{failure_at, start_at, child_from, TextBy}
use Rattle.decode.specs.View.{view_of}
use Rattle.decode.specs.Element.{child_at, ValueIs}
use Rattle.decode.proofs.Known.{toks_next, toks_none}
use Rattle.decode.proofs.Skipping.{depth_here}

-- ---- the value of a row is small
pub value_small : {body t : List ℕ} {k : ℕ} → Readable body t → length body ≤ 65536 → InTable t k → {from : ℕ}
    → from ≡ get_or t (k * 8 + 5) 0
    → {l : List ℕ} → l ≡ value_at body t k
    → from + length l ≤ 2 ^ 16
value_small {body} {t} {k = k} o small i e f =
    let m = length-take (get_or t (k * 8 + 6) 0) (drop (get_or t (k * 8 + 5) 0) body) in
    omega (arith, m, ap length f, (spans_within o i).value, small)

-- where it begins, by the definition
pub value_begins : (t : List ℕ) (n k : ℕ) → k < n → value_start_at (rows_from t 0 n) k ≡ get_or t (k * 8 + 5) 0
value_begins t n k h =
    let z : 0 + k ≡ k = omega arith in value_start_lem (rows_from t 0 n) k (rw z at (drop_from t 0 k n) ∙ unroll t k n h)

-- ---- the loop: at depth d and row k what is left gives the whole
abbrev first_from : List ℕ → List ℕ → ℕ → Option Refusal → Start → ℕ → ℕ → Answer (List ℕ)
first_from body t n failure s d k =
    first_text (rows_from t 0 n) (failure_at failure) (scope_of (start_at body t s)) (depth d) k (toks_from body t n k)

-- the definition's text, whatever else the view is that it is asked of
abbrev the_text : List ℕ → List ℕ → ℕ → Option Refusal → Start → Cursor → Answer (List ℕ)
the_text body t n failure s c =
    pick s.closed (gives []) (first_from body t n failure s c.depth.0 c.row)

text_is : (body t : List ℕ) (n : ℕ) (failure : Option Refusal) (s : Start) (c : Cursor) {a : Answer (List ℕ)}
    → a ≡ the_text body t n failure s c
    → (v : Seen) → v.rows ≡ rows_from t 0 n → v.failure ≡ failure_at failure → a ≡ text_of v (child_from body t n s c)
unfolding text_of
text_is body t n failure s c e v f g = rw (f, g) e

pub record TextFrom (body t : List ℕ) (n : ℕ) (failure : Option Refusal) (s : Start) (c : Cursor) (d k : ℕ) : Type 0 where
  pub rest : first_from body t n failure s d k ≡ the_text body t n failure s c

module _ (body t : List ℕ) (n : ℕ) (failure : Option Refusal) (s : Start) (c : Cursor) where
  pub text_closed : s.closed ≡ true → TextBy body t n failure s c (Ok None)
  text_closed q = record { same = text_is body t n failure s c (rw q refl); row = tt }

  pub text_start : s.closed ≡ false → TextFrom body t n failure s c c.depth.0 c.row
  text_start q = record { rest = rw q refl }

-- what is no text and no start is passed over, unless it ends the scope
pub passed : {m : Name} {l : List ℕ} {kind : ℕ} {u : Tok} → Kind m l kind u → (kind ≡ 1 → ⊥) → (kind ≡ 6 → ⊥)
    → (take : List ℕ → Answer (List ℕ) → Answer (List ℕ)) (s : Scope) (d : Depth) (more : Answer (List ℕ))
    → text_turn take s d u more ≡ pick (ends_at s d u) (gives []) more
passed of_start a b take s d more = absurd (a refl)
passed of_attr a b take s d more = refl
passed of_gt a b take s d more = refl
passed of_close a b take s d more = refl
passed of_slash a b take s d more = refl
passed {l = l} {kind} (of_matter {m = x} w) a b take s d more = go x w
  where
    go : (x : Matter) → OfMatter l kind x → text_turn take s d (matter x) more ≡ more
    go (text v) w = absurd (b (w.is_text v refl))
    go misc w = refl
passed (of_error w) a b take s d more = refl

failed_is : (o : Option Refusal) {why : Refusal} → o ≡ Some why → at_end (failure_at o) ≡ refuses why
failed_is o q = rw q

none_is : (o : Option Refusal) → o ≡ None → at_end (failure_at o) ≡ gives []
none_is o q = rw q

module _ {body t : List ℕ} {n : ℕ} {failure : Option Refusal} {start : Start} {c : Cursor} {d k : ℕ}
    (w : TextFrom body t n failure start c d k) where
  abbrev s : Scope
  s = scope_of (start_at body t start)

  abbrev rows : List Row
  rows = rows_from t 0 n

  abbrev whole : Answer (List ℕ)
  whole = the_text body t n failure start c

  -- where the rows run out
  ended : n ≤ k → at_end (failure_at failure) ≡ whole
  ended h = sym (first_text_end rows (failure_at failure) s (depth d) k) ∙ rw (toks_none body t n k h) at w.rest

  pub text_failed : {why : Refusal} → n ≤ k → failure ≡ Some why → TextBy body t n failure start c (Err why)
  text_failed h q = record { same = text_is body t n failure start c (sym (failed_is failure q) ∙ ended h); row = tt }

  pub text_empty : n ≤ k → failure ≡ None → TextBy body t n failure start c (Ok None)
  text_empty h q = record { same = text_is body t n failure start c (sym (none_is failure q) ∙ ended h); row = tt }

  module _ (h : k < n) where
    -- what one row does
    turned : text_turn (take_first (get_or t (k * 8 + 5) 0)) s (depth_after (tok_at body t k) (depth d)) (tok_at body t k)
        (first_text rows (failure_at failure) s (depth_after (tok_at body t k) (depth d)) (k + 1) (toks_from body t n (k + 1)))
        ≡ whole
    turned =
        let u = tok_at body t k in
        let x = first_text_token rows (failure_at failure) s (depth d) k u (toks_from body t n (suc k)) in
        rw (← add-one k) at
        (sym (rw (value_begins t n k h) at x)
        ∙ (ap (first_text rows (failure_at failure) s (depth d) k) (sym (rw (add-one k) at (toks_next body t n k h))) ∙ w.rest))

    module _ {kind : ℕ} (g : kind ≡ get_or t (k * 8 + 0) 0) where
      pub text_element : kind ≡ 1 → TextBy body t n failure start c (Err Refusal.ElementInText)
      unfolding tok_as
      text_element q = record { same = text_is body t n failure start c (rw (← g, q) at turned); row = tt }

      pub text_row : kind ≡ 6 → InTable t k → TextBy body t n failure start c (Ok (Some k))
      unfolding tok_as
      text_row q i = record { same = text_is body t n failure start c (rw (← g, q) at turned); row = i }

      module _ (a : (kind ≡ 6 → ⊥)) (b : (kind ≡ 1 → ⊥)) {d' : ℕ} (x : DepthIs kind d d') {r : Bool}
          (i : r ≡ ends_at s (depth d') (tok_at body t k)) where
        on : pick r (gives []) (first_from body t n failure start d' (k + 1)) ≡ whole
        on =
            let kind_is = kind_of_lem (get_or t (k * 8 + 0) 0) (name_at body t k) (value_at body t k) in
            let z =
            passed kind_is (rw g at b) (rw g at a) (take_first (get_or t (k * 8 + 5) 0)) s (depth d')
            (first_from body t n failure start d' (k + 1)) in
            rw i (sym z ∙ rw (depth_here body t d k g (x.is b)) at turned)

        pub text_on : r ≡ false → TextFrom body t n failure start c d' (k + 1)
        text_on q = record { rest = rw q at on }

        pub text_ended : r ≡ true → TextBy body t n failure start c (Ok None)
        text_ended q = record { same = text_is body t n failure start c (rw q at on); row = tt }

-- ---- as a text of a view
-- one without a byte is the empty text
pub empty_is : (r : Text) → r.bytes.now ≡ [] → given (Ok r) ≡ gives []
unfolding unescaped decode
empty_is r x = rw x

module _ (v : View) (s : Start) (c : Cursor) where
  abbrev FirstBy : Result (Option ℕ) Refusal → Type 0
  FirstBy r = TextBy v.table.body.now v.table.rows.now v.count v.failure s c r

  abbrev Given : Result Text Refusal → Type 0
  Given r = given r ≡ text_of (view_of v) (child_at v s c)

  pub given_refused : {why : Refusal} → FirstBy (Err why) → Given (Err why)
  given_refused x = x.same (view_of v) refl refl

  pub given_empty : FirstBy (Ok None) → (r : Text) → r.bytes.now ≡ [] → Given (Ok r)
  given_empty x r q = empty_is r q ∙ x.same (view_of v) refl refl

  pub given_row : {k : ℕ} → FirstBy (Ok (Some k)) → {r : Text} → ValueIs v.table.body.now v.table.rows.now k r → Given (Ok r)
  given_row x y = rw (y.from, y.bytes) (x.same (view_of v) refl refl)
