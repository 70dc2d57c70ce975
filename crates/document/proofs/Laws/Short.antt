-- How much a reader meets: no text and no attribute value is longer than the body, and there are no more children than tokens.
use Prim.Native.Nat.{ℕ, zero, suc, ◌≤◌}
use mathlib.Core.Path.{◌≡◌, refl}
use mathlib.Core.Bool.{Bool, true, false}
use mathlib.Core.List.{List, [], ◌∷◌}
use mathlib.Core.Option.{Option, none, some}
use native.Mathlib.Omega.{arith}
use lib.ListN.{length, drop, length-take, length-drop}
use Rattle.lists.specs.Every.{Every, none, and}
use Rattle.lists.proofs.Every.{every_snoc}
use Rattle.lists.proofs.Tests.{pick_all}
use Rattle.refusal.specs.declared.Refusal.{Refusal}
use Rattle.refusal.specs.Answer.{Answer, gives, refuses}
use Rattle.reference.specs.Text.{Out, bytes, unescaped}
use Rattle.reference.specs.Text as text
use Rattle.reference.proofs.Result.{unescaped_shorter}
use Rattle.table.specs.Row.{Row, Name, Tok, start, attr, gt, close, slash, text, misc, references_in, matter, bad, cut, name_of, value_of}
use Rattle.table.specs.Row.{toks_of}
use Rattle.table.proofs.Classes.{Kind, of_start, of_attr, of_gt, of_close, of_slash, of_matter, of_error, kind_of_lem}
use Rattle.document.specs.declared.Depth.{Depth}
use Rattle.document.specs.View.{View}
use Rattle.document.specs.Reader.{Reader, reader, fresh, shallower, depth_after, Scope, document, is_end, Past, Attribute, StartEl}
use Rattle.document.specs.Reader.{blank, add_attribute, on_attribute, on_close, Next, found, gone, take_turn, next}
use Rattle.document.specs.Scope.{Child, scope_of, shut, done, on_next, level, level_in, children, on_root, root_of}
use Rattle.document.specs.Text.{value_start_at, unescaped_from, at_end, text_turn, take_first, first_text, text_of}
use Rattle.document.proofs.Laws.Onward.{Leaves, leaves_found, leaves_none, next_leaves}
use Rattle.document.proofs.Laws.Fuel.{Shortens}

-- ---- tokens
-- the value of an attribute or a text; others have none
abbrev pub value_in : Tok → List ℕ
value_in (start n) = []
value_in (attr m v) = v
value_in gt = []
value_in (close m) = []
value_in slash = []
value_in (matter b) = references_in b
value_in bad = []

abbrev pub ShortValue : ℕ → Tok → Type 0
ShortValue most t = length (value_in t) ≤ most

short_value : {most k : ℕ} {n : Name} {v : List ℕ} {t : Tok} → Kind n v k t → length v ≤ most → ShortValue most t
short_value of_start h = omega arith
short_value of_attr h = h
short_value of_gt h = omega arith
short_value of_close h = omega arith
short_value of_slash h = omega arith
short_value (of_matter w) h = omega (arith, w.value, h)
short_value (of_error w) h = omega arith

pub cut_short : (body : List ℕ) (from len : ℕ) → length (cut body from len) ≤ length body
cut_short body from len = omega (arith, length-take len (drop from body), length-drop from body)

-- of any rows over a body
pub values_short : (body : List ℕ) (rows : List Row) → Every (ShortValue (length body)) (toks_of body rows)
values_short body [] = none
values_short body (r ∷ rows) =
    and (short_value (kind_of_lem r.kind (name_of body r) (value_of body r)) (cut_short body r.value_start r.value_len))
    (values_short body rows)

-- ---- attributes of a start element that is found
abbrev pub ShortAttribute : ℕ → Attribute → Type 0
ShortAttribute most a = length a.value ≤ most

data ShortStart (most : ℕ) : Next → Type 0 where
  short_start : {el : StartEl} {r : Reader} → Every (ShortAttribute most) el.attributes → ShortStart most (found el r)
  no_start : {p : Past} → ShortStart most (gone p)

module _ (most : ℕ) (s : Scope) where
  next_short : (o : StartEl) (d : Depth) (k : ℕ) (l : List Tok) → Every (ShortValue most) l → Every (ShortAttribute most) o.attributes
      → ShortStart most (next s o d k l)
  unfolding next
  next_short o d k [] none a = no_start
  next_short o d k (start n ∷ l) (and h e) a = next_short _ _ (suc k) l e a
  next_short o d k (attr n v ∷ l) (and h e) a =
      go (unescaped v) refl (λ (x : List ℕ) i. next_short (add_attribute o n x) d (suc k) l e (every_snoc a (omega (arith, i, h))))
    where
      go : (u : Out) → unescaped v ≡ u → ((x : List ℕ) → length x ≤ length v → ShortStart most (next s (add_attribute o n x) d (suc k) l))
          → ShortStart most (take_turn (on_attribute o n u) (reader d (suc k) l) (λ (o' : StartEl). next s o' d (suc k) l))
      go (bytes x) q ih = ih x (unescaped_shorter v x q)
      go (text.bad at) q ih = no_start
  next_short o d k (gt ∷ l) (and h e) a = short_start a
  next_short o d k (close n ∷ l) (and h e) a = go (is_end s (shallower d) n) (next_short o (shallower d) (suc k) l e a)
    where
      go : (ends : Bool) → ShortStart most (next s o (shallower d) (suc k) l)
          → ShortStart most (take_turn (on_close o ends) (reader (shallower d) (suc k) l)
          (λ (o' : StartEl). next s o' (shallower d) (suc k) l))
      go true ih = no_start
      go false ih = ih
  next_short o d k (slash ∷ l) (and h e) a = short_start a
  next_short o d k (matter b ∷ l) (and h e) a = next_short o d (suc k) l e a
  next_short o d k (bad ∷ l) (and h e) a = next_short o d (suc k) l e a

pub root_attributes_short : (most : ℕ) (toks : List Tok) → Every (ShortValue most) toks → (c : Child) → root_of toks ≡ some c
    → Every (ShortAttribute most) c.start.attributes
unfolding root_of
root_attributes_short most toks h c e = go (next_short most document blank (fresh toks).depth 0 toks h none) e
  where
    go : {x : Next} → ShortStart most x → on_root x ≡ some c → Every (ShortAttribute most) c.start.attributes
    go (short_start {el = el} {r = r} a) e = let q : record { start = el; inner = r } ≡ c = cc in rw (← q) a
    go no_start e = let z : ◌≡◌ {A = ℕ} 0 1 = cc in absurd (omega arith)

-- ---- the first text of an element
pub data ShortText (most : ℕ) : Answer (List ℕ) → Type 0 where
  short_text : {b : List ℕ} → length b ≤ most → ShortText most (gives b)
  no_text : {r : Refusal} → ShortText most (refuses r)

module _ (most : ℕ) where
  at_end_short : (failure : Option Refusal) → ShortText most (at_end failure)
  at_end_short none = short_text {b = []} (omega arith)
  at_end_short (some r) = no_text

  unescaped_short : (from : ℕ) (v : List ℕ) → length v ≤ most → ShortText most (unescaped_from from (unescaped v))
  unescaped_short from v h = go (unescaped v) refl
    where
      go : (u : Out) → unescaped v ≡ u → ShortText most (unescaped_from from u)
      go (bytes x) q = short_text {b = x} (omega (arith, unescaped_shorter v x q, h))
      go (text.bad at) q = no_text

  turn_short : (from : ℕ) (s : Scope) (d : Depth) (t : Tok) → ShortValue most t → (more : Answer (List ℕ)) → ShortText most more
      → ShortText most (text_turn (take_first from) s d t more)
  turn_short from s d (start n) h more m = no_text
  turn_short from s d (attr n v) h more m = m
  turn_short from s d gt h more m = m
  turn_short from s d (close n) h more m = pick_all (ShortText most) (is_end s d n) (gives []) more (short_text {b = []} (omega arith)) m
  turn_short from s d slash h more m = m
  turn_short from s d (matter (text v)) h more m = unescaped_short from v h
  turn_short from s d (matter misc) h more m = m
  turn_short from s d bad h more m = m

  first_text_short : (rows : List Row) (failure : Option Refusal) (s : Scope) (d : Depth) (k : ℕ) {l : List Tok}
      → Every (ShortValue most) l → ShortText most (first_text rows failure s d k l)
  unfolding first_text
  first_text_short rows failure s d k none = at_end_short failure
  first_text_short rows failure s d k (and {x = t} {l = l} h e) =
      turn_short (value_start_at rows k) s (depth_after t d) t h (first_text rows failure s (depth_after t d) (suc k) l)
      (first_text_short rows failure s (depth_after t d) (suc k) e)

  pub text_short : (v : View) (c : Child) → Every (ShortValue most) c.inner.rest → ShortText most (text_of v c)
  unfolding text_of
  text_short v c e =
      pick_all (ShortText most) c.start.closed (gives [])
      (first_text v.rows v.failure (scope_of c.start) c.inner.depth c.inner.row c.inner.rest)
      (short_text {b = []} (omega arith)) (first_text_short v.rows v.failure (scope_of c.start) c.inner.depth c.inner.row e)

-- ---- each child takes a token at least
pub few_children : (past : Child → Reader) → Shortens past → (f : ℕ) (s : Scope) (r : Reader)
    → length (children (level f past s r)) ≤ length r.rest
unfolding level children
few_children past short zero s r = omega arith
few_children past short (suc f) s r = go (next_leaves s blank r.depth r.row r.rest) (few_children past short f s)
  where
    go : {x : Next} → Leaves r x → ((q : Reader) → length (children (level f past s q)) ≤ length q.rest)
        → length (children (on_next past (level f past s) x)) ≤ length r.rest
    go (leaves_found {el = el} q g h) ih =
        let c : Child = record { start = el; inner = q } in
        omega (arith, ih (past c), short c, h)
    go (leaves_none p g) ih = omega arith

pub few_inside : (past : Child → Reader) → Shortens past → (c : Child) → length (children (level_in past c)) ≤ length c.inner.rest
unfolding children
few_inside past short c =
    pick_all (λ l. length (children l) ≤ length c.inner.rest) c.start.closed (done (shut c.inner))
    (level (suc (length c.inner.rest)) past (scope_of c.start) c.inner)
    (omega arith) (few_children past short (suc (length c.inner.rest)) (scope_of c.start) c.inner)
