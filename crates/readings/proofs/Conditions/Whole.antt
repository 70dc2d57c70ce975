-- 01, "Whole text": "1, 9, 4, 6 (any element inside the root), 10", each exactly where its condition holds, on every input. It is never 7:
-- what passes the drain unescapes.
use Prim.Native.Nat.{ℕ, suc, ◌<◌}
use mathlib.Core.Path.{◌≡◌, refl, sym, ◌∙◌, ap, subst, subst⁻¹}
use mathlib.Core.Logic.{◌↔◌}
use mathlib.Core.Bool.{Bool, true, false}
use mathlib.Core.List.{List, [], ◌∷◌, ◌++◌, Memᴰ}
use mathlib.Core.Option.{Option, none, some, some-injective, none-ne-some}
use lib.ListN.{length}
use Rattle.std.specs.Prelude.{Err, Ok, Result}
use Rattle.lists.specs.Tests.{pick}
use Rattle.lists.proofs.Tests.{false_true}
use Rattle.refusal.specs.declared.Refusal.{Refusal}
use Rattle.refusal.specs.Answer.{Answer, gives, refuses, onward}
use Rattle.reference.specs.Text.{Out, unescaped}
use Rattle.reference.specs.Text as text
use Rattle.reference.proofs.Lenient.{valid_unescapes}
use Rattle.reference.proofs.Place.{no_bytes}
use Rattle.table.specs.Row.{Row, Name, Tok, start, attr, gt, close, slash, text, misc, matter, bad, rows_of, toks_of}
use Rattle.xml.specs.declared.Cause.{Cause}
use Rattle.xml.specs.declared.DrainError.{DrainError}
use Rattle.xml.specs.Drain.{drained}
use Rattle.xml.proofs.First.{drained_table_is}
use Rattle.xml.proofs.Means.{drained_passes_is}
use Rattle.document.specs.declared.Depth.{Depth}
use Rattle.document.specs.Reader.{Reader, reader, fresh, depth_after, Scope, document}
use Rattle.document.specs.Reader.{is_end, ends_at, StartEl, blank, Turn, goes, complete}
use Rattle.document.specs.Reader.{over, turn, Next, found, gone, take_turn, next}
use Rattle.document.specs.Scope.{Child, scope_of, root_of, on_root, next_from}
use Rattle.document.specs.Text.{value_start_at, unescaped_from, text_turn, take_each, joined, whole_of}
use Rattle.readings.specs.Call.{Upload}
use Rattle.readings.specs.Opening.{present}
use Rattle.document.specs.Text.{string_in}
use Rattle.readings.specs.Scalar.{passing, whole_text}
use Rattle.readings.proofs.Conditions.Answers.{given_refused, refuses_same}
use Rattle.readings.proofs.Conditions.Opening.{TableBroken}
use Rattle.readings.proofs.Conditions.Values.{StringTooLong, too_long, string_text_refusal}

-- ---- the tokens inside the root are tokens of the table
abbrev rest_in : List Tok → Next → List Tok
rest_in other (found el r) = r.rest
rest_in other (gone p) = other

abbrev is_found : Next → Bool
is_found (found el r) = true
is_found (gone p) = false

pub next_rest : (s : Scope) (o : StartEl) (d : Depth) (k : ℕ) (l : List Tok) {el : StartEl} {r : Reader} → next s o d k l ≡ found el r
    → {t : Tok} → Memᴰ t r.rest → Memᴰ t l
unfolding next
next_rest s o d k [] e i = false_true (ap is_found e)
next_rest s o d k (x ∷ l) {el} {r} e {t} i = go (turn s o d k x) e (λ (o' : StartEl) q. next_rest s o' (depth_after x d) (suc k) l q i)
  where
    go : (u : Turn) → take_turn u (reader (depth_after x d) (suc k) l) (λ (o' : StartEl). next s o' (depth_after x d) (suc k) l)
        ≡ found el r →
        ((o' : StartEl) → next s o' (depth_after x d) (suc k) l ≡ found el r → Memᴰ t l) → Memᴰ t (x ∷ l)
    go (goes o') e ih = Memᴰ.tail (ih o' e)
    go (complete o') e ih = Memᴰ.tail (subst⁻¹ (Memᴰ t) (ap (rest_in []) e) i)
    go (over b) e ih = false_true (ap is_found e)

pub root_rest : (toks : List Tok) (c : Child) → root_of toks ≡ some c → (t : Tok) → Memᴰ t c.inner.rest → Memᴰ t toks
unfolding root_of
root_rest toks c e t i = go (next_from document (fresh toks)) refl e
  where
    go : (n : Next) → next_from document (fresh toks) ≡ n → on_root n ≡ some c → Memᴰ t toks
    go (found el r) p e = next_rest document blank _ _ toks p
        (subst⁻¹ (λ (x : Child). Memᴰ t x.inner.rest) (some-injective _ _ e) i)
    go (gone q) p e = absurd (none-ne-some c e)

-- ---- what passes the drain unescapes
abbrev pub Unescapes : List Tok → Type 0
Unescapes l = (v : List ℕ) → Memᴰ (matter (text v)) l → (b : List ℕ) × (unescaped v ≡ text.bytes b)

member_parts : {t : Tok} {l : List Tok} → Memᴰ t l → (a : List Tok) × (b : List Tok) × (l ≡ a ++ (t ∷ b))
member_parts {t} (Memᴰ.head {xs = l} e) = ([], l, ap (λ (x : Tok). x ∷ l) (sym e))
member_parts {t} (Memᴰ.tail {x = x} i) = let w = member_parts i in (x ∷ w.0, w.1, ap (λ (k : List Tok). x ∷ k) w.2)

pub passed_unescapes : (u : Upload) → drained u.body u.rows u.end ≡ Ok tt
    → Unescapes (toks_of u.body (rows_of u.rows))
passed_unescapes u e v i =
    let w = member_parts i in
    valid_unescapes v (((drained_passes_is u.body u.rows u.end).0 e).well_formed.text_values w.0 v w.1 w.2)

-- ---- "6 (any element inside the root)": a start tag before the end of the scope
pub data ElementAhead (s : Scope) : Depth → List Tok → Type 0 where
  element_here : {d : Depth} {n : Name} {l : List Tok} → ElementAhead s d (start n ∷ l)
  element_later : {d : Depth} {t : Tok} {l : List Tok} → ends_at s (depth_after t d) t ≡ false → ElementAhead s (depth_after t d) l
      → ElementAhead s d (t ∷ l)

joined_refused : (rows : List Row) (s : Scope) (d : Depth) (k : ℕ) (l : List Tok) → Unescapes l → {r : Refusal}
    → joined rows s d k l ≡ refuses r
    → (r ≡ Refusal.ElementInText) × ElementAhead s d l
unfolding joined
joined_refused rows s d k [] u e = given_refused e
joined_refused rows s d k (start n ∷ l) u e = (sym (refuses_same e), element_here)
joined_refused rows s d k (attr m v ∷ l) u e =
    let w = joined_refused rows s d (suc k) l (λ x i. u x (Memᴰ.tail i)) e in (w.0, element_later refl w.1)
joined_refused rows s d k (gt ∷ l) u e =
    let w = joined_refused rows s d (suc k) l (λ x i. u x (Memᴰ.tail i)) e in (w.0, element_later refl w.1)
joined_refused rows s d k (close m ∷ l) u {r} e =
    go (is_end s (depth_after (close m) d) m) refl e
    (λ q. joined_refused rows s (depth_after (close m) d) (suc k) l (λ x i. u x (Memᴰ.tail i)) q)
  where
    go : (b : Bool) → is_end s (depth_after (close m) d) m ≡ b
        → pick b (gives []) (joined rows s (depth_after (close m) d) (suc k) l) ≡ refuses r →
        (joined rows s (depth_after (close m) d) (suc k) l ≡ refuses r
        → (r ≡ Refusal.ElementInText) × ElementAhead s (depth_after (close m) d) l) →
        (r ≡ Refusal.ElementInText) × ElementAhead s d (close m ∷ l)
    go true p e ih = given_refused e
    go false p e ih = let w = ih e in (w.0, element_later p w.1)
joined_refused rows s d k (slash ∷ l) u e =
    let w = joined_refused rows s (depth_after slash d) (suc k) l (λ x i. u x (Memᴰ.tail i)) e in (w.0, element_later refl w.1)
joined_refused rows s d k (matter (text v) ∷ l) u {r} e =
    go (unescaped v) (u v (Memᴰ.head refl)) e (λ q. joined_refused rows s d (suc k) l (λ x i. u x (Memᴰ.tail i)) q)
  where
    more : (a : Answer (List ℕ)) (front : List ℕ) → onward a (λ (rest : List ℕ). gives (front ++ rest)) ≡ refuses r → a ≡ refuses r
    more (gives rest) front e = given_refused e
    more (refuses q) front e = ap refuses (refuses_same e)

    go : (o : Out) → (b : List ℕ) × (o ≡ text.bytes b) →
        onward (unescaped_from (value_start_at rows k) o)
        (λ (front : List ℕ). onward (joined rows s d (suc k) l) (λ (rest : List ℕ). gives (front ++ rest))) ≡ refuses r →
        (joined rows s d (suc k) l ≡ refuses r → (r ≡ Refusal.ElementInText) × ElementAhead s d l)
        → (r ≡ Refusal.ElementInText) × ElementAhead s d (matter (text v) ∷ l)
    go (text.bytes b) p e ih = let w = ih (more (joined rows s d (suc k) l) b e) in (w.0, element_later refl w.1)
    go (text.bad at) p e ih = no_bytes p.1
joined_refused rows s d k (matter misc ∷ l) u e =
    let w = joined_refused rows s d (suc k) l (λ x i. u x (Memᴰ.tail i)) e in (w.0, element_later refl w.1)
joined_refused rows s d k (bad ∷ l) u e =
    let w = joined_refused rows s d (suc k) l (λ x i. u x (Memᴰ.tail i)) e in (w.0, element_later refl w.1)

-- a token that is no end hands on the refusal of those after it
hands_on : (from : ℕ) (s : Scope) (d : Depth) (t : Tok) (more : Answer (List ℕ))
    → ((v : List ℕ) → t ≡ matter (text v) → (b : List ℕ) × (unescaped v ≡ text.bytes b)) → ends_at s d t ≡ false →
    more ≡ refuses Refusal.ElementInText → text_turn (take_each from) s d t more ≡ refuses Refusal.ElementInText
hands_on from s d (start n) more u e q = refl
hands_on from s d (attr m v) more u e q = q
hands_on from s d gt more u e q = q
hands_on from s d (close m) more u e q = rw e q
hands_on from s d slash more u e q = q
hands_on from s d (matter (text v)) more u e q = rw ((u v refl).1, q)
hands_on from s d (matter misc) more u e q = q
hands_on from s d bad more u e q = q

refused_joined : (rows : List Row) {s : Scope} {d : Depth} (k : ℕ) {l : List Tok} → Unescapes l → ElementAhead s d l
    → joined rows s d k l ≡ refuses Refusal.ElementInText
unfolding joined
refused_joined rows k u element_here = refl
refused_joined rows {s = s} k u (element_later {d = d} {t = t} {l = l} e w) =
    hands_on (value_start_at rows k) s (depth_after t d) t (joined rows s (depth_after t d) (suc k) l)
    (λ (v : List ℕ) q. u v (Memᴰ.head (sym q))) e
    (refused_joined rows (suc k) (λ x i. u x (Memᴰ.tail i)) w)

-- an element that did not end in `/>`, with an element inside it
pub record HasElement (c : Child) : Type 0 where
  pub not_closed : c.start.closed ≡ false
  pub inside : ElementAhead (scope_of c.start) c.inner.depth c.inner.rest

whole_element : (rows : List Row) (c : Child) (r : Refusal) → Unescapes c.inner.rest → whole_of rows c ≡ refuses r
    → (r ≡ Refusal.ElementInText) × HasElement c
unfolding whole_of
whole_element rows c r u e = go c.start.closed refl e
  where
    go : (b : Bool) → c.start.closed ≡ b
        → pick b (gives []) (joined rows (scope_of c.start) c.inner.depth c.inner.row c.inner.rest) ≡ refuses r
        → (r ≡ Refusal.ElementInText) × HasElement c
    go true p e = given_refused e
    go false p e = let w = joined_refused rows (scope_of c.start) c.inner.depth c.inner.row c.inner.rest u e in
        (w.0, record { not_closed = p; inside = w.1 })

element_whole : (rows : List Row) (c : Child) → Unescapes c.inner.rest → HasElement c → whole_of rows c ≡ refuses Refusal.ElementInText
unfolding whole_of
element_whole rows c u w = rw w.not_closed (refused_joined rows c.inner.row u w.inside)

module _ (u : Upload) (room : ℕ) where
  abbrev root : Option Child
  root = root_of (toks_of u.body (rows_of u.rows))

  pub data WholeRefused : Refusal → Type 0 where
    -- "1"
    whole_table : TableBroken u → WholeRefused Refusal.Table
    -- "9"
    whole_ill_formed : {row : ℕ} {cause : Cause} → drained u.body u.rows u.end ≡ Err (DrainError.IllFormed row cause)
        → WholeRefused Refusal.IllFormed
    -- "4"
    whole_no_root : drained u.body u.rows u.end ≡ Ok tt → root ≡ none → WholeRefused Refusal.NoRoot
    -- "6 (any element inside the root)"
    whole_has_element : {c : Child} → drained u.body u.rows u.end ≡ Ok tt → root ≡ some c → HasElement c
        → WholeRefused Refusal.ElementInText
    -- "10"
    whole_no_room : {c : Child} {text : List ℕ} → drained u.body u.rows u.end ≡ Ok tt → root ≡ some c
        → whole_of (rows_of u.rows) c ≡ gives text → room < length text →
        WholeRefused Refusal.NoRoom

  pub whole_text_refusal : (r : Refusal) → (whole_text u room ≡ refuses r) ↔ WholeRefused r
  unfolding whole_text
  whole_text_refusal r = (on_drain (drained u.body u.rows u.end) refl, back)
    where
      inner : drained u.body u.rows u.end ≡ Ok tt → {c : Child} → root ≡ some c → Unescapes c.inner.rest
      inner p {c} q v i = passed_unescapes u p v (root_rest (toks_of u.body (rows_of u.rows)) c q (matter (text v)) i)

      long : {c : Child} {t : List ℕ} → drained u.body u.rows u.end ≡ Ok tt → root ≡ some c
          → whole_of (rows_of u.rows) c ≡ gives t
          → {q : Refusal} → StringTooLong room t q → WholeRefused q
      long p c w (too_long h) = whole_no_room p c w h

      on_text : (c : Child) (a : Answer (List ℕ)) → whole_of (rows_of u.rows) c ≡ a → drained u.body u.rows u.end ≡ Ok tt
          → root ≡ some c
          → onward a (string_in room) ≡ refuses r → WholeRefused r
      on_text c (gives t) w p q e = long p q w ((string_text_refusal room t r).0 e)
      on_text c (refuses n) w p q e =
          let k = whole_element (rows_of u.rows) c n (inner p q) w in
          subst WholeRefused (sym k.0 ∙ refuses_same e) (whole_has_element p q k.1)

      on_roots : (o : Option Child) → root ≡ o → drained u.body u.rows u.end ≡ Ok tt →
          onward (present Refusal.NoRoot o) (λ (c : Child). onward (whole_of (rows_of u.rows) c) (string_in room)) ≡ refuses r
          → WholeRefused r
      on_roots none q p e = subst WholeRefused (refuses_same e) (whole_no_root p q)
      on_roots (some c) q p e = on_text c (whole_of (rows_of u.rows) c) refl p q e

      on_drain : (x : Result (Unit {0}) DrainError) → drained u.body u.rows u.end ≡ x →
          passing x (onward (present Refusal.NoRoot root) (λ (c : Child). onward (whole_of (rows_of u.rows) c) (string_in room)))
          ≡ refuses r → WholeRefused r
      on_drain (Ok u) p e = on_roots root refl p e
      on_drain (Err DrainError.Table) p e = subst WholeRefused (refuses_same e) (whole_table ((drained_table_is u.body u.rows u.end).0 p))
      on_drain (Err (DrainError.IllFormed k c)) p e = subst WholeRefused (refuses_same e) (whole_ill_formed p)

      back : {n : Refusal} → WholeRefused n
          → passing (drained u.body u.rows u.end)
          (onward (present Refusal.NoRoot root) (λ (c : Child). onward (whole_of (rows_of u.rows) c) (string_in room))) ≡ refuses n
      back (whole_table b) = rw ((drained_table_is u.body u.rows u.end).1 b)
      back (whole_ill_formed p) = rw p
      back (whole_no_root p q) = rw (p, q)
      back (whole_has_element {c = c} p q h) = rw (p, q, element_whole (rows_of u.rows) c (inner p q) h)
      back (whole_no_room {text = t} p q w h) = rw (p, q, w) ((string_text_refusal room t Refusal.NoRoom).1 (too_long h))
