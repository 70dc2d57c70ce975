-- What is known of the rows that a reader sees, by the rules of their table; the tokens that are left from a row on, and one row on.
use Prim.Native.Nat.{ℕ, zero, suc, ◌+◌, ◌-◌, ◌*◌, ◌/◌, ◌≤◌, ◌<◌}
use mathlib.Core.Path.{◌≡◌, refl, sym, ◌∙◌, ap}
use mathlib.Core.Bool.{Bool, true, false}
use mathlib.Core.List.{List, [], ◌∷◌}
use mathlib.Core.HLevel.{⊥_prop}
use mathlib.Core.Logic.{∥∥₁_elim}
use native.Mathlib.Numerals.{add-one}
use native.Mathlib.Omega.{arith}
use lib.Dec.{eqb, leb}
use borrow.Author.Tests.{leb-true, leb-false}
use lib.ListN.{length, get_or, take}
use Rattle.std.specs.Coded.{le_prop}
use Rattle.lists.specs.Tests.{pick}
use Rattle.lists.proofs.Tests.{false_true, less_is}
use Rattle.table.specs.Row.{Row, Name, Tok, bad, tok_as, toks_of}
use Rattle.table.specs.Rules.{closes_element, in_tag_only, open_count}
use Rattle.table.specs.Rules.{at_first as first_place}
use Rattle.table.specs.Flat.{row_at, rows_from}
use Rattle.table.specs.Rows.{InTable, Walkable, name_at, value_at, tok_at}
use Rattle.table.specs.Kinds.{IsKind, kind_number}
use Rattle.table.specs.declared.kinds.Kind.{Kind as Kinds}
use Rattle.table.proofs.Valid.{each_row, rules_at, error_last}
use Rattle.table.proofs.Flat.{unroll, rolled_out}
use Rattle.table.proofs.Classes.{Kind, of_start, of_attr, of_gt, of_close, of_slash, of_matter, of_error, kind_of_lem}
use Rattle.document.specs.declared.Depth.{Depth}
use Rattle.document.specs.Reader.{depth, depth_after, Scope, ends_at}
use Rattle.document.specs.Tags.{may_stand, in_tag_after, Tags, no_token, token}
use Rattle.document.proofs.Laws.Tags.{rows_tags}
use Rattle.decode.specs.declared.place.Cursor.{Cursor}
use Rattle.decode.specs.declared.place.Past.{Past}
use Rattle.decode.specs.Seen.{Sees}
use Rattle.decode.specs.Place.{toks_from, At, Tagged, Outside, OutOfTag, EndedAt, at_first}

-- ---- rows by number
pub take_rows : (t : List ℕ) (s k m : ℕ) → k ≤ m → take k (rows_from t s m) ≡ rows_from t s k
take_rows t s zero m h = refl
take_rows t s (suc k) zero h = absurd (omega arith)
take_rows t s (suc k) (suc m) h = ap {B = List Row} (λ l. row_at t s ∷ l) (take_rows t (suc s) k m (omega arith))

-- ---- the tokens that are left
pub toks_next : (body t : List ℕ) (n k : ℕ) → k < n → toks_from body t n k ≡ tok_at body t k ∷ toks_from body t n (k + 1)
toks_next body t n k h = ap (toks_of body) (unroll t k n h)

pub toks_none : (body t : List ℕ) (n k : ℕ) → n ≤ k → toks_from body t n k ≡ []
toks_none body t n k h = ap (toks_of body) (rolled_out t k n h)

-- the token of row k, by its kind
pub tok_is : (body t : List ℕ) (k : ℕ) {kind : ℕ} → kind ≡ get_or t (k * 8 + 0) 0 → tok_at body t k ≡ tok_as kind (name_at body t k)
    (value_at body t k)
tok_is body t k f = rw (← f)

-- start tags are in order: the next token may stand there, and those after it are in order
pub tags_next : (body t : List ℕ) (n k : ℕ) {b : Bool} → Tags b (toks_from body t n k) → k < n
    → (may_stand (tok_at body t k) b ≡ true) × Tags (in_tag_after (tok_at body t k) b) (toks_from body t n (k + 1))
tags_next body t n k {b} g h = go (rw (toks_next body t n k h) at g)
  where
    go : {u : Tok} {l : List Tok} → Tags b (u ∷ l) → (may_stand u b ≡ true) × Tags (in_tag_after u b) l
    go (token m r) = (m, r)

-- ---- n rows can be seen
pub row_seen : {t : List ℕ} {n k : ℕ} → n * 8 ≤ length t → k < n → InTable t k
row_seen h l = record { row = omega arith }

-- whether start tags are in order can be decided
dec_tags : (b : Bool) (l : List Tok) → Dec (Tags b l)
dec_tags b [] = yes no_token
dec_tags b (u ∷ l) = go (may_stand u b) refl (dec_tags (in_tag_after u b) l)
  where
    head : Tags b (u ∷ l) → may_stand u b ≡ true
    head (token m r) = m

    tail : Tags b (u ∷ l) → Tags (in_tag_after u b) l
    tail (token m r) = r

    go : (x : Bool) → may_stand u b ≡ x → Dec (Tags (in_tag_after u b) l) → Dec (Tags b (u ∷ l))
    go true e (yes r) = yes (token e r)
    go true e (no n) = no (λ g. n (tail g))
    go false e d = no (λ g. false_true {A = ⊥} (sym e ∙ head g))

tags_of : {b : Bool} {l : List Tok} → ∥ Tags b l ∥₁ → Tags b l
tags_of {b} {l} h = go (dec_tags b l)
  where
    go : Dec (Tags b l) → Tags b l
    go (yes g) = g
    go (no n) = absurd (∥∥₁_elim h ⊥_prop n)

-- the tokens of the first rows have their tags in order if those of all have
tags_front : (body t : List ℕ) (n s m : ℕ) {b : Bool} → n ≤ m → Tags b (toks_of body (rows_from t s m))
    → Tags b (toks_of body (rows_from t s n))
tags_front body t zero s m h g = no_token
tags_front body t (suc n) s zero h g = absurd (omega arith)
tags_front body t (suc n) s (suc m) h (token e g) = token e (tags_front body t n (suc s) m (omega arith) g)

-- of rows that can be walked, the first n
module _ {body t : List ℕ} (w : Walkable body t) (n : ℕ) (h : n * 8 ≤ length t) where
  pub sees : Sees body t n
  sees =
      record {
        each = λ k l. ∣ rules_at w (record { row = omega arith }) ∣₁;
        last = λ k l q. let z = error_last w (record { row = omega arith }) q in omega (arith, z, h);
      }

  pub fresh : Outside body t n at_first
  fresh =
      let z : n - 0 ≡ n = omega arith in
      record {
        at = record { high = omega arith; low = omega arith };
        tags = rw z (∣ tags_front body t n 0 (length t / 8) (omega arith) (rows_tags {p = first_place} (each_row w)) ∣₁);
      }

-- a row has a kind
pub kind_seen : {body t : List ℕ} {n k : ℕ} → Sees body t n → k < n → IsKind (get_or t (k * 8 + 0) 0)
kind_seen {k = k} q h =
    (∥∥₁_elim (q.each k h) le_prop (λ r. r.rules.known_kind.0), ∥∥₁_elim (q.each k h) le_prop (λ r. r.rules.known_kind.1))

-- ---- kinds of one number are the same
kind_from : ℕ → Kinds
kind_from zero = Kinds.Error
kind_from (suc zero) = Kinds.Start
kind_from (suc (suc zero)) = Kinds.Attribute
kind_from (suc (suc (suc zero))) = Kinds.Gt
kind_from (suc (suc (suc (suc zero)))) = Kinds.Close
kind_from (suc (suc (suc (suc (suc zero))))) = Kinds.Slash
kind_from (suc (suc (suc (suc (suc (suc zero)))))) = Kinds.Text
kind_from (suc (suc (suc (suc (suc (suc (suc zero))))))) = Kinds.Misc
kind_from (suc (suc (suc (suc (suc (suc (suc (suc k)))))))) = Kinds.Error

kind_back : (kind : Kinds) → kind_from (kind_number kind) ≡ kind
unfolding kind_from
kind_back Kinds.Start = refl
kind_back Kinds.Attribute = refl
kind_back Kinds.Gt = refl
kind_back Kinds.Close = refl
kind_back Kinds.Slash = refl
kind_back Kinds.Text = refl
kind_back Kinds.Misc = refl
kind_back Kinds.Error = refl

pub kind_same : (a b : Kinds) → kind_number a ≡ kind_number b → a ≡ b
kind_same a b e = sym (kind_back a) ∙ (ap kind_from e ∙ kind_back b)

-- ---- the depth after a row, by its kind
pub depth_open : {m : Name} {v : List ℕ} {kind : ℕ} {u : Tok} → Kind m v kind u → (d : ℕ)
    → depth_after u (depth d) ≡ depth (open_count d kind)
depth_open of_start d = refl
depth_open of_attr d = refl
depth_open of_gt d = refl
depth_open of_close d = ap depth (less_is d)
depth_open of_slash d = ap depth (less_is d)
depth_open (of_matter w) d = rw (w.loose.start, w.loose.closing)
depth_open (of_error w) d = rw (w.loose.start, w.loose.closing)

-- it is no greater than the number of rows before it
pub open_low : (d kind k : ℕ) → d ≤ k → open_count d kind ≤ k + 1
open_low d kind k h = go (eqb kind 1) (closes_element kind)
  where
    go : (a b : Bool) → pick a (suc d) (pick b (d - 1) d) ≤ k + 1
    go true b = omega arith
    go false true = omega arith
    go false false = omega arith

-- no close tag ends no scope
pub no_end : {m : Name} {v : List ℕ} {kind : ℕ} {u : Tok} → Kind m v kind u → (kind ≡ 4 → ⊥) → (s : Scope) (d : Depth)
    → false ≡ ends_at s d u
no_end of_start a s d = refl
no_end of_attr a s d = refl
no_end of_gt a s d = refl
no_end of_close a s d = absurd (a refl)
no_end of_slash a s d = refl
no_end (of_matter w) a s d = refl
no_end (of_error w) a s d = refl

-- ---- outside of start tags, by the tokens that are left
pub record Stands (body t : List ℕ) (n d k : ℕ) : Type 0 where
  pub high : k ≤ n
  pub low : d ≤ k
  pub tags : Tags false (toks_from body t n k)

pub stands : {body t : List ℕ} {n : ℕ} {c : Cursor} → Outside body t n c → Stands body t n c.depth.0 c.row
stands o = record { high = o.at.high; low = o.at.low; tags = tags_of o.tags }

pub outside : {body t : List ℕ} {n : ℕ} {c : Cursor} → Stands body t n c.depth.0 c.row → Outside body t n c
outside s = record { at = record { high = s.high; low = s.low }; tags = ∣ s.tags ∣₁ }

pub tagged : {body t : List ℕ} {n : ℕ} {c : Cursor} → Outside body t n c → Tagged body t n c
tagged o = record { at = o.at; in_tag = false; tags = tags_of o.tags }

-- start tags are in order from each later place on, and from each place of all where they are from the first
tagged_from : (body t : List ℕ) (n m s : ℕ) {b : Bool} → Tags b (toks_from body t n s) → s + m ≤ n
    → (c : Cursor) → At n c → c.row ≡ s + m → Tagged body t n c
tagged_from body t n zero s {b} g h c a e =
    let z : c.row ≡ s = omega (arith, e) in record { at = a; in_tag = b; tags = rw z g }
tagged_from body t n (suc m) s {b} g h c a e =
    let z : c.row ≡ suc s + m = omega (arith, e) in
    tagged_from body t n m (suc s) (rw (add-one s) at (tags_next body t n s g (omega arith)).1) (omega arith) c a z

pub tagged_later : {body t : List ℕ} {n : ℕ} {s : Cursor} → Outside body t n s → (c : Cursor) → At n c → s.row ≤ c.row → Tagged body t n c
tagged_later {body} {t} {n} {s} o c a h =
    tagged_from body t n (c.row - s.row) s.row (tags_of o.tags) (omega (arith, h, a.high)) c a (omega (arith, h))

pub tagged_anywhere : {body t : List ℕ} {n : ℕ} → Outside body t n at_first → (c : Cursor) → At n c → Tagged body t n c
tagged_anywhere o c a = tagged_later o c a (omega arith)

-- ---- a token error is the last row
-- one in a start tag that is of no kind that comes in one alone is a token error
error_in_tag : {m : Name} {v : List ℕ} {kind : ℕ} {u : Tok} → Kind m v kind u → may_stand u true ≡ true → in_tag_only kind ≡ false → u ≡ bad
error_in_tag of_start e f = false_true e
error_in_tag of_attr e f = false_true (sym f)
error_in_tag of_gt e f = false_true (sym f)
error_in_tag of_close e f = false_true e
error_in_tag of_slash e f = false_true (sym f)
error_in_tag (of_matter w) e f = false_true e
error_in_tag (of_error w) e f = refl

error_number : {m : Name} {v : List ℕ} {kind : ℕ} {u : Tok} → Kind m v kind u → u ≡ bad → 1 ≤ kind → kind ≤ 8 → kind ≡ 8
error_number of_start q l h = let z : ◌≡◌ {A = ℕ} 0 1 = cc in absurd (omega arith)
error_number of_attr q l h = let z : ◌≡◌ {A = ℕ} 0 1 = cc in absurd (omega arith)
error_number of_gt q l h = let z : ◌≡◌ {A = ℕ} 0 1 = cc in absurd (omega arith)
error_number of_close q l h = let z : ◌≡◌ {A = ℕ} 0 1 = cc in absurd (omega arith)
error_number of_slash q l h = let z : ◌≡◌ {A = ℕ} 0 1 = cc in absurd (omega arith)
error_number (of_matter w) q l h = let z : ◌≡◌ {A = ℕ} 0 1 = cc in absurd (omega arith)
error_number (of_error w) q l h = w.eight l h

pub error_end : {body t : List ℕ} {n : ℕ} → Sees body t n → (k : ℕ) → k < n → tok_at body t k ≡ bad → n ≤ k + 1
error_end {body} {t} q k h e =
    let kind = kind_of_lem (get_or t (k * 8 + 0) 0) (name_at body t k) (value_at body t k) in
    q.last k h (error_number kind e (kind_seen q h).0 (kind_seen q h).1)

-- a place where the next row is of no kind that comes in a start tag alone is outside of them
pub outside_by_kind : {body t : List ℕ} {n : ℕ} → Sees body t n → {c : Cursor} → Tagged body t n c
    → (c.row < n → in_tag_only (get_or t (c.row * 8 + 0) 0) ≡ false) → Outside body t n c
outside_by_kind {body} {t} {n} q {c} o out = record { at = o.at; tags = ∣ go o.in_tag o.tags ∣₁ }
  where
    -- in a start tag there is a token error, the last row
    inside : {b : Bool} → b ≡ true → Tags b (toks_from body t n c.row) → c.row < n → Tags false (toks_from body t n c.row)
    inside {b} e g h =
        let x = tags_next body t n c.row g h in
        let kind = kind_of_lem (get_or t (c.row * 8 + 0) 0) (name_at body t c.row) (value_at body t c.row) in
        let y = error_in_tag kind (rw e at x.0) (out h) in
        let z = toks_none body t n (c.row + 1) (error_end q c.row h y) in
        rw (toks_next body t n c.row h, y, z) (token refl no_token)

    more : (u : Bool) → leb (c.row + 1) n ≡ u → Tags true (toks_from body t n c.row) → Tags false (toks_from body t n c.row)
    more true e g = inside refl g (omega (arith, leb-true (c.row + 1) n e))
    more false e g = rw (toks_none body t n c.row (omega (arith, leb-false (c.row + 1) n e))) no_token

    go : (b : Bool) → Tags b (toks_from body t n c.row) → Tags false (toks_from body t n c.row)
    go false g = g
    go true g = more (leb (c.row + 1) n) refl g

-- ---- the same by the next row alone
out_of_kind : {m : Name} {v : List ℕ} {kind : ℕ} {u : Tok} → Kind m v kind u → may_stand u false ≡ true → in_tag_only kind ≡ false
out_of_kind of_start e = refl
out_of_kind of_attr e = false_true e
out_of_kind of_gt e = false_true e
out_of_kind of_close e = refl
out_of_kind of_slash e = false_true e
out_of_kind (of_matter w) e = w.loose.in_tag
out_of_kind (of_error w) e = w.loose.in_tag

pub out_of_tag : {body t : List ℕ} {n : ℕ} {c : Cursor} → Outside body t n c → OutOfTag t n c
out_of_tag {body} {t} {n} {c} o =
    record {
      at = o.at;
      out = λ h. let kind = kind_of_lem (get_or t (c.row * 8 + 0) 0) (name_at body t c.row) (value_at body t c.row) in
          out_of_kind kind (tags_next body t n c.row (tags_of o.tags) h).0;
    }

-- it is enough after a place that is outside of start tags
pub outside_later : {body t : List ℕ} {n : ℕ} → Sees body t n → {s c : Cursor} → Outside body t n s → s.row ≤ c.row → OutOfTag t n c
    → Outside body t n c
outside_later q {s} {c} o h x = outside_by_kind q (tagged_later o c x.at h) x.out

-- and at any place of rows that can be walked
module _ {body t : List ℕ} (w : Walkable body t) (n : ℕ) (h : n * 8 ≤ length t) where
  pub outside_walked : {c : Cursor} → OutOfTag t n c → Outside body t n c
  outside_walked {c} x = outside_later (sees w n h) (fresh w n h) (omega arith) x

  pub ended_walked : {p : Past} → At n p.at → (p.ended ≡ true → OutOfTag t n p.at) → EndedAt body t n p
  ended_walked {p} a out = record { at = tagged_anywhere (fresh w n h) p.at a; out = λ e. outside_walked (out e) }
