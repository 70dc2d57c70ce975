-- 01, "Find": "1 or 13 (13 also without a root)", each exactly where its condition holds, on every input.
use Prim.Native.Nat.{ℕ}
use mathlib.Core.Path.{◌≡◌, refl, sym, ◌∙◌, ap, subst, subst⁻¹}
use mathlib.Core.Logic.{◌↔◌, ◌⊎◌, inl, inr}
use mathlib.Core.Bool.{Bool, true, false}
use mathlib.Core.List.Memᴰ
use mathlib.Core.List.{List, [], ◌∷◌, Memᴰ}
use mathlib.Core.Option.{Option, none, some, some-ne-none}
use Rattle.lists.specs.Tests.{pick}
use Rattle.lists.proofs.Tests.{false_true}
use Rattle.lists.proofs.Bytes.{same_is, same_self}
use Rattle.refusal.specs.declared.Refusal.{Refusal}
use Rattle.refusal.specs.Answer.{Answer, gives, refuses, onward}
use Rattle.table.specs.Row.{rows_of, toks_of}
use Rattle.table.specs.Rules.{TableRules}
use Rattle.table.specs.Test.{dec_table}
use Rattle.document.specs.View.{View, view}
use Rattle.document.specs.declared.part.Piece.{Piece}
use Rattle.document.specs.Scope.{Child, root_of, children_of, piece_of}
use Rattle.readings.specs.Call.{Upload}
use Rattle.readings.specs.Opening.{with_table, present}
use Rattle.readings.specs.Find.{has_local, first_child, whole_body, find_in, find}
use Rattle.readings.proofs.Conditions.Answers.{given_refused, refuses_same}
use Rattle.readings.proofs.Conditions.Opening.{TableBroken, NoRootSeen, obeyed, not_obeyed}

has_local_lem : (name : List ℕ) (c : Child) → (has_local name c ≡ false) ↔ (c.start.name.local ≡ name → ⊥)
has_local_lem name c = (λ p e. false_true {A = ⊥} (sym p ∙ rw e (same_self name)), go (has_local name c) refl)
  where
    go : (b : Bool) → has_local name c ≡ b → (c.start.name.local ≡ name → ⊥) → b ≡ false
    go true p n = absurd (n (same_is c.start.name.local name p))
    go false p n = refl

first_child_none : (name : List ℕ) (l : List Child) → first_child name l ≡ none → (c : Child) → Memᴰ c l → c.start.name.local ≡ name
    → ⊥
unfolding first_child
first_child_none name [] e c i = absurd (Memᴰ.not-nil i)
first_child_none name (x ∷ l) e c i = go (has_local name x) refl e (Memᴰ.cases_cons i) (first_child_none name l)
  where
    go : (b : Bool) → has_local name x ≡ b → pick b (some x) (first_child name l) ≡ none → (c ≡ x) ⊎ Memᴰ c l →
        (first_child name l ≡ none → (c : Child) → Memᴰ c l → c.start.name.local ≡ name → ⊥) → c.start.name.local ≡ name → ⊥
    go true p e j ih = absurd (some-ne-none x e)
    go false p e (inl h) ih = subst⁻¹ (λ (y : Child). y.start.name.local ≡ name → ⊥) h ((has_local_lem name x).0 p)
    go false p e (inr j) ih = ih e c j

none_first_child : (name : List ℕ) (l : List Child) → ((c : Child) → Memᴰ c l → c.start.name.local ≡ name → ⊥)
    → first_child name l ≡ none
unfolding first_child
none_first_child name [] n = refl
none_first_child name (x ∷ l) n =
    rw ((has_local_lem name x).1 (n x (Memᴰ.head refl))) (none_first_child name l (λ (c : Child) i. n c (Memᴰ.tail i)))

-- neither the root nor a child of it has that local name
pub record NoneNamed (name : List ℕ) (root : Child) : Type 0 where
  pub not_root : root.start.name.local ≡ name → ⊥
  pub no_child : (c : Child) → Memᴰ c (children_of root) → c.start.name.local ≡ name → ⊥

module _ (u : Upload) (name : List ℕ) where
  pub data FindRefused : Refusal → Type 0 where
    -- "1 table"
    find_table : TableBroken u → FindRefused Refusal.Table
    -- "13 also without a root"
    find_no_root : TableRules u.body u.rows u.end → NoRootSeen u false → FindRefused Refusal.NoSuchElement
    -- "13 no such element"
    find_none : {root : Child} → TableRules u.body u.rows u.end
        → root_of (toks_of u.body (view false u.body (rows_of u.rows) u.end).rows) ≡ some root → NoneNamed name root →
        FindRefused Refusal.NoSuchElement

  abbrev seen : View
  seen = view false u.body (rows_of u.rows) u.end

  find_in_lem : (root : Child) (r : Refusal) → find_in u.body seen name root ≡ refuses r → (r ≡ Refusal.NoSuchElement) × NoneNamed name root
  unfolding find_in
  find_in_lem root r e = on_root (has_local name root) refl e
    where
      inside : Option Child → Answer Piece
      inside o = onward (present Refusal.NoSuchElement o) (λ (c : Child). gives (piece_of u.body seen c))

      on_child : (o : Option Child) → first_child name (children_of root) ≡ o → has_local name root ≡ false → inside o ≡ refuses r
          → (r ≡ Refusal.NoSuchElement) × NoneNamed name root
      on_child none q p e = (
        sym (refuses_same e),
        record { not_root = (has_local_lem name root).0 p; no_child = first_child_none name (children_of root) q },
      )
      on_child (some c) q p e = given_refused e

      on_root : (b : Bool) → has_local name root ≡ b
          → pick b (gives (whole_body u.body)) (inside (first_child name (children_of root))) ≡ refuses r
          → (r ≡ Refusal.NoSuchElement) × NoneNamed name root
      on_root true p e = given_refused e
      on_root false p e = on_child (first_child name (children_of root)) refl p e

  in_find : (root : Child) → NoneNamed name root → find_in u.body seen name root ≡ refuses Refusal.NoSuchElement
  unfolding find_in
  in_find root n = go (has_local name root) (first_child name (children_of root)) ((has_local_lem name root).1 n.not_root)
      (none_first_child name (children_of root) n.no_child)
    where
      go : (b : Bool) (o : Option Child) → b ≡ false → o ≡ none →
          pick b (gives (whole_body u.body))
          (onward (present Refusal.NoSuchElement o) (λ (c : Child). gives (piece_of u.body seen c))) ≡ refuses Refusal.NoSuchElement
      go b o p q = rw (p, q)

  pub find_refusal : (r : Refusal) → (find u name ≡ refuses r) ↔ FindRefused r
  unfolding find
  find_refusal r = (on_table (dec_table u.body u.rows u.end), back)
    where
      inside : Option Child → Answer Piece
      inside o = onward (present Refusal.NoSuchElement o) (find_in u.body seen name)

      on_root : (o : Option Child) → root_of (toks_of u.body seen.rows) ≡ o → TableRules u.body u.rows u.end
          → inside o ≡ refuses r → FindRefused r
      on_root none p t e = subst FindRefused (refuses_same e) (find_no_root t p)
      on_root (some c) p t e = let w = find_in_lem c r e in subst⁻¹ FindRefused w.0 (find_none t p w.1)

      on_table : (d : Dec (TableRules u.body u.rows u.end))
          → with_table d (inside (root_of (toks_of u.body seen.rows))) ≡ refuses r → FindRefused r
      on_table (yes rules) e = on_root (root_of (toks_of u.body seen.rows)) refl rules e
      on_table (no broken) e = subst FindRefused (refuses_same e) (find_table broken)

      back : {q : Refusal} → FindRefused q
          → with_table (dec_table u.body u.rows u.end) (inside (root_of (toks_of u.body seen.rows))) ≡ refuses q
      back (find_table b) = not_obeyed u _ (dec_table u.body u.rows u.end) b
      back (find_no_root t p) = obeyed u _ (dec_table u.body u.rows u.end) t ∙ ap inside p
      back (find_none {root = c} t p n) = obeyed u _ (dec_table u.body u.rows u.end) t ∙ (ap inside p ∙ in_find c n)
