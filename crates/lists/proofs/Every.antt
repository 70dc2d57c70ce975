-- Laws on what holds of every element of a list.
use mathlib.Core.Logic.{⊎_elim}
use mathlib.Core.List.Memᴰ
use mathlib.Core.List.{List, [], ◌∷◌, ◌++◌, Memᴰ}
use Rattle.lists.specs.Every.{Every, none, and}

module _ {A : Type 0} {P : A → Type 0} where
  -- of each that is in the list
  pub every_in : {l : List A} → Every P l → (x : A) → Memᴰ x l → P x
  every_in none x i = absurd (Memᴰ.not-nil i)
  every_in (and p e) x i = ⊎_elim (λ q. rw q p) (λ j. every_in e x j) (Memᴰ.cases_cons i)

  pub every_first : {x : A} {l : List A} → Every P (x ∷ l) → P x
  every_first (and p e) = p

  pub every_rest : {x : A} {l : List A} → Every P (x ∷ l) → Every P l
  every_rest (and p e) = e

  -- of one more at the end
  pub every_snoc : {l : List A} {x : A} → Every P l → P x → Every P (l ++ x ∷ [])
  every_snoc none p = and p none
  every_snoc (and q e) p = and q (every_snoc e p)

  -- of what follows from it
  pub every_map : {Q : A → Type 0} {l : List A} → ((x : A) → P x → Q x) → Every P l → Every Q l
  every_map f none = none
  every_map f (and {x = x} p e) = and (f x p) (every_map f e)
