-- What holds of every element of a list.
use Rattle.std.specs.Prelude.{List, [], ◌∷◌}

pub data Every {A : Type 0} (P : A → Type 0) : List A → Type 0 where
  none : Every P []
  and : {x : A} {l : List A} → P x → Every P l → Every P (x ∷ l)
