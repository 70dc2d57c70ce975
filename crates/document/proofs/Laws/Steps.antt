-- The step equations of the walks over tokens: where the tokens run out, and what one token does.
use Prim.Native.Nat.{ℕ, suc}
use mathlib.Core.Path.{◌≡◌, refl}
use mathlib.Core.Bool.{false}
use mathlib.Core.List.{List, [], ◌∷◌}
use mathlib.Core.Option.{Option}
use Rattle.lists.specs.Tests.{pick}
use Rattle.refusal.specs.declared.Refusal.{Refusal}
use Rattle.table.specs.Row.{Row, Tok}
use Rattle.document.specs.declared.Depth.{Depth}
use Rattle.document.specs.Reader.{reader, depth_after, Scope, ends_at, skip, StartEl, turn, gone, take_turn, next}
use Rattle.document.specs.Scope.{shut}
use Rattle.document.specs.Text.{value_start_at, at_end, text_turn, take_first, first_text}

-- ---- the skip to a scope's end
pub skip_end : (s : Scope) (d : Depth) (k : ℕ) → skip s d k [] ≡ record { ended = false; reader = reader d k [] }
unfolding skip
skip_end s d k = refl

pub skip_token : (s : Scope) (d : Depth) (k : ℕ) (t : Tok) (l : List Tok)
    → skip s d k (t ∷ l) ≡ pick (ends_at s (depth_after t d) t) (shut (reader (depth_after t d) (suc k) l))
    (skip s (depth_after t d) (suc k) l)
unfolding skip
skip_token s d k t l = refl

-- ---- the search for a start element
pub next_end : (s : Scope) (o : StartEl) (d : Depth) (k : ℕ) → next s o d k [] ≡ gone (record { ended = false; reader = reader d k [] })
unfolding next
next_end s o d k = refl

pub next_token : (s : Scope) (o : StartEl) (d : Depth) (k : ℕ) (t : Tok) (l : List Tok)
    → next s o d k (t ∷ l) ≡ take_turn (turn s o d k t) (reader (depth_after t d) (suc k) l)
    (λ (o' : StartEl). next s o' (depth_after t d) (suc k) l)
unfolding next
next_token s o d k t l = refl

-- ---- the first text of an element
pub first_text_end : (rows : List Row) (failure : Option Refusal) (s : Scope) (d : Depth) (k : ℕ)
    → first_text rows failure s d k [] ≡ at_end failure
unfolding first_text
first_text_end rows failure s d k = refl

pub first_text_token : (rows : List Row) (failure : Option Refusal) (s : Scope) (d : Depth) (k : ℕ) (t : Tok) (l : List Tok)
    → first_text rows failure s d k (t ∷ l) ≡
    text_turn (take_first (value_start_at rows k)) s (depth_after t d) t (first_text rows failure s (depth_after t d) (suc k) l)
unfolding first_text
first_text_token rows failure s d k t l = refl

-- ---- all the texts directly in an element
