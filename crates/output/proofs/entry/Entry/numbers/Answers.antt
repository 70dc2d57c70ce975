-- The discriminants are the definition's kinds.
use Rattle.std.proofs.Common.{◌≡◌, ℕ, ◌+◌, ◌∷◌, [], refl, ap}
use denote.Enum.Declared.{tag_of}
use Rattle.output.specs.contracts.entry.Kind.{the_type}
use Rattle.output.specs.declared.entry.Kind.{Kind}
use Rattle.output.specs.Entry.{entry_of, kind_of}
use Rattle.output.proofs.entry.Entry.numbers.Goals as goal

kind_told : (k : Kind) → tag_of the_type k + 1 ≡ kind_of k
kind_told Kind.Text = refl
kind_told Kind.Piece = refl
kind_told Kind.Group = refl
kind_told Kind.Failed = refl

pub returns : goal.returns
unfolding entry_of
returns c =
    let s = c.args.self in
    ap (λ (n : ℕ). n ∷ s.member ∷ s.key_start ∷ s.key_len ∷ s.start ∷ s.len ∷ []) (kind_told s.kind)
