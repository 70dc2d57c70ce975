-- `Name::matches` (01, src/decode.rs): "a pattern without a colon is compared with the local name alone; otherwise split at its first colon
-- and compare both".
use Rattle.std.specs.Prelude.{ℕ, suc, ◌+◌, Bool, false, List, [], ◌∷◌, ltb, eqb, length, take, drop}
use Rattle.lists.specs.Characters.{colon}
use Rattle.lists.specs.Tests.{pick}
use Rattle.lists.specs.Bytes.{sameb}
use Rattle.table.specs.Row.{Name}

abbrev pub named : List ℕ → List ℕ → Name
named prefix local = record { prefix = prefix; local = local }

-- how many bytes stand before the first colon; the length where there is none
unfoldable pub before_colon : List ℕ → ℕ
before_colon [] = 0
before_colon (b ∷ s) = pick (eqb b colon) 0 (suc (before_colon s))

unfoldable pub name_matches : Name → List ℕ → Bool
name_matches n pattern =
    let c = before_colon pattern in
    pick (ltb c (length pattern))
    (pick (sameb n.local (drop (c + 1) pattern)) (sameb n.prefix (take c pattern)) false)
    (sameb pattern n.local)
