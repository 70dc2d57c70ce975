use mathlib.Core.Path.{refl}
use Rattle.table.specs.Names.{named}
use Rattle.table.proofs.NameLaws.{matches_not, matches_both}
use Rattle.table.proofs.patterns.Pattern.asks_for.Goals as goal

pub returns-then-eq : goal.returns-then-eq
returns-then-eq c =
    matches_both (named c.args.prefix.now c.args.local.now) c.args.self.whole.now c.args.self.split c.eq.ensures c.if-self.true refl refl
    c.if-eq.true c.eq-then-eq.ensures refl refl

pub returns-else-eq : goal.returns-else-eq
returns-else-eq c =
    matches_not (named c.args.prefix.now c.args.local.now) c.args.self.whole.now c.args.self.split c.eq.ensures c.if-self.true refl refl
    c.if-eq.false
