use Rattle.decode.proofs.Texts.{value_small}
use Rattle.decode.proofs.view.View.text.Goals as goal

pub invariant_of-result : goal.invariant_of-result
invariant_of-result c =
    record {
      small = value_small c.args.self.now.table.readable c.args.self.now.small c.requires c.value_start.ensures c.value.ensures;
    }
