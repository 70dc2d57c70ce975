use Rattle.list.proofs.Each.{all_does}
use Rattle.list.proofs.children.read_children.Goals as goal

pub returns : goal.returns
returns g c =
    rw c.tested.ensures
    (all_does (g.S.ReadChild.plan c.args.step.now) (g.S.ReadChild.after c.args.step.now) c.args.root.now c.read_each-got.ensures)
