use Rattle.std.proofs.Common.{refl}
use Rattle.decode.proofs.Views.{same_view}
use Rattle.decode.proofs.view.View.found.Goals as goal

pub returns : goal.returns
returns c = record { view = same_view c.args.self.now; start = refl; at = refl }
