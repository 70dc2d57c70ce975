use Rattle.std.proofs.Common.{◌≡◌, refl, sym}
use Rattle.decode.proofs.Pieces.{end_row}
use Rattle.std.proofs.Common.{Bool, true, false, not}
use Rattle.decode.proofs.view.View.piece_end.Goals as goal

not_not : (b : Bool) → not b ≡ false → b ≡ true
not_not true e = refl
not_not false e = sym e

pub returns : goal.returns
returns c =
    end_row c.args.self.now c.args.past c.requires (not_not c.args.past.ended c.if-not-past.false) c.if-past-eq0.false c.position.ensures
