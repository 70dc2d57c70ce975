-- The entries below k are done; a later one changes nothing of theirs.
use Rattle.std.proofs.Common.{length}
use Rattle.opening.specs.Opening.{upload_of}
use Rattle.import.specs.Import.{asking, SameBuffers}
use Rattle.import.proofs.Again.{Onward}
use Rattle.import.proofs.pieces.read_pieces.Given as goal

abbrev pub invariant-loop-k : goal.invariant-loop-k
invariant-loop-k l = record {
  done : Onward l.asked.shape (upload_of l.upload) l.lent.entries.now (asking l.asked 1) (length l.initial.space.entries.now)
      (length l.initial.space.texts.now) l.initial.outcomes l.outcomes l.k;
  same : SameBuffers l.initial.space l.space;
}
