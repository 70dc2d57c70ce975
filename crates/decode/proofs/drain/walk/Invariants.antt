use Rattle.std.proofs.Common.{◌≡◌}
use Rattle.lists.specs.Characters.{ampersand}
use Rattle.lists.specs.Find.{Clear}
use Rattle.decode.proofs.Walking.{WalkAt}
use Rattle.decode.proofs.drain.walk.Given as goal

abbrev pub invariant-loop-k : goal.invariant-loop-k
invariant-loop-k l =
    record {
      walks : WalkAt l.table.body.now l.table.rows.now l.open.rows l.open.depth l.k;
      of_body : l.plain.0.now ≡ l.table.body.now;
      clear : Clear l.plain.0.now ampersand l.plain.1.0 l.plain.1.1.0;
    }
