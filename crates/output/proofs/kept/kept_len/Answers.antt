-- What is counted, and what is left, come to the whole.
use Rattle.std.proofs.Common.{arith}
use Rattle.output.proofs.Groups.{len_start, len_end, len_mine, len_other}
use Rattle.output.proofs.kept.kept_len.Goals as goal
use Rattle.output.proofs.kept.kept_len.Goals.{then-k-member, else-k-member}

pub loop-k-init : goal.loop-k-init
loop-k-init c = len_start c.args.member c.args.kept.now

pub overflow_add-n : goal.overflow_add-n
overflow_add-n c = record { fits = omega (arith, c.loop-k.invariant.small) }

pub loop-k-preserved : goal.loop-k-preserved
loop-k-preserved c =
    elim c.if-k-member.branch [
      | then-k-member w ↦ rw w.n-is (len_mine c.loop-k.invariant c.loop-k-test.true w.if-k-member.true (omega arith))
      | else-k-member w ↦ rw w.n-is (len_other c.loop-k.invariant c.loop-k-test.true w.if-k-member.false)
    ]

pub returns : goal.returns
returns c =
    record {
      sum = len_end c.loop-k.invariant c.loop-k-test.false;
      small = omega (arith, c.loop-k.invariant.small, c.loop-k.auto.k-index-end);
    }
