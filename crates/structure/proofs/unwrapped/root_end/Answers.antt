use Rattle.structure.proofs.Ending.{end_goes, end_found, end_out}
use Rattle.structure.proofs.unwrapped.root_end.Goals as goal

pub returns-then-deep-eq0 : goal.returns-then-deep-eq0
returns-then-deep-eq0 c =
    end_found c.args.root.now c.loop-k.invariant c.loop-k-test.true c.kind.ensures c.open_after-deep.ensures c.if-deep-eq0.true
    c.position.ensures

pub loop-k-preserved : goal.loop-k-preserved
loop-k-preserved c =
    end_goes c.args.root.now c.loop-k.invariant c.loop-k-test.true c.kind.ensures c.open_after-deep.ensures c.if-deep-eq0.false

pub returns : goal.returns
returns c = end_out c.args.root.now c.loop-k.invariant c.loop-k-test.false
