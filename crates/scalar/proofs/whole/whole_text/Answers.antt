use Rattle.opening.specs.Opening.{upload_of}
use Rattle.scalar.proofs.Joining.{whole_table, whole_ill, whole_rootless, whole_rooted}
use Rattle.scalar.proofs.whole.whole_text.Goals as goal

pub returns-in_default : goal.returns-in_default
returns-in_default c = whole_table (upload_of c.args.table) c.in_default.ensures c.args.out.now

pub returns-then-view : goal.returns-then-view
returns-then-view c = whole_ill (upload_of c.args.table) c.in-Some.valid c.in-Some.ensures c.new-view.ensures c.if-view.true c.args.out.now

pub returns-in-Some-root : goal.returns-in-Some-root
returns-in-Some-root c =
    whole_rooted (upload_of c.args.table) c.in-Some.valid c.in-Some.ensures c.new-view.ensures c.if-view.false
    (rw c.in-Some-root.is at c.root.ensures) c.join_texts.ensures

pub returns-in-None : goal.returns-in-None
returns-in-None c =
    whole_rootless (upload_of c.args.table) c.in-Some.valid c.in-Some.ensures c.new-view.ensures c.if-view.false
    (rw c.in-None.is at c.root.ensures) c.args.out.now
