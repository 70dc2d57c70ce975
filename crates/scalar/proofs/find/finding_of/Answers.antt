use Rattle.opening.specs.Opening.{upload_of}
use Rattle.scalar.proofs.Searching.{find_table, find_rootless, find_found}
use Rattle.scalar.proofs.find.finding_of.Goals as goal

pub returns-in_default : goal.returns-in_default
returns-in_default c = find_table (upload_of c.args.table) c.args.name.now c.in_default.ensures

pub returns-in_default-root : goal.returns-in_default-root
returns-in_default-root c =
    find_rootless (upload_of c.args.table) c.args.name.now c.in-Some.valid c.in-Some.ensures (rw c.in_default-root.is at c.root.ensures.is)

pub returns : goal.returns
returns c =
    find_found (upload_of c.args.table) c.args.name.now c.in-Some.valid c.in-Some.ensures (rw c.in-Ok.is at c.root.ensures.is)
    c.find_in.ensures
