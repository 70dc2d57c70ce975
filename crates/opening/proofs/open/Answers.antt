-- A table that breaks the rules is refused with 1; of any other the root decides.
use Rattle.opening.proofs.Asked.{open_none, open_some, open_obeys}
use Rattle.opening.proofs.open.Goals as goal

pub returns-in-Some : goal.returns-in-Some
returns-in-Some c =
    let r = c.root.ensures in
    record {
      is = open_some c.args.table c.check.result c.check.ensures c.args.strict c.in-Some.valid c.in-Some.is r.is;
      obeys = open_obeys c.args.table c.check.result c.check.ensures c.in-Some.valid c.root.result c.in-Some.is r.obeys;
    }

pub returns-in-None : goal.returns-in-None
returns-in-None c =
    record { is = open_none c.args.table c.check.result c.check.ensures c.args.strict c.in-None.is; obeys = tt }
