-- At each way out the digits so far say what the whole is; a byte that is no digit ends it, and is a `;` behind a digit or bad.
use Rattle.unescape.proofs.Parse.{digits_laws}
use Rattle.unescape.proofs.digits_at.Goals as goal
use Rattle.unescape.proofs.digits_at.Goals.{then-text-i-ne59-via-then-text-i-ne59, then-text-i-ne59-via-else-text-i-ne59+then-i-start}

pub loop-i-init : goal.loop-i-init
loop-i-init c = search digits_laws

pub returns-then-text-i-ne59 : goal.returns-then-text-i-ne59
returns-then-text-i-ne59 c =
    elim c.then-text-i-ne59.branch [
      | then-text-i-ne59-via-then-text-i-ne59 w ↦ search digits_laws
      | then-text-i-ne59-via-else-text-i-ne59+then-i-start w ↦ search digits_laws
    ]

pub returns-then-d-base : goal.returns-then-d-base
returns-then-d-base c = search digits_laws

pub returns-then-acc-gt4294967295 : goal.returns-then-acc-gt4294967295
returns-then-acc-gt4294967295 c = search digits_laws

pub loop-i-preserved : goal.loop-i-preserved
loop-i-preserved c = search digits_laws

pub returns : goal.returns
returns c = search digits_laws
