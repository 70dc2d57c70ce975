-- What measuring found decides.
use Rattle.document.proofs.Measuring.{text_laws}
use Rattle.document.proofs.part.Text.measure.Goals as goal

pub invariant_of-result-clause-right : goal.invariant_of-result-clause-right
invariant_of-result-clause-right c = search text_laws

pub invariant_of-result-clause-size : goal.invariant_of-result-clause-size
invariant_of-result-clause-size c = search text_laws

pub invariant_of-result-clause-short : goal.invariant_of-result-clause-short
invariant_of-result-clause-short c = search text_laws

pub bad_at-requires : goal.bad_at-requires
bad_at-requires c = search text_laws

pub returns-in-Err : goal.returns-in-Err
returns-in-Err c = search text_laws
