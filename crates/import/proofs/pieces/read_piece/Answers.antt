-- The rows that are lent are the element's own, so the drain passes them, and the reading's promise of passed tables holds.
use borrow.Author.Rules.{rules}
use Rattle.import.proofs.Again.{reread}
use Rattle.import.proofs.pieces.read_piece.Goals as goal

pub returns-clause-reread : goal.returns-clause-reread
returns-clause-reread c = search (rules, reread)
