use Rattle.std.proofs.Common.{sym, ◌∙◌, arith}
use Rattle.codec.specs.Structure.{structure_said}
use Rattle.output.proofs.Then.{does_as}
use Rattle.structure.proofs.Whole.{either_alone, either_members}
use Rattle.structure.proofs.read_root.Goals as goal

pub returns-then-is_unwrapped : goal.returns-then-is_unwrapped
returns-then-is_unwrapped c =
    does_as (either_alone c.args.root.now (structure_said c.args.sheet.now) (sym c.is_unwrapped.ensures ∙ c.if-is_unwrapped.true))
    c.read_unwrapped.ensures.does

pub returns-then-root-le-FEW_ROWS : goal.returns-then-root-le-FEW_ROWS
returns-then-root-le-FEW_ROWS c =
    does_as (either_members c.args.root.now (structure_said c.args.sheet.now) (sym c.is_unwrapped.ensures ∙ c.if-is_unwrapped.false))
    c.read_kept.ensures

pub returns : goal.returns
returns c =
    does_as (either_members c.args.root.now (structure_said c.args.sheet.now) (sym c.is_unwrapped.ensures ∙ c.if-is_unwrapped.false))
    c.read_kept-2.ensures

-- a view has at most 8192 rows
pub read_kept-requires-2-clause-room : goal.read_kept-requires-2-clause-room
read_kept-requires-2-clause-room c = omega (arith, c.args.root.now.view.few)
