-- 5 where the name is tested and another; else the name is right, or it is not tested.
use Rattle.std.proofs.Common.{sym, ◌∙◌}
use Rattle.codec.specs.Structure.{structure_said}
use Rattle.output.proofs.Then.{does_as}
use Rattle.structure.proofs.Whole.{other_name, right_name, no_name, does_refuse}
use Rattle.structure.proofs.Few.{structure_whole}
use Rattle.structure.proofs.read_struct.Goals as goal
use Rattle.structure.proofs.read_struct.Goals.{else-tests_root_name-via-then-tests_root_name+else-not-matches}
use Rattle.structure.proofs.read_struct.Goals.{else-tests_root_name-via-else-tests_root_name}

pub returns-then-not-matches : goal.returns-then-not-matches
returns-then-not-matches c =
    let d =
    does_as (other_name c.args.root.now (structure_said c.args.sheet.now) c.args.settings c.args.depth
    (sym c.tests_root_name.ensures ∙ c.if-tests_root_name.true)
    (rw (c.new.ensures, c.root_name.ensures) at (sym c.matches.ensures ∙ c.if-not-matches.true)))
    (does_refuse c.args.out.now _) in
    record { does = d; whole = structure_whole c.args.sheet.now c.args.settings c.args.depth c.args.root.now d }

pub returns : goal.returns
returns c =
    elim c.else-tests_root_name.branch [
      | else-tests_root_name-via-then-tests_root_name+else-not-matches w ↦
          let d =
          does_as (right_name c.args.root.now (structure_said c.args.sheet.now) c.args.settings c.args.depth
          (sym c.tests_root_name.ensures ∙ w.if-tests_root_name.true)
          (rw (w.new.ensures, w.root_name.ensures) at (sym w.matches.ensures ∙ w.if-not-matches.false)))
          c.read_root.ensures in
          record { does = d; whole = structure_whole c.args.sheet.now c.args.settings c.args.depth c.args.root.now d }
      | else-tests_root_name-via-else-tests_root_name w ↦
          let d =
          does_as (no_name c.args.root.now (structure_said c.args.sheet.now) c.args.settings c.args.depth
          (sym c.tests_root_name.ensures ∙ w.if-tests_root_name.false))
          c.read_root.ensures in
          record { does = d; whole = structure_whole c.args.sheet.now c.args.settings c.args.depth c.args.root.now d }
    ]
