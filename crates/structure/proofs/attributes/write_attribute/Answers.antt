-- The plan is that of the attribute that is found, and nothing where there is none, and for other members.
use Rattle.std.proofs.Common.{sym, ◌∙◌}
use Rattle.codec.specs.Structure.{member_said}
use Rattle.output.proofs.Then.{does_as, does_nothing}
use Rattle.structure.proofs.Asking.{plan_other, plan_none, plan_text}
use Rattle.structure.proofs.attributes.write_attribute.Goals as goal

pub returns-in-Some : goal.returns-in-Some
returns-in-Some c =
    does_as (plan_text c.args.root.now c.args.index (member_said c.args.member.now) (sym c.is_attribute.ensures ∙ c.if-is_attribute.true)
    (rw (c.new-pattern.ensures, c.attribute_name.ensures) at c.in-Some.ensures)) c.write_text.ensures

pub returns-in_default : goal.returns-in_default
returns-in_default c =
    does_as (plan_none c.args.root.now c.args.index (member_said c.args.member.now) (sym c.is_attribute.ensures ∙ c.if-is_attribute.true)
    (rw (c.new-pattern.ensures, c.attribute_name.ensures) at c.in_default.ensures)) (does_nothing c.args.out.now)

pub returns-else-is_attribute : goal.returns-else-is_attribute
returns-else-is_attribute c =
    does_as (plan_other c.args.root.now c.args.index (member_said c.args.member.now) (sym c.is_attribute.ensures ∙ c.if-is_attribute.false))
    (does_nothing c.args.out.now)
