-- The depth guard (01, "Forms that stand in the way": "one depth guard, lent to enter and leave and changed by them"): what entering and
-- leaving make of it.
use Rattle.std.specs.Prelude.{ℕ, ◌+◌, ◌-◌}
use Rattle.lists.specs.Tests.{pick}
use Rattle.sheet.specs.Settings.{too_deep}
use Rattle.codec.specs.declared.guard.Guard.{Guard}

abbrev pub at_depth : Guard → ℕ → Guard
at_depth g depth = record { settings = g.settings; depth = record { 0 = depth } }

-- one deeper, or unchanged where it is refused
abbrev pub entered : Guard → Guard
entered g = pick (too_deep g.settings g.depth) g (at_depth g (g.depth.0 + 1))

abbrev pub left : Guard → Guard
left g = at_depth g (g.depth.0 - 1)
