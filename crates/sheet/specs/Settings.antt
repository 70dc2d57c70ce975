-- Settings (01, src/codec.rs: "only the maximum depth and the three flags"), and what they ask at a shape depth.
use Rattle.std.specs.Prelude.{Bool, false, eqb, leb}
use Rattle.lists.specs.Tests.{pick}
use Rattle.sheet.specs.declared.ShapeDepth.{ShapeDepth}
use Rattle.sheet.specs.declared.Settings.{Settings}

abbrev pub outermost : ShapeDepth → Bool
outermost depth = eqb depth.0 0

-- "A reading is strict when validate_document stands and shape depth on the call is 0"
abbrev pub is_strict : Settings → ShapeDepth → Bool
is_strict settings depth = pick settings.validate_document (outermost depth) false

-- "the root name is tested when its flag stands and shape depth is 0"
abbrev pub tests_root_name : Settings → ShapeDepth → Bool
tests_root_name settings depth = pick settings.validate_root_name (outermost depth) false

-- "3 depth at or above the maximum"
abbrev pub too_deep : Settings → ShapeDepth → Bool
too_deep settings depth = leb settings.max_depth depth.0
