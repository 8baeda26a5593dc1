use Rattle.std.proofs.Common.{◌≡◌, drop}
use Rattle.std.specs.Prelude.{flat_map}
use Rattle.scalar_units.specs.Unbuilt.{noted}
use Rattle.column_rules.specs.OnTrees.{of_unit}
use Rattle.column_rules.proofs.rules.note_units.Given as goal

abbrev pub invariant-loop-number : goal.invariant-loop-number
invariant-loop-number l = noted (flat_map (of_unit l.file) (drop l.number l.units)) l.least ≡ noted (flat_map (of_unit l.file) l.fn.units) l.fn.least
