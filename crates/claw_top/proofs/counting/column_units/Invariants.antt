use Rattle.std.proofs.Common.{◌≡◌, take}
use Rattle.std.specs.Prelude.{count_by}
use Rattle.translated_programs.specs.NotBuilt.{is_column}
use Rattle.claw_top.proofs.counting.column_units.Given as goal

abbrev pub invariant-loop-unit : goal.invariant-loop-unit
invariant-loop-unit l = l.count ≡ count_by is_column (take l.unit-index l.units)
