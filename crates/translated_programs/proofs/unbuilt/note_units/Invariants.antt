use Rattle.std.proofs.Common.{◌≡◌, drop}
use Rattle.std.specs.Prelude.{flat_map}
use Rattle.fort_names.specs.NameLists.{has}
use Rattle.scalar_units.specs.Unbuilt.{noted}
use Rattle.translated_programs.specs.NotBuilt.{of_any_unit}
use Rattle.translated_programs.proofs.unbuilt.note_units.Given as goal

abbrev pub invariant-loop-unit : goal.invariant-loop-unit
invariant-loop-unit l =
    noted (flat_map (of_any_unit (has l.names.columns) (has l.names.globals)) (drop l.unit-index l.units)) l.least
    ≡ noted (flat_map (of_any_unit (has l.names.columns) (has l.names.globals)) l.fn.units) l.fn.least
