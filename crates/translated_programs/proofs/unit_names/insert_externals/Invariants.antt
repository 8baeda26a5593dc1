use Rattle.std.proofs.Common.{◌≡◌, drop}
use Rattle.std.specs.List.{filter}
use Rattle.fort_names.specs.Sharing.{inserted}
use Rattle.translated_programs.specs.NotBuilt.{is_external, names_of}
use Rattle.translated_programs.proofs.unit_names.insert_externals.Given as goal

abbrev pub invariant-loop-unit : goal.invariant-loop-unit
invariant-loop-unit l = inserted l.names (names_of (filter is_external (drop l.unit-index l.units))) ≡ inserted l.fn.names (names_of (filter is_external l.fn.units))
