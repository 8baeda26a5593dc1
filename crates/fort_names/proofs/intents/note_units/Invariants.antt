use Rattle.std.proofs.Common.{◌≡◌, drop}
use Rattle.fort_tree.specs.declared.fault.Code.TheVariants.{E3B}
use Rattle.sound_programs.specs.Faults.{found}
use Rattle.fort_names.specs.Leasts.{noted, of_units, unit_intents}
use Rattle.fort_names.proofs.intents.note_units.Given as goal

abbrev pub invariant-loop-unit : goal.invariant-loop-unit
invariant-loop-unit l = noted (found E3B (of_units unit_intents (drop l.unit-index l.units))) l.least ≡ noted (found E3B (of_units unit_intents l.fn.units)) l.fn.least
