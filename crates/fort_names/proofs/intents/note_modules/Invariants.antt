use Rattle.std.proofs.Common.{◌≡◌, drop}
use Rattle.fort_tree.specs.declared.fault.Code.TheVariants.{E3B}
use Rattle.sound_programs.specs.Faults.{found}
use Rattle.fort_names.specs.Leasts.{noted, of_modules, module_intents}
use Rattle.fort_names.proofs.intents.note_modules.Given as goal

abbrev pub invariant-loop-one : goal.invariant-loop-one
invariant-loop-one l = noted (found E3B (of_modules module_intents (drop l.one-index l.modules))) l.least ≡ noted (found E3B (of_modules module_intents l.fn.modules)) l.fn.least
