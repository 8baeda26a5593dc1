use Rattle.std.proofs.Common.{◌≡◌, drop}
use Rattle.fort_tree.specs.declared.fault.Code.TheVariants.{E34}
use Rattle.sound_programs.specs.Faults.{found}
use Rattle.fort_names.specs.Leasts.{noted, of_modules}
use Rattle.fort_names.specs.UsePlaces.{module_uses}
use Rattle.fort_names.proofs.uses.note_module_uses.Given as goal

abbrev pub invariant-loop-one : goal.invariant-loop-one
invariant-loop-one l = noted (found E34 (of_modules (module_uses l.shared) (drop l.one-index l.modules))) l.least ≡ noted (found E34 (of_modules (module_uses l.shared) l.fn.modules)) l.fn.least
