use Rattle.std.proofs.Common.{◌≡◌, drop}
use Rattle.fort_tree.specs.declared.fault.Code.TheVariants.{E30}
use Rattle.sound_programs.specs.Faults.{found}
use Rattle.fort_names.specs.Leasts.{noted}
use Rattle.name_faults.specs.Undeclared.{numbered, undeclared_in_a_module}
use Rattle.name_faults.proofs.values.note_modules.Given as goal

abbrev pub invariant-loop-number : goal.invariant-loop-number
invariant-loop-number l =
    noted (found E30 (numbered (undeclared_in_a_module l.file) l.number (drop l.number l.file.modules))) l.least
    ≡ noted (found E30 (numbered (undeclared_in_a_module l.file) 0 l.file.modules)) l.fn.least
