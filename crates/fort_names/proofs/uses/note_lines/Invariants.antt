use Rattle.std.proofs.Common.{◌≡◌, drop}
use Rattle.fort_tree.specs.declared.fault.Code.TheVariants.{E34}
use Rattle.sound_programs.specs.Faults.{found}
use Rattle.fort_names.specs.Leasts.{noted}
use Rattle.fort_names.specs.UsePlaces.{use_places}
use Rattle.fort_names.proofs.uses.note_lines.Given as goal

abbrev pub invariant-loop-line : goal.invariant-loop-line
invariant-loop-line l = noted (found E34 (use_places l.shared (drop l.line-index l.lines))) l.least ≡ noted (found E34 (use_places l.shared l.fn.lines)) l.fn.least
