use Rattle.std.proofs.Common.{◌≡◌, drop, map}
use Rattle.scalar_units.specs.Unbuilt.{noted}
use Rattle.translated_programs.proofs.unbuilt.note_marks.Given as goal

abbrev pub invariant-loop-mark : goal.invariant-loop-mark
invariant-loop-mark l = noted (map (λ d. d.at) (drop l.mark-index l.marks)) l.least ≡ noted (map (λ d. d.at) l.fn.marks) l.fn.least
