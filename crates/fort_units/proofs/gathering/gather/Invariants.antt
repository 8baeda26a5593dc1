use Rattle.std.proofs.Common.{take}
use Rattle.fort_units.specs.Adding.{Gathers}
use Rattle.fort_units.proofs.gathering.gather.Given as goal

abbrev pub invariant-loop-line : goal.invariant-loop-line
invariant-loop-line l = Gathers (take l.line-index l.lines) l.gathered
