use Rattle.std.proofs.Common.{◌≡◌, None, drop}
use Rattle.fort_units.specs.Passing as passing
use Rattle.fort_units.proofs.walk.nesting_fault.Given as goal

-- the faults so far, with those of the lines from here on, are all
abbrev pub invariant-loop-item : goal.invariant-loop-item
invariant-loop-item l =
    passing.noted l.least.first (passing.faults_from l.mode l.around (drop l.item-index l.items)) ≡ passing.noted None (passing.faults l.mode l.items)
