use Rattle.std.proofs.Common.{◌≡◌, length}
use Rattle.fort_units.specs.Faults as faults
use Rattle.fort_units.specs.Passing as passing
use Rattle.fort_units.proofs.around.Around.note_blocks.Given as goal

-- what is noted comes out the same from here as from the start
abbrev pub invariant-loop-list : goal.invariant-loop-list
invariant-loop-list l =
    (passing.noted l.least.first (faults.all_unclosed l.self.outside) ≡ passing.noted l.initial.least.first (faults.all_unclosed l.initial.self.outside))
    × (l.self.define ≡ l.initial.self.define)
    × (l.self.parallelize ≡ l.initial.self.parallelize)

abbrev pub decreases-loop-list : goal.decreases-loop-list
decreases-loop-list l = length l.self.outside
