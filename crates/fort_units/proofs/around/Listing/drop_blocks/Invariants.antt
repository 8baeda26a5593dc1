use Rattle.std.proofs.Common.{◌≡◌, length}
use Rattle.fort_units.specs.Opens as opens
use Rattle.fort_units.specs.Faults as faults
use Rattle.fort_units.specs.Passing as passing
use Rattle.fort_units.proofs.around.Listing.drop_blocks.Given as goal

-- what is noted, and the depth, come out the same from here as from the start
abbrev pub invariant-loop-block : goal.invariant-loop-block
invariant-loop-block l =
    (passing.noted l.least.first (faults.unclosed l.self.blocks) ≡ passing.noted l.initial.least.first (faults.unclosed l.initial.self.blocks))
    × (opens.depth_around l.self.depth l.self.blocks ≡ opens.depth_around l.initial.self.depth l.initial.self.blocks)
    × (l.self.construct ≡ l.initial.self.construct)
    × (l.self.exits ≡ l.initial.self.exits)
    × (l.self.returns ≡ l.initial.self.returns)

abbrev pub decreases-loop-block : goal.decreases-loop-block
decreases-loop-block l = length l.self.blocks
