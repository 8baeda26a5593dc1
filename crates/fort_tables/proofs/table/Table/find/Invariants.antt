use Rattle.std.proofs.Common.{◌-◌}
use Rattle.fort_tables.specs.Order.{texts}
use Rattle.fort_tables.proofs.Halving.{Narrowed}
use Rattle.fort_tables.proofs.table.Table.find.Given as goal

abbrev pub invariant-loop-low : goal.invariant-loop-low
invariant-loop-low g l = Narrowed (texts l.self.words.now) l.text l.low l.high

abbrev pub decreases-loop-low : goal.decreases-loop-low
decreases-loop-low g l = l.high - l.low
