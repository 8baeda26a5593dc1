use Rattle.std.proofs.Common.{take}
use Rattle.fort_names.specs.Circles.{one_further, AreThose}
use Rattle.fort_names.specs.NameLists.{has}
use Rattle.fort_names.proofs.cycles.further.Given as goal

abbrev pub invariant-loop-link : goal.invariant-loop-link
invariant-loop-link l = AreThose l.next (one_further (take l.link-index l.links) l.to (has l.names))
