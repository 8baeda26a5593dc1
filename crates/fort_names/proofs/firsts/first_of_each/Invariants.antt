use Rattle.std.proofs.Common.{take}
use Rattle.fort_names.specs.NameLists.{IsFirstOfEach}
use Rattle.fort_names.proofs.firsts.first_of_each.Given as goal

abbrev pub invariant-loop-i : goal.invariant-loop-i
invariant-loop-i g l = IsFirstOfEach g.K.PartialEq.eq (take l.i l.keys) l.first
