use Rattle.std.proofs.Common.{subst, sym}
use Rattle.fort_names.specs.NameLists.{AllDiffer}
use Rattle.fort_names.proofs.Differing.{differ_with}
use Rattle.fort_names.proofs.name_set.NameSet.insert.Goals as goal

-- src/name_set.rt
pub invariant_of-self-2 : goal.invariant_of-self-2
invariant_of-self-2 c = subst AllDiffer (sym c.in_ok-insert.ensures.keys) (differ_with _ c.args.name c.self.invariant)
