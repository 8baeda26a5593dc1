use Rattle.std.proofs.Common.{take}
use Rattle.fort_names.specs.Scoping.{AllFit}
use Rattle.call_graph.specs.Referring.{AreReferencesIn}
use Rattle.call_graph.proofs.references.references_of.Given as goal

abbrev pub invariant-loop-number : goal.invariant-loop-number
invariant-loop-number l = AllFit (λ n. AreReferencesIn l.file) 0 (take l.number l.file.units) l.rows.items
