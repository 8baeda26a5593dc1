use Rattle.std.proofs.Common.{◌≡◌, ◌++◌, drop}
use Rattle.fort_names.specs.Sights.{means}
use Rattle.argument_faults.specs.ModuleNames.{pairs, variables_among}
use Rattle.argument_faults.proofs.module_names.variables.Given as goal

abbrev pub invariant-loop-name : goal.invariant-loop-name
invariant-loop-name l = pairs l.list.items ++ variables_among (means l.sight) l.unit (drop l.name-index l.names) ≡ variables_among (means l.sight) l.unit l.names
