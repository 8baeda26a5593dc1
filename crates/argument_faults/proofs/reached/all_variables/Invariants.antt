use Rattle.argument_faults.specs.ModuleNames.{rows_of}
use Rattle.argument_faults.proofs.NamedUpTo.{AreNamedUpTo}
use Rattle.argument_faults.proofs.reached.all_variables.Given as goal

abbrev pub invariant-loop-number : goal.invariant-loop-number
invariant-loop-number l = AreNamedUpTo l.file l.number (rows_of l.rows.items)
