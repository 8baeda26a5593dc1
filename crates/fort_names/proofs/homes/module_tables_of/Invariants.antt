use Rattle.std.proofs.Common.{◌≡◌, ◌++◌, drop}
use Rattle.fort_names.specs.Tables.{module_tables}
use Rattle.fort_names.proofs.homes.module_tables_of.Given as goal

abbrev pub invariant-loop-number : goal.invariant-loop-number
invariant-loop-number l = l.tables ++ module_tables l.number (drop l.number l.modules) ≡ module_tables 0 l.modules
