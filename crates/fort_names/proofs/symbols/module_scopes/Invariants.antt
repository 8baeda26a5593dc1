use Rattle.std.proofs.Common.{take}
use Rattle.fort_names.specs.Scoping.{ModuleScopes}
use Rattle.fort_names.proofs.symbols.module_scopes.Given as goal

abbrev pub invariant-loop-number : goal.invariant-loop-number
invariant-loop-number l = ModuleScopes l.shared.value (take l.number l.modules) l.scopes.items
