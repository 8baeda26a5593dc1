use Rattle.std.proofs.Common.{take}
use Rattle.fort_names.specs.Scoping.{UnitScopes}
use Rattle.fort_names.proofs.symbols.unit_scopes.Given as goal

abbrev pub invariant-loop-unit : goal.invariant-loop-unit
invariant-loop-unit l = UnitScopes l.modules l.shared.value (take l.unit-index l.units) l.scopes.items
