-- The scope of what holds declarations.
use Rattle.sound_programs.specs.Placing.{placed_unit, placed_module}
use Rattle.sound_programs.specs.Scopes.{Scope, Of_unit, Of_module}
use Rattle.kind_faults.specs.declared.holder.Holder.{Holder}
use Rattle.kind_faults.specs.declared.holder.Holder.TheVariants as holder

abbrev pub scope_of : Holder → Scope
scope_of (holder.Unit u) = Of_unit (placed_unit u.now)
scope_of (holder.Module n m) = Of_module n (placed_module m.now)
