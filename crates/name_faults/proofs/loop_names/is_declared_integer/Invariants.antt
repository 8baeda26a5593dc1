use Rattle.std.proofs.Common.{◌≡◌, drop, map}
use Rattle.std.specs.List.{list_any}
use Rattle.sound_programs.specs.LoopFaults.{declares_integer_scalar}
use Rattle.sound_programs.specs.Placing.{placed_decl}
use Rattle.name_faults.proofs.loop_names.is_declared_integer.Given as goal

abbrev pub invariant-loop-decl : goal.invariant-loop-decl
invariant-loop-decl l = list_any (declares_integer_scalar l.name) (map placed_decl (drop l.decl-index l.decls)) ≡ list_any (declares_integer_scalar l.name) (map placed_decl l.decls)
