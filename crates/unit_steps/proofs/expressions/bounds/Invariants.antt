use Rattle.std.proofs.Common.{◌≡◌, ◌++◌, drop, map}
use Rattle.sound_programs.specs.Placing.{placed_decl}
use Rattle.sound_programs.specs.Walks.{bounds_in}
use Rattle.unit_steps.specs.Behind.{exprs}
use Rattle.unit_steps.proofs.expressions.bounds.Given as goal

abbrev pub invariant-loop-decl : goal.invariant-loop-decl
invariant-loop-decl l = exprs l.list.items ++ bounds_in (map placed_decl (drop l.decl-index l.decls)) ≡ bounds_in (map placed_decl l.decls)
