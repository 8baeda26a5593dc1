use Rattle.std.proofs.Common.{◌≡◌, ◌++◌, drop, map}
use Rattle.sound_programs.specs.Placing.{placed_decl}
use Rattle.std.specs.Option.{option_to_list}
use Rattle.std.specs.Prelude.{flat_map}
use Rattle.unit_steps.specs.Behind.{exprs}
use Rattle.kind_faults.proofs.kind_decls.add_values.Given as goal

abbrev pub invariant-loop-decl : goal.invariant-loop-decl
invariant-loop-decl l = exprs l.into.items ++ flat_map (λ d. option_to_list d.value) (map placed_decl (drop l.decl-index l.decls)) ≡ exprs l.fn.into.items ++ flat_map (λ d. option_to_list d.value) (map placed_decl l.decls)
