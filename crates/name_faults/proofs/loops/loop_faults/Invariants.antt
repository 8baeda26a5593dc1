use Rattle.std.proofs.Common.{◌≡◌, ◌++◌, drop, map}
use Rattle.std.specs.Prelude.{flat_map}
use Rattle.sound_programs.specs.LoopFaults.{loop_faults_in_unit}
use Rattle.sound_programs.specs.Placed.{bare_program}
use Rattle.sound_programs.specs.Placing.{placed, placed_unit}
use Rattle.sound_programs.specs.Scopes.{Of_unit, entity_in}
use Rattle.name_faults.proofs.loops.loop_faults.Given as goal

abbrev pub invariant-loop-number : goal.invariant-loop-number
invariant-loop-number l =
    l.places.items ++ flat_map (λ u. loop_faults_in_unit (entity_in (bare_program (placed l.file)) (Of_unit u)) u) (map placed_unit (drop l.number l.file.units))
    ≡ flat_map (λ u. loop_faults_in_unit (entity_in (bare_program (placed l.file)) (Of_unit u)) u) (map placed_unit l.file.units)
