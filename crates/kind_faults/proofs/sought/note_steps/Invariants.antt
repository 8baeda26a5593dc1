use Rattle.std.proofs.Common.{◌≡◌, drop}
use Rattle.kind_faults.specs.InScopes.{code_of_sought, faults_of_step}
use Rattle.fort_names.specs.Leasts.{noted}
use Rattle.fort_names.specs.Sights.{means}
use Rattle.sound_programs.specs.Faults.{found}
use Rattle.std.specs.Prelude.{flat_map}
use Rattle.unit_steps.specs.Behind.{placed_steps}
use Rattle.kind_faults.proofs.sought.note_steps.Given as goal

abbrev pub invariant-loop-step : goal.invariant-loop-step
invariant-loop-step l = noted (found (code_of_sought l.sought) (flat_map (faults_of_step (means l.sight) l.sought) (placed_steps (drop l.step-index l.steps)))) l.least ≡ noted (found (code_of_sought l.sought) (flat_map (faults_of_step (means l.sight) l.sought) (placed_steps l.fn.steps))) l.fn.least
