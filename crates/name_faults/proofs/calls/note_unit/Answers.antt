use Rattle.std.proofs.Common.{◌∙◌, ap, sym}
use Rattle.std.specs.Prelude.{flat_map}
use Rattle.fort_tree.specs.declared.fault.Code.TheVariants.{E35}
use Rattle.sound_programs.specs.Faults.{found}
use Rattle.sound_programs.specs.NameFaults.{unit_faults_in_step}
use Rattle.sound_programs.specs.Placing.{placed_unit}
use Rattle.unit_steps.specs.Behind.{placed_steps}
use Rattle.fort_names.specs.Leasts.{noted}
use Rattle.fort_names.specs.Sights.{means}
use Rattle.name_faults.proofs.Parts.{each_step}
use Rattle.name_faults.proofs.calls.note_unit.Goals as goal

-- src/calls.rt
pub returns : goal.returns
returns c =
    let faults = unit_faults_in_step (means c.args.sight.now) in
    c.in_ok-note_steps.ensures
    ∙ ap (λ l. noted (found E35 (flat_map faults (placed_steps l))) c.args.least.now) c.as_slice.ensures.value
    ∙ ap (λ l. noted (found E35 (flat_map faults l)) c.args.least.now) c.in_ok-steps.ensures
    ∙ ap (λ l. noted (found E35 l) c.args.least.now) (sym (each_step faults (placed_unit c.args.unit.now)))
