use Rattle.std.proofs.Common.{ap, ◌∙◌}
use Rattle.std.specs.Prelude.{flat_map}
use Rattle.fort_tree.specs.declared.fault.Code.TheVariants.{E3A}
use Rattle.sound_programs.specs.Faults.{found}
use Rattle.sound_programs.specs.Placing.{placed_unit}
use Rattle.fort_names.specs.Leasts.{noted}
use Rattle.fort_names.specs.Sights.{means}
use Rattle.unit_steps.specs.Behind.{placed_steps}
use Rattle.argument_faults.specs.ModuleWrites.{named_in_step}
use Rattle.argument_faults.proofs.ModuleWritesAre.{in_unit}
use Rattle.argument_faults.proofs.module_writes.note_module_writes.Goals as goal

-- src/module_writes.rt
pub returns : goal.returns
returns c =
    let entity = means c.args.sight.now in
    let unit = c.args.unit.now.name in
    c.in_ok-note_steps.ensures
    ∙ ap (λ l. noted (found E3A l) c.args.least.now)
    (ap (λ l. flat_map (named_in_step entity unit) (placed_steps l)) c.as_slice.ensures.value ∙ ap (flat_map (named_in_step entity unit)) c.in_ok-steps.ensures
    ∙ in_unit entity (placed_unit c.args.unit.now))
