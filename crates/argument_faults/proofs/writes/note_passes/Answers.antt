use Rattle.std.proofs.Common.{ap, ◌∙◌}
use Rattle.std.specs.Prelude.{flat_map}
use Rattle.fort_tree.specs.declared.fault.Code.TheVariants.{E3A}
use Rattle.sound_programs.specs.Faults.{found}
use Rattle.fort_names.specs.Leasts.{noted}
use Rattle.fort_names.specs.Sights.{means}
use Rattle.unit_steps.specs.Behind.{placed_step}
use Rattle.fort_kinds.specs.Sites.{placed_sites}
use Rattle.argument_faults.specs.Written.{passed_at}
use Rattle.argument_faults.proofs.WritesAre.{passed_are}
use Rattle.argument_faults.proofs.writes.note_passes.Goals as goal

-- src/writes.rt
pub returns : goal.returns
returns c =
    let entity = means c.args.sight.now in
    c.in_ok-note_sites.ensures
    ∙ ap (λ l. noted (found E3A l) c.args.least.now)
    (ap (λ l. flat_map (passed_at entity) (placed_sites l)) c.as_slice.ensures.value ∙ ap (flat_map (passed_at entity)) c.in_ok-list.ensures ∙ passed_are entity (placed_step c.args.step))
