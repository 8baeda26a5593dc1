use Rattle.std.proofs.Common.{ap, ◌∙◌}
use Rattle.std.specs.Prelude.{flat_map}
use Rattle.fort_tree.specs.declared.fault.Code.TheVariants.{E38}
use Rattle.sound_programs.specs.Faults.{found}
use Rattle.sound_programs.specs.Placing.{placed}
use Rattle.fort_names.specs.Leasts.{noted}
use Rattle.fort_names.specs.Sights.{means, file_of}
use Rattle.fort_kinds.specs.Sites.{placed_sites}
use Rattle.argument_faults.specs.InUnits.{alias_in}
use Rattle.argument_faults.proofs.unit_faults.note_step.Goals as goal

-- src/unit_faults.rt
pub returns : goal.returns
returns c =
    let alias = alias_in (placed (file_of c.args.sight.now)) (means c.args.sight.now) c.args.unit.now in
    c.in_ok-note_sites.ensures
    ∙ ap (λ l. noted (found E38 l) c.args.least.now) (ap (λ l. flat_map alias (placed_sites l)) c.as_slice.ensures.value ∙ ap (flat_map alias) c.in_ok-list.ensures)
