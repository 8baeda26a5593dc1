use Rattle.std.proofs.Common.{◌<◌, length, arith, refl, ◌∙◌}
use Rattle.fort_names.proofs.FirstOf.{next_places}
use Rattle.fort_names.specs.Sights.{means}
use Rattle.fort_tree.specs.declared.fault.Code.TheVariants.{E32}
use Rattle.sound_programs.specs.KindFaults.{kind_faults_of_part}
use Rattle.sound_programs.specs.Placing.{placed_expr}
use Rattle.std.specs.Prelude.{flat_map}
use Rattle.unit_steps.specs.Behind.{exprs}
use Rattle.kind_faults.proofs.kind_steps.note_parts.Goals as goal

-- src/kind_steps.rt
pub loop-part-preserved : goal.loop-part-preserved
loop-part-preserved c =
    let items = c.args.parts.now in
    let within : c.loop-part.part-index < length items = omega arith in
    next_places E32 (λ l. flat_map (kind_faults_of_part (means c.args.sight.now)) (exprs l)) (λ a. kind_faults_of_part (means c.args.sight.now) (placed_expr a.now)) (λ a l. refl) items c.loop-part.part-index c.part-item.result within c.part-item.is c.loop-part.least c.note_kinds_of_part.new.least
    c.note_kinds_of_part.ensures ∙ c.loop-part.invariant
