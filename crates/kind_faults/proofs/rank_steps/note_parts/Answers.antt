use Rattle.std.proofs.Common.{◌<◌, length, arith, refl, ◌∙◌}
use Rattle.fort_names.proofs.FirstOf.{next_places}
use Rattle.fort_names.specs.Sights.{means}
use Rattle.fort_tree.specs.declared.fault.Code.TheVariants.{E33}
use Rattle.sound_programs.specs.Placing.{placed_expr}
use Rattle.sound_programs.specs.RankFaults.{rank_faults_of_part}
use Rattle.std.specs.Prelude.{flat_map}
use Rattle.unit_steps.specs.Behind.{exprs}
use Rattle.kind_faults.proofs.rank_steps.note_parts.Goals as goal

-- src/rank_steps.rt
pub loop-part-preserved : goal.loop-part-preserved
loop-part-preserved c =
    let items = c.args.parts.now in
    let within : c.loop-part.part-index < length items = omega arith in
    next_places E33 (λ l. flat_map (rank_faults_of_part (means c.args.sight.now)) (exprs l)) (λ a. rank_faults_of_part (means c.args.sight.now) (placed_expr a.now)) (λ a l. refl) items c.loop-part.part-index c.part-item.result within c.part-item.is c.loop-part.least c.note_ranks_of_part.new.least
    c.note_ranks_of_part.ensures ∙ c.loop-part.invariant
