use Rattle.std.proofs.Common.{◌<◌, length, arith, ◌∙◌}
use Rattle.kind_faults.specs.Counts.{intrinsic_count}
use Rattle.fort_names.proofs.FirstOf.{next_places}
use Rattle.fort_tree.specs.declared.fault.Code.TheVariants.{E37}
use Rattle.sound_programs.specs.Placing.{placed_expr}
use Rattle.sound_programs.specs.Walks.{reference}
use Rattle.std.proofs.lemmas.Grind.{flat_map-append}
use Rattle.std.specs.Prelude.{flat_map}
use Rattle.unit_steps.specs.Behind.{exprs}
use Rattle.kind_faults.proofs.counts.note_intrinsic_counts.Goals as goal

-- src/counts.rt
pub loop-part-preserved : goal.loop-part-preserved
loop-part-preserved c =
    let items = c.args.parts.now in
    let within : c.loop-part.part-index < length items = omega arith in
    next_places E37 (λ l. flat_map intrinsic_count (flat_map reference (exprs l))) (λ a. flat_map intrinsic_count (reference (placed_expr a.now))) (λ a l. flat_map-append intrinsic_count (reference (placed_expr a.now)) (flat_map reference (exprs l))) items c.loop-part.part-index c.part-item.result within c.part-item.is c.loop-part.least c.note_intrinsic_count.new.least
    c.note_intrinsic_count.ensures ∙ c.loop-part.invariant
