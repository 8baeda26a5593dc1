use Rattle.std.proofs.Common.{◌<◌, length, arith, ◌∙◌}
use Rattle.kind_faults.specs.Cases.{placed_ranges}
use Rattle.fort_names.proofs.FirstOf.{next_places}
use Rattle.fort_names.specs.Sights.{means}
use Rattle.fort_tree.specs.declared.fault.Code.TheVariants.{E32}
use Rattle.sound_programs.specs.KindFaults.{case_fault, values_of}
use Rattle.sound_programs.specs.Placing.{placed_range}
use Rattle.std.proofs.lemmas.Grind.{flat_map-append}
use Rattle.std.specs.Prelude.{flat_map}
use Rattle.kind_faults.proofs.cases.note_case_values.Goals as goal

-- src/cases.rt
pub loop-range-preserved : goal.loop-range-preserved
loop-range-preserved c =
    let items = c.args.ranges.now in
    let within : c.loop-range.range-index < length items = omega arith in
    next_places E32 (λ l. flat_map (case_fault (means c.args.sight.now) c.args.kind) (flat_map (values_of (means c.args.sight.now)) (placed_ranges l))) (λ a. flat_map (case_fault (means c.args.sight.now) c.args.kind) (values_of (means c.args.sight.now) (placed_range a.now))) (λ a l. flat_map-append (case_fault (means c.args.sight.now) c.args.kind) (values_of (means c.args.sight.now) (placed_range a.now)) (flat_map (values_of (means c.args.sight.now)) (placed_ranges l))) items c.loop-range.range-index c.range-item.result within c.range-item.is c.loop-range.least c.note_range_values.new.least
    c.note_range_values.ensures ∙ c.loop-range.invariant
