use Rattle.std.proofs.Common.{◌<◌, length, arith, ◌∙◌}
use Rattle.std.specs.Prelude.{flat_map}
use Rattle.sound_programs.specs.Walks.{section_bounds}
use Rattle.kind_faults.specs.Needs.{code_of, unmet}
use Rattle.fort_names.specs.Sights.{means}
use Rattle.kind_faults.proofs.Places.{next_sub}
use Rattle.kind_faults.proofs.needs.note_section_bounds.Goals as goal

-- src/needs.rt
pub loop-sub-preserved : goal.loop-sub-preserved
loop-sub-preserved c =
    let items = c.args.subs.now in
    let within : c.loop-sub.sub-index < length items = omega arith in
    next_sub (code_of c.args.need) (λ s. flat_map (unmet (means c.args.sight.now) c.args.need) (section_bounds s)) items c.loop-sub.sub-index c.sub-item.result within c.sub-item.is
    c.loop-sub.least c.note_bounds_of_sub.new.least c.note_bounds_of_sub.ensures ∙ c.loop-sub.invariant
