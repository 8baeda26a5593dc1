use Rattle.std.proofs.Common.{◌<◌, length, arith, ◌∙◌}
use Rattle.fort_tree.specs.declared.fault.Code.TheVariants.{E33}
use Rattle.sound_programs.specs.Walks.{section_places}
use Rattle.kind_faults.proofs.Places.{next_sub}
use Rattle.kind_faults.proofs.rank_parts.note_sections.Goals as goal

-- src/rank_parts.rt
pub loop-sub-preserved : goal.loop-sub-preserved
loop-sub-preserved c =
    let items = c.args.subs.now in
    let within : c.loop-sub.sub-index < length items = omega arith in
    next_sub E33 section_places items c.loop-sub.sub-index c.sub-item.result within c.sub-item.is c.loop-sub.least c.note_section.new.least c.note_section.ensures ∙ c.loop-sub.invariant
