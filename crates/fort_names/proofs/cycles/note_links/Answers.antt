use Rattle.std.proofs.Common.{◌<◌, length, arith, refl, ◌∙◌}
use Rattle.fort_tree.specs.declared.fault.Code.TheVariants.{E34}
use Rattle.fort_names.specs.Circles.{circle_place, circle_places}
use Rattle.fort_names.proofs.FirstOf.{next_places}
use Rattle.fort_names.proofs.cycles.note_links.Goals as goal

-- src/cycles.rt
pub loop-link-preserved : goal.loop-link-preserved
loop-link-preserved c =
    let items = c.args.links.now in
    let within : c.loop-link.link-index < length items = omega arith in
    next_places E34 (circle_places items) (circle_place items) (λ a l. refl) items c.loop-link.link-index c.link-item.result within c.link-item.is c.loop-link.least c.note_link.new.least
    c.in_ok-note_link.ensures ∙ c.loop-link.invariant
