use Rattle.std.proofs.Common.{◌<◌, length, arith, refl, ◌∙◌}
use Rattle.fort_tree.specs.declared.fault.Code.TheVariants.{E3A}
use Rattle.fort_names.specs.Sights.{means}
use Rattle.std.specs.Prelude.{flat_map}
use Rattle.fort_kinds.specs.Sites.{placed_site, placed_sites}
use Rattle.argument_faults.specs.Written.{passed_at}
use Rattle.fort_names.proofs.FirstOf.{next_places}
use Rattle.argument_faults.proofs.writes.note_sites.Goals as goal

-- src/writes.rt
pub loop-site-preserved : goal.loop-site-preserved
loop-site-preserved c =
    let items = c.args.list.now in
    let within : c.loop-site.site-index < length items = omega arith in
    next_places E3A (λ l. flat_map (passed_at (means c.args.sight.now)) (placed_sites l)) (λ a. passed_at (means c.args.sight.now) (placed_site a)) (λ a l. refl) items c.loop-site.site-index c.site-item.result within c.site-item.is
    c.loop-site.least c.note_passed_at.new.least c.in_ok-note_passed_at.ensures ∙ c.loop-site.invariant
