use Rattle.std.proofs.Common.{◌<◌, length, arith, refl, ◌∙◌}
use Rattle.kind_faults.specs.Counts.{unit_count}
use Rattle.fort_kinds.specs.Sites.{placed_site, placed_sites}
use Rattle.fort_names.proofs.FirstOf.{next_places}
use Rattle.fort_names.specs.Sights.{means}
use Rattle.fort_tree.specs.declared.fault.Code.TheVariants.{E37}
use Rattle.std.specs.Prelude.{flat_map}
use Rattle.kind_faults.proofs.counts.note_unit_counts.Goals as goal

-- src/counts.rt
pub loop-site-preserved : goal.loop-site-preserved
loop-site-preserved c =
    let items = c.args.sites.now in
    let within : c.loop-site.site-index < length items = omega arith in
    next_places E37 (λ l. flat_map (unit_count (means c.args.sight.now)) (placed_sites l)) (λ a. unit_count (means c.args.sight.now) (placed_site a)) (λ a l. refl) items c.loop-site.site-index c.site-item.result within c.site-item.is c.loop-site.least c.note_unit_count.new.least
    c.note_unit_count.ensures ∙ c.loop-site.invariant
