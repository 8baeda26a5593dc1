use Rattle.std.proofs.Common.{◌<◌, length, arith, ◌∙◌}
use Rattle.kind_faults.specs.Fitting.{code_of_fit, unfit}
use Rattle.fort_kinds.specs.Sites.{placed_site, placed_sites}
use Rattle.fort_names.proofs.FirstOf.{next_places}
use Rattle.fort_names.specs.Sights.{means}
use Rattle.sound_programs.specs.Walks.{actuals}
use Rattle.std.proofs.lemmas.Grind.{flat_map-append}
use Rattle.std.specs.Prelude.{flat_map}
use Rattle.kind_faults.proofs.actuals.note_sites.Goals as goal

-- src/actuals.rt
pub loop-site-preserved : goal.loop-site-preserved
loop-site-preserved c =
    let items = c.args.sites.now in
    let within : c.loop-site.site-index < length items = omega arith in
    next_places (code_of_fit c.args.fit) (λ l. flat_map (unfit (means c.args.sight.now) c.args.fit) (flat_map (actuals (means c.args.sight.now)) (placed_sites l))) (λ a. flat_map (unfit (means c.args.sight.now) c.args.fit) (actuals (means c.args.sight.now) (placed_site a))) (λ a l. flat_map-append (unfit (means c.args.sight.now) c.args.fit) (actuals (means c.args.sight.now) (placed_site a)) (flat_map (actuals (means c.args.sight.now)) (placed_sites l))) items c.loop-site.site-index c.site-item.result within c.site-item.is c.loop-site.least c.note_site.new.least
    c.note_site.ensures ∙ c.loop-site.invariant
