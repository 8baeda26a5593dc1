use Rattle.std.proofs.Common.{◌<◌, length, arith, refl, ◌∙◌}
use Rattle.std.specs.Prelude.{flat_map}
use Rattle.fort_tree.specs.declared.fault.Code.TheVariants.{E38}
use Rattle.sound_programs.specs.Placing.{placed}
use Rattle.fort_names.specs.Sights.{means, file_of}
use Rattle.fort_kinds.specs.Sites.{placed_site, placed_sites}
use Rattle.argument_faults.specs.InUnits.{alias_in}
use Rattle.fort_names.proofs.FirstOf.{next_places}
use Rattle.argument_faults.proofs.unit_faults.note_sites.Goals as goal

-- src/unit_faults.rt
pub loop-site-preserved : goal.loop-site-preserved
loop-site-preserved c =
    let items = c.args.list.now in
    let within : c.loop-site.site-index < length items = omega arith in
    next_places E38 (λ l. flat_map (alias_in (placed (file_of c.args.sight.now)) (means c.args.sight.now) c.args.unit.now) (placed_sites l)) (λ a. alias_in (placed (file_of c.args.sight.now)) (means c.args.sight.now) c.args.unit.now (placed_site a)) (λ a l. refl) items c.loop-site.site-index c.site-item.result within c.site-item.is
    c.loop-site.least c.note_site.new.least c.in_ok-note_site.ensures ∙ c.loop-site.invariant
