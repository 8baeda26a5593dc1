use Rattle.std.proofs.Common.{◌≡◌, ◌++◌, sym, ap, ◌∙◌}
use Rattle.fort_tree.specs.declared.fault.Code.TheVariants.{E38}
use Rattle.sound_programs.specs.ArgumentFaults.{shared_actuals}
use Rattle.sound_programs.specs.Faults.{found}
use Rattle.sound_programs.specs.Placing.{placed, placed_subs}
use Rattle.sound_programs.specs.Scopes.{unit_of}
use Rattle.sound_programs.specs.Walks as walks
use Rattle.fort_names.specs.Leasts.{noted}
use Rattle.fort_names.specs.Sights.{means, file_of}
use Rattle.fort_names.proofs.FirstOf.{noted_places}
use Rattle.fort_kinds.specs.Sites.{placed_site}
use Rattle.argument_faults.specs.Actuals.{placed_actuals}
use Rattle.argument_faults.specs.InUnits.{behind_in}
use Rattle.argument_faults.proofs.unit_faults.note_site.Goals as goal

-- src/unit_faults.rt
pub returns : goal.returns
returns c =
    let entity = means c.args.sight.now in
    let least = c.args.least.now in
    let callee = unit_of (entity c.args.site.now.name.now) in
    let p = placed (file_of c.args.sight.now) in
    let given = placed_actuals c.as_slice-actuals.result.now in
    let are : given ≡ walks.actuals entity (placed_site c.args.site.now) =
    ap placed_actuals c.as_slice-actuals.ensures.value ∙ c.in_ok-list.ensures ∙ ap (λ o. walks.actuals_of o (placed_subs c.args.site.now.args.now)) c.callee.ensures in
    c.note_behind_callee.ensures
    ∙ ap (noted (found E38 (behind_in p entity c.args.unit.now given callee))) c.in_ok-note_shared_actuals.ensures
    ∙ sym (noted_places E38 (shared_actuals entity given) (behind_in p entity c.args.unit.now given callee) least)
    ∙ ap (λ l. noted (found E38 (shared_actuals entity l ++ behind_in p entity c.args.unit.now l callee)) least) are
