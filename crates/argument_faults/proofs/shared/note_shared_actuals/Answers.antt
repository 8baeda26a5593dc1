use Rattle.std.proofs.Common.{ap, ◌∙◌}
use Rattle.fort_tree.specs.declared.fault.Code.TheVariants.{E38}
use Rattle.sound_programs.specs.Faults.{found}
use Rattle.fort_names.specs.Leasts.{noted}
use Rattle.fort_names.specs.Sights.{means}
use Rattle.argument_faults.specs.Actuals.{placed_actuals}
use Rattle.argument_faults.specs.Sharing.{all_shares}
use Rattle.argument_faults.proofs.SharesAre.{shares_are}
use Rattle.argument_faults.proofs.shared.note_shared_actuals.Goals as goal

-- src/shared.rt
pub returns : goal.returns
returns c =
    c.note_all_shares.ensures
    ∙ ap (λ l. noted (found E38 l) c.args.least.now)
    (ap all_shares (c.as_slice.ensures.value ∙ c.in_ok-list.ensures) ∙ shares_are (means c.args.sight.now) (placed_actuals c.args.actuals.now))
