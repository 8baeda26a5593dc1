use Rattle.std.proofs.Common.{◌<◌, length, arith, refl, ap, ◌∙◌}
use Rattle.fort_tree.specs.declared.fault.Code.TheVariants.{E38}
use Rattle.sound_programs.specs.Faults.{found}
use Rattle.sound_programs.specs.Places.{where_place}
use Rattle.fort_names.specs.Leasts.{noted}
use Rattle.fort_names.proofs.FirstOf.{next_places}
use Rattle.argument_faults.specs.Sharing.{share, shares_of}
use Rattle.argument_faults.proofs.shared.note_shares_of.Goals as goal

-- src/shared.rt
pub loop-other-preserved : goal.loop-other-preserved
loop-other-preserved c =
    let items = c.args.others.now in
    let a = c.args.one.now in
    let within : c.loop-other.other-index < length items = omega arith in
    next_places E38 (shares_of a) (λ b. where_place (share a b) b.at) (λ b l. refl) items c.loop-other.other-index c.other-item.result within c.other-item.is
    c.loop-other.least c.note_if.new.self
    (c.note_if.ensures ∙ ap (λ b. noted (found E38 (where_place b c.other-item.result.at)) c.loop-other.least) c.share.ensures) ∙ c.loop-other.invariant
