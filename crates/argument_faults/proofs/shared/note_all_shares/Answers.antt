use Rattle.std.proofs.Common.{◌<◌, ◌+◌, length, arith, ap, ◌∙◌}
use Rattle.std.proofs.lemmas.List.{take_rest}
use Rattle.fort_tree.specs.declared.fault.Code.TheVariants.{E38}
use Rattle.sound_programs.specs.Faults.{found}
use Rattle.fort_names.specs.Leasts.{noted}
use Rattle.fort_names.proofs.FirstOf.{next_pairs}
use Rattle.argument_faults.specs.Sharing.{shares_of, all_shares}
use Rattle.argument_faults.proofs.SharesAre.{shares_first}
use Rattle.argument_faults.proofs.shared.note_all_shares.Goals as goal

-- src/shared.rt
pub loop-i-preserved : goal.loop-i-preserved
loop-i-preserved c =
    let items = c.args.list.now in
    let within : c.loop-i.i < length items = omega arith in
    next_pairs E38 all_shares shares_of shares_first items c.loop-i.i c.index-list-i.result within c.index-list-i.is
    c.loop-i.least c.note_shares_of.new.least
    (c.note_shares_of.ensures ∙ ap (λ l. noted (found E38 (shares_of c.index-list-i.result l)) c.loop-i.least) (take_rest items (c.loop-i.i + 1))) ∙ c.loop-i.invariant
