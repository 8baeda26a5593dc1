use Rattle.std.proofs.Common.{◌<◌, length, take, get_or, sym, ap, ◌∙◌, arith}
use Rattle.std.proofs.lemmas.List.{take_more}
use Rattle.fort_tree.specs.declared.fault.Code.TheVariants.{E32}
use Rattle.sound_programs.specs.Faults.{found}
use Rattle.fort_names.specs.Leasts.{noted}
use Rattle.kind_faults.specs.Cases.{overlapping_choices}
use Rattle.kind_faults.proofs.Columns.{one_more}
use Rattle.kind_faults.proofs.cases.note_behind_first.Goals as goal

-- src/cases.rt
pub loop-i-preserved : goal.loop-i-preserved
loop-i-preserved c =
    let items = c.args.choices.now in
    let within : c.loop-i.i < length items = omega arith in
    one_more (take c.loop-i.i items) (get_or items c.loop-i.i _) c.args.least.now c.loop-i.least c.note_one_more.new.least c.loop-i.invariant c.note_one_more.ensures
    ∙ ap (λ l. noted (found E32 (overlapping_choices l)) c.args.least.now) (sym (take_more items c.loop-i.i _ within))
