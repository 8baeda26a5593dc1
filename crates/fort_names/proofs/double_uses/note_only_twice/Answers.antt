use Rattle.std.proofs.Common.{◌<◌, length, arith, refl, ap, ◌∙◌}
use Rattle.fort_tree.specs.declared.fault.Code.TheVariants.{E31}
use Rattle.sound_programs.specs.Faults.{found}
use Rattle.fort_names.specs.Leasts.{noted}
use Rattle.sound_programs.specs.Scopes.{only_names}
use Rattle.fort_names.specs.Using.{names_twice, only_twice}
use Rattle.fort_names.proofs.FirstOf.{next_places}
use Rattle.fort_names.proofs.double_uses.note_only_twice.Goals as goal

-- src/double_uses.rt
pub loop-line-preserved : goal.loop-line-preserved
loop-line-preserved c =
    let items = c.args.lines.now in
    let s = c.args.shared.now in
    let contested = c.args.contested.now in
    let within : c.loop-line.line-index < length items = omega arith in
    next_places E31 (only_twice s contested items) (λ line. names_twice s contested items (only_names line.only)) (λ a l. refl) items c.loop-line.line-index c.line-item.result within c.line-item.is
    c.loop-line.least c.note_names_twice.new.least
    (c.note_names_twice.ensures ∙ ap (λ l. noted (found E31 (names_twice s contested items l)) c.loop-line.least) c.only_of.ensures) ∙ c.loop-line.invariant
