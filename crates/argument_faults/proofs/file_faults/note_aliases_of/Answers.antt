use Rattle.std.proofs.Common.{sym, ap, subst, ◌∙◌}
use Rattle.fort_tree.specs.declared.fault.Code.TheVariants.{E38}
use Rattle.fort_tree.specs.declared.unit.File.{File}
use Rattle.sound_programs.specs.Faults.{found}
use Rattle.sound_programs.specs.Placing.{placed, placed_unit}
use Rattle.fort_names.specs.Leasts.{noted}
use Rattle.argument_faults.specs.InUnits.{alias_in_unit}
use Rattle.argument_faults.specs.Reaching.{IsReached}
use Rattle.argument_faults.proofs.AliasesAre.{aliases_are}
use Rattle.argument_faults.proofs.file_faults.note_aliases_of.Goals as goal

-- src/file_faults.rt
pub note_unit_aliases-requires : goal.note_unit_aliases-requires
note_unit_aliases-requires c = subst (λ (f : File). IsReached f c.args.reached.now) (sym c.sight_of_unit-sight.ensures.file) c.requires.reached

-- src/file_faults.rt
pub returns : goal.returns
returns c =
    let u = c.args.unit.now in
    let least = c.args.least.now in
    c.in_ok-note_unit_aliases.ensures
    ∙ (λ i. noted (found E38 (alias_in_unit (placed (c.sight_of_unit-sight.ensures.file i)) (c.sight_of_unit-sight.ensures.means u c.requires.there i) (placed_unit u))) least)
    ∙ ap (λ l. noted (found E38 l) least) (aliases_are (placed c.args.file.now) (placed_unit u))
