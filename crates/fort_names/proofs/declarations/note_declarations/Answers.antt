use Rattle.std.proofs.Common.{◌++◌, ap, sym, ◌∙◌}
use Rattle.fort_tree.specs.declared.fault.Code.TheVariants.{E31, E34, E3B}
use Rattle.sound_programs.specs.DeclarationFaults.{declared_twice, module_faults, intent_faults}
use Rattle.sound_programs.specs.Faults.{found}
use Rattle.sound_programs.specs.Placing.{placed}
use Rattle.fort_names.specs.Leasts.{noted}
use Rattle.fort_names.proofs.FirstOf.{noted_append}
use Rattle.fort_names.proofs.declarations.note_declarations.Goals as goal

-- src/declarations.rt
pub returns : goal.returns
returns c =
    let p = placed c.args.file.now in
    let twice = found E31 (declared_twice p) in
    let modules = found E34 (module_faults p) in
    let intents = found E3B (intent_faults p) in
    c.note_intents.ensures
    ∙ ap (noted intents) (c.in_ok-note_module_faults.ensures ∙ ap (noted modules) c.in_ok-note_declared_twice.ensures)
    ∙ sym (noted_append modules intents (noted twice c.args.least.now))
    ∙ sym (noted_append twice (modules ++ intents) c.args.least.now)
