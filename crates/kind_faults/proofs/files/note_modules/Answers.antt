use Rattle.std.proofs.Common.{◌<◌, length, arith, ◌∙◌}
use Rattle.kind_faults.proofs.Seeking.{next_module}
use Rattle.kind_faults.specs.InScopes.{code_of_sought, faults_in_scope}
use Rattle.sound_programs.specs.Placing.{placed}
use Rattle.kind_faults.proofs.files.note_modules.Goals as goal

-- src/files.rt
pub loop-number-preserved : goal.loop-number-preserved
loop-number-preserved c =
    let items = c.args.modules.now in
    let within : c.loop-number.number < length items = omega arith in
    next_module (code_of_sought c.args.sought) (faults_in_scope (placed c.args.file.now) c.args.sought) items c.loop-number.number c.index-modules-number.result within c.index-modules-number.is
    c.loop-number.least c.note_module.new.least c.in_ok-note_module.ensures ∙ c.loop-number.invariant
