use Rattle.std.proofs.Common.{ap, ◌∙◌}
use Rattle.fort_tree.specs.declared.unit.File.{File}
use Rattle.sound_programs.specs.Faults.{faults_of_names}
use Rattle.sound_programs.specs.Placing.{placed}
use Rattle.column_rules.proofs.NoFaults.{no_faults}
use Rattle.column_rules.proofs.broken.note_broken.Goals as goal

-- src/broken.rt
pub note_in-requires-clause-names : goal.note_in-requires-clause-names
note_in-requires-clause-names c =
    let p = c.args.checked.now in
    ap (λ (f : File). faults_of_names (placed f)) c.file.ensures ∙ no_faults p.mode p.file c.is_sound.ensures.sound
