use Rattle.std.proofs.Common.{ap, ◌∙◌}
use Rattle.fort_names.specs.Leasts.{noted}
use Rattle.fort_tree.specs.declared.fault.Code.TheVariants.{E37}
use Rattle.kind_faults.proofs.Seeking.{counts_are}
use Rattle.kind_faults.proofs.files.note_counts.Goals as goal
use Rattle.sound_programs.specs.Faults.{found}
use Rattle.sound_programs.specs.Placing.{placed}

-- src/files.rt
pub returns : goal.returns
returns c = c.in_ok-note_all.ensures ∙ ap (λ l. noted (found E37 l) c.args.least.now) (counts_are (placed c.args.file.now))
