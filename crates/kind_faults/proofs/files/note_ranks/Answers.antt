use Rattle.std.proofs.Common.{ap, ◌∙◌}
use Rattle.fort_names.specs.Leasts.{noted}
use Rattle.fort_tree.specs.declared.fault.Code.TheVariants.{E33}
use Rattle.kind_faults.proofs.Seeking.{ranks_are}
use Rattle.kind_faults.proofs.files.note_ranks.Goals as goal
use Rattle.sound_programs.specs.Faults.{found}
use Rattle.sound_programs.specs.Placing.{placed}

-- src/files.rt
pub returns : goal.returns
returns c = c.in_ok-note_all.ensures ∙ ap (λ l. noted (found E33 l) c.args.least.now) (ranks_are c.args.mode (placed c.args.file.now))
