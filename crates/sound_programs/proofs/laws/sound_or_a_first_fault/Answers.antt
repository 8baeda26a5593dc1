use Rattle.sound_programs.proofs.FirstFaults.{sound_or_faulty}
use Rattle.sound_programs.proofs.SoundLaws.{no_first_fault}
use Rattle.sound_programs.proofs.laws.sound_or_a_first_fault.Goals as goal

-- src/laws.rt
pub returns-clause-either : goal.returns-clause-either
returns-clause-either c = sound_or_faulty

pub returns-clause-never_both : goal.returns-clause-never_both
returns-clause-never_both c = no_first_fault
