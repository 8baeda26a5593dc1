use Rattle.sound_programs.proofs.SoundLaws.{no_cycle}
use Rattle.sound_programs.proofs.laws.sound_programs_have_no_cycle.Goals as goal

-- src/laws.rt
pub returns : goal.returns
returns c = no_cycle
