use Rattle.sound_programs.proofs.SoundLaws.{declares_once, names_are_known, calls_are_known}
use Rattle.sound_programs.proofs.laws.names_of_sound_programs.Goals as goal

-- src/laws.rt
pub returns-clause-once : goal.returns-clause-once
returns-clause-once c = declares_once

pub returns-clause-read : goal.returns-clause-read
returns-clause-read c = names_are_known

pub returns-clause-called : goal.returns-clause-called
returns-clause-called c = calls_are_known
