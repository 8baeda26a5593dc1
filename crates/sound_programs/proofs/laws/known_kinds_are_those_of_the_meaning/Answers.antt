use Rattle.sound_programs.proofs.KindsAgree.{kinds_agree}
use Rattle.sound_programs.proofs.laws.known_kinds_are_those_of_the_meaning.Goals as goal

-- src/laws.rt
pub returns : goal.returns
returns c = kinds_agree
