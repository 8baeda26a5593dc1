use Rattle.sound_programs.proofs.Origins.{given_has_origin}
use Rattle.sound_programs.proofs.laws.what_modules_give_has_an_origin.Goals as goal

-- src/laws.rt
pub returns : goal.returns
returns c = given_has_origin
