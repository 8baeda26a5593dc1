use Rattle.sound_programs.proofs.Chains.{reached_within, reached_if_led}
use Rattle.sound_programs.proofs.laws.chains_are_short.Goals as goal

-- src/laws.rt
pub returns : goal.returns
returns c = λ links x y. (reached_if_led links x y, reached_within links x y)
