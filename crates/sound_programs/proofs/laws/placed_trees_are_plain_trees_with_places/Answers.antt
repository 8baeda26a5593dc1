use Rattle.sound_programs.proofs.BareTrees.{placed_is_plain}
use Rattle.sound_programs.proofs.laws.placed_trees_are_plain_trees_with_places.Goals as goal

-- src/laws.rt
pub returns : goal.returns
returns c = placed_is_plain
