use Rattle.sound_programs.proofs.RoundTrip.{placed-file_of}
use Rattle.sound_programs.proofs.laws.placed_trees_are_of_files.Goals as goal

-- src/laws.rt
pub returns : goal.returns
returns c = placed-file_of
