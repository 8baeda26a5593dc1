use Rattle.courses.proofs.Renames.{renamed_run}
use Rattle.courses.proofs.trees.renaming.Goals as goal

pub returns : goal.returns
returns c = λ k f r o s j h. renamed_run f r o s j h
