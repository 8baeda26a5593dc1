use Rattle.courses.proofs.Alike.{alike, unwritten}
use Rattle.courses.proofs.trees.locality.Goals as goal

pub returns-clause-alike : goal.returns-clause-alike
returns-clause-alike c = λ k r o j s s' h. alike r o j s s' h

pub returns-clause-unwritten : goal.returns-clause-unwritten
returns-clause-unwritten c = λ k r o s j e h. unwritten r o s j e h
