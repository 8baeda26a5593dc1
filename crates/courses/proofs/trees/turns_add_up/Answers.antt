use Rattle.courses.proofs.Turning.{turns_follow, turns_stop, turns_kept}
use Rattle.courses.proofs.trees.turns_add_up.Goals as goal

pub returns-clause-ends : goal.returns-clause-ends
returns-clause-ends c = λ k l r f a o s j h. turns_follow r f a o s j h

pub returns-clause-traps : goal.returns-clause-traps
returns-clause-traps c = λ k l r f o s j h. turns_stop r f o s j h

pub returns-clause-kept : goal.returns-clause-kept
returns-clause-kept c = λ k p t r o s j. turns_kept p t r o s j
