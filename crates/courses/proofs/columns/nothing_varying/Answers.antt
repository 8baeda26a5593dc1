use Rattle.courses.proofs.Lockstep_steps.{nothing_view, lockstep_ends}
use Rattle.courses.proofs.columns.nothing_varying.Goals as goal

pub returns-clause-view : goal.returns-clause-view
returns-clause-view c = nothing_view

pub returns-clause-answers : goal.returns-clause-answers
returns-clause-answers c = λ k pre post r q l o s j o' j' fair kn. lockstep_ends pre post r q l o s j o' j' fair kn
