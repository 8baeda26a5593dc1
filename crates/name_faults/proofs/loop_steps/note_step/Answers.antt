use Rattle.name_faults.specs.LoopSteps.{step_faults}
use Rattle.name_faults.proofs.loop_steps.note_step.Goals as goal

-- src/loop_steps.rt
pub returns : goal.returns
unfolding step_faults
returns c = c.note_all.ensures
