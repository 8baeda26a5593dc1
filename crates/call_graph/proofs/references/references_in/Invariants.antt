use Rattle.std.proofs.Common.{[], flat_map, take}
use Rattle.claw_meaning.specs.Syntax.{Text}
use Rattle.fort_names.specs.Sights.{means, file_of}
use Rattle.unit_steps.specs.Behind.{placed_steps}
use Rattle.call_graph.specs.Adding.{Adds, step_referrals}
use Rattle.call_graph.proofs.references.references_in.Given as goal

abbrev pub invariant-loop-step : goal.invariant-loop-step
invariant-loop-step l = (from : Text) → Adds (file_of l.sight) from [] l.references (flat_map (step_referrals (means l.sight) from) (placed_steps (take l.step-index l.step-items)))
