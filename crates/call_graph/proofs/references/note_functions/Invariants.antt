use Rattle.std.proofs.Common.{take}
use Rattle.claw_meaning.specs.Syntax.{Text}
use Rattle.fort_names.specs.Sights.{means, file_of}
use Rattle.call_graph.specs.Adding.{Adds, function_referrals}
use Rattle.call_graph.proofs.references.note_functions.Given as goal

abbrev pub invariant-loop-name : goal.invariant-loop-name
invariant-loop-name l = (from : Text) → Adds (file_of l.sight) from l.initial.into l.into (function_referrals (means l.sight) from (take l.name-index l.names))
