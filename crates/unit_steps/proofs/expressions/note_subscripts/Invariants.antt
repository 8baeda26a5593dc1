use Rattle.std.proofs.Common.{◌≡◌, ◌++◌, drop}
use Rattle.sound_programs.specs.Placing.{placed_subs}
use Rattle.sound_programs.specs.Walks.{in_subscripts}
use Rattle.unit_steps.specs.Behind.{exprs}
use Rattle.unit_steps.proofs.expressions.note_subscripts.Given as goal

abbrev pub invariant-loop-sub : goal.invariant-loop-sub
invariant-loop-sub l = exprs l.into.items ++ in_subscripts (placed_subs (drop l.sub-index l.subs)) ≡ exprs l.fn.into.items ++ in_subscripts (placed_subs l.subs)
