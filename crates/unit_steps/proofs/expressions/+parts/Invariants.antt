use Rattle.std.proofs.Common.{◌≡◌, ◌++◌, drop}
use Rattle.sound_programs.specs.Placing.{placed_subs}
use Rattle.sound_programs.specs.Walks.{parts_in}
use Rattle.unit_steps.specs.Behind.{exprs}
use Rattle.unit_steps.proofs.expressions.«+parts».Given as goal

abbrev pub invariant-note_parts_in-loop-sub : goal.invariant-note_parts_in-loop-sub
invariant-note_parts_in-loop-sub l = exprs l.into.items ++ parts_in (placed_subs (drop l.sub-index l.subs)) ≡ exprs l.fn.into.items ++ parts_in (placed_subs l.subs)
