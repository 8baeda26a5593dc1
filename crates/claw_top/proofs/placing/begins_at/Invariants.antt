use Rattle.std.proofs.Common.{◌≡◌, drop}
use Rattle.claw_top.specs.Sources.{begins_at, begins_after}
use Rattle.claw_top.proofs.placing.begins_at.Given as goal

abbrev pub invariant-loop-line : goal.invariant-loop-line
invariant-loop-line l = begins_after l.at l.begin (drop l.line-index l.others) ≡ begins_at l.at l.lines
