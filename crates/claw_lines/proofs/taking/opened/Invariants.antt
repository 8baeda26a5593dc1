use Rattle.std.proofs.Common.{◌≡◌, drop}
use Rattle.claw_lines.specs.Words.{opening, parts}
use Rattle.claw_lines.specs.Steps.{found}
use Rattle.claw_lines.proofs.taking.opened.Given as goal

abbrev pub invariant-loop-part : goal.invariant-loop-part
invariant-loop-part l = found opening (drop l.part-index l.part-items) l.tokens ≡ found opening (parts l.fn.word) l.tokens
