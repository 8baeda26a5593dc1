use Rattle.std.proofs.Common.{◌≡◌, drop}
use Rattle.claw_lines.specs.Words.{phrase, forms}
use Rattle.claw_lines.specs.Steps.{found}
use Rattle.claw_lines.proofs.taking.begun.Given as goal

abbrev pub invariant-loop-word : goal.invariant-loop-word
invariant-loop-word l = found phrase (drop l.word-index forms) l.tokens ≡ found phrase forms l.tokens
