use Rattle.std.proofs.Common.{◌≡◌, drop}
use Rattle.fort_stmt.specs.Outline.{first_name}
use Rattle.fort_stmt.proofs.outline.first_name.Given as goal

abbrev pub invariant-loop-token : goal.invariant-loop-token
invariant-loop-token l = first_name l.tokens ≡ first_name (drop l.token-index l.tokens)
