use Rattle.std.proofs.Common.{subst}
use Rattle.fort_stmt.specs.Faults.{Parses}
use Rattle.fort_stmt.proofs.building.built.Goals as goal

pub unreachable-requires : goal.unreachable-requires
unreachable-requires c = (subst (λ o. Parses o c.args.tokens.now) c.in-Syntax.is c.in_ok-statement.ensures).1 c.requires.0 c.requires.1
