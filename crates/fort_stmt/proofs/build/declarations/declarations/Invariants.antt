use Rattle.std.proofs.Common.{◌≡◌, map}
use Rattle.fort_stmt.specs.Form.{declared}
use Rattle.fort_stmt.proofs.build.declarations.declarations.Given as goal

abbrev pub invariant-loop-entity : goal.invariant-loop-entity
invariant-loop-entity l = l.all ≡ map (declared l.attributes.kind l.attributes.intent l.attributes.shape) l.yielded
