use Rattle.std.proofs.Common.{◌≡◌, drop}
use Rattle.scalar_units.specs.Unbuilt.{noted, of_body}
use Rattle.scalar_units.proofs.unbuilt.note_body.Given as goal

abbrev pub invariant-loop-stmt : goal.invariant-loop-stmt
invariant-loop-stmt l = noted (of_body l.unit (drop l.stmt-index l.stmt-items)) l.least ≡ noted (of_body l.fn.unit l.fn.unit.body) l.fn.least
