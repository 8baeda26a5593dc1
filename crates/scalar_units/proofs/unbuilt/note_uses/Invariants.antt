use Rattle.std.proofs.Common.{◌≡◌, drop, map}
use Rattle.scalar_units.specs.Unbuilt.{noted}
use Rattle.scalar_units.proofs.unbuilt.note_uses.Given as goal

abbrev pub invariant-loop-line : goal.invariant-loop-line
invariant-loop-line l = noted (map (λ x. x.at) (drop l.line-index l.uses)) l.least ≡ noted (map (λ x. x.at) l.fn.uses) l.fn.least
