use Rattle.std.proofs.Common.{◌≡◌, drop, map}
use Rattle.fort_names.specs.Sharing.{inserted}
use Rattle.fort_names.proofs.shared.insert_units.Given as goal

abbrev pub invariant-loop-unit : goal.invariant-loop-unit
invariant-loop-unit l = inserted l.names (map (λ u. u.name) (drop l.unit-index l.units)) ≡ inserted l.fn.names (map (λ u. u.name) l.fn.units)
