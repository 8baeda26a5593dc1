use Rattle.std.proofs.Common.{◌≡◌, drop, map}
use Rattle.fort_names.specs.Sharing.{inserted}
use Rattle.argument_faults.proofs.module_names.insert_names.Given as goal

abbrev pub invariant-loop-named : goal.invariant-loop-named
invariant-loop-named l = inserted l.into (map (λ n. n.name) (drop l.named-index l.names)) ≡ inserted l.fn.into (map (λ n. n.name) l.names)
