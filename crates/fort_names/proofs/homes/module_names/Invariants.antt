use Rattle.std.proofs.Common.{◌≡◌, ◌++◌, drop, map}
use Rattle.fort_names.proofs.homes.module_names.Given as goal

abbrev pub invariant-loop-one : goal.invariant-loop-one
invariant-loop-one l = l.names.items ++ map (λ m. m.name) (drop l.one-index l.modules) ≡ map (λ m. m.name) l.modules
