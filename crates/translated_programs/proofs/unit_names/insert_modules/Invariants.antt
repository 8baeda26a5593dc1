use Rattle.std.proofs.Common.{◌≡◌, drop, map}
use Rattle.fort_names.specs.Sharing.{inserted}
use Rattle.translated_programs.proofs.unit_names.insert_modules.Given as goal

abbrev pub invariant-loop-module : goal.invariant-loop-module
invariant-loop-module l = inserted l.names (map (λ m. m.name) (drop l.module-index l.modules)) ≡ inserted l.fn.names (map (λ m. m.name) l.fn.modules)
