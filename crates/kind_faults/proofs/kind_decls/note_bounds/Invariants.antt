use Rattle.std.proofs.Common.{◌≡◌, drop}
use Rattle.kind_faults.specs.Holders.{scope_of}
use Rattle.fort_names.specs.Leasts.{noted}
use Rattle.fort_names.specs.Sights.{means}
use Rattle.fort_tree.specs.declared.fault.Code.TheVariants.{E32}
use Rattle.sound_programs.specs.Faults.{found}
use Rattle.sound_programs.specs.KindFaults.{bound_fault}
use Rattle.std.specs.Prelude.{flat_map}
use Rattle.unit_steps.specs.Behind.{exprs}
use Rattle.kind_faults.proofs.kind_decls.note_bounds.Given as goal

abbrev pub invariant-loop-bound : goal.invariant-loop-bound
invariant-loop-bound l = noted (found E32 (flat_map (bound_fault (scope_of l.holder) (means l.sight)) (exprs (drop l.bound-index l.bounds)))) l.least ≡ noted (found E32 (flat_map (bound_fault (scope_of l.holder) (means l.sight)) (exprs l.fn.bounds))) l.fn.least
