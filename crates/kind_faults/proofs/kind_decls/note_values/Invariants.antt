use Rattle.std.proofs.Common.{◌≡◌, drop, map}
use Rattle.fort_names.specs.Leasts.{noted}
use Rattle.fort_tree.specs.declared.fault.Code.TheVariants.{E32}
use Rattle.sound_programs.specs.Faults.{found}
use Rattle.sound_programs.specs.KindFaults.{value_fault}
use Rattle.sound_programs.specs.Placing.{placed_decl}
use Rattle.std.specs.Prelude.{flat_map}
use Rattle.kind_faults.proofs.kind_decls.note_values.Given as goal

abbrev pub invariant-loop-decl : goal.invariant-loop-decl
invariant-loop-decl l = noted (found E32 (flat_map value_fault (map placed_decl (drop l.decl-index l.decls)))) l.least ≡ noted (found E32 (flat_map value_fault (map placed_decl l.fn.decls))) l.fn.least
