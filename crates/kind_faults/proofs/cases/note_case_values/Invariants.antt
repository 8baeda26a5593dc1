use Rattle.std.proofs.Common.{◌≡◌, drop}
use Rattle.kind_faults.specs.Cases.{placed_ranges}
use Rattle.fort_names.specs.Leasts.{noted}
use Rattle.fort_names.specs.Sights.{means}
use Rattle.fort_tree.specs.declared.fault.Code.TheVariants.{E32}
use Rattle.sound_programs.specs.Faults.{found}
use Rattle.sound_programs.specs.KindFaults.{case_fault, values_of}
use Rattle.std.specs.Prelude.{flat_map}
use Rattle.kind_faults.proofs.cases.note_case_values.Given as goal

abbrev pub invariant-loop-range : goal.invariant-loop-range
invariant-loop-range l = noted (found E32 (flat_map (case_fault (means l.sight) l.kind) (flat_map (values_of (means l.sight)) (placed_ranges (drop l.range-index l.ranges))))) l.least ≡ noted (found E32 (flat_map (case_fault (means l.sight) l.kind) (flat_map (values_of (means l.sight)) (placed_ranges l.fn.ranges)))) l.fn.least
