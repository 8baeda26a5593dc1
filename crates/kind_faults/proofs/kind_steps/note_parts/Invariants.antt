use Rattle.std.proofs.Common.{◌≡◌, drop}
use Rattle.fort_names.specs.Leasts.{noted}
use Rattle.fort_names.specs.Sights.{means}
use Rattle.fort_tree.specs.declared.fault.Code.TheVariants.{E32}
use Rattle.sound_programs.specs.Faults.{found}
use Rattle.sound_programs.specs.KindFaults.{kind_faults_of_part}
use Rattle.std.specs.Prelude.{flat_map}
use Rattle.unit_steps.specs.Behind.{exprs}
use Rattle.kind_faults.proofs.kind_steps.note_parts.Given as goal

abbrev pub invariant-loop-part : goal.invariant-loop-part
invariant-loop-part l = noted (found E32 (flat_map (kind_faults_of_part (means l.sight)) (exprs (drop l.part-index l.parts)))) l.least ≡ noted (found E32 (flat_map (kind_faults_of_part (means l.sight)) (exprs l.fn.parts))) l.fn.least
