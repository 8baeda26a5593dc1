use Rattle.std.proofs.Common.{◌≡◌, drop}
use Rattle.fort_names.specs.Leasts.{noted}
use Rattle.fort_names.specs.Sights.{means}
use Rattle.fort_tree.specs.declared.fault.Code.TheVariants.{E33}
use Rattle.sound_programs.specs.Faults.{found}
use Rattle.sound_programs.specs.RankFaults.{rank_faults_of_part}
use Rattle.std.specs.Prelude.{flat_map}
use Rattle.unit_steps.specs.Behind.{exprs}
use Rattle.kind_faults.proofs.rank_steps.note_parts.Given as goal

abbrev pub invariant-loop-part : goal.invariant-loop-part
invariant-loop-part l = noted (found E33 (flat_map (rank_faults_of_part (means l.sight)) (exprs (drop l.part-index l.parts)))) l.least ≡ noted (found E33 (flat_map (rank_faults_of_part (means l.sight)) (exprs l.fn.parts))) l.fn.least
