use Rattle.std.proofs.Common.{◌≡◌, drop}
use Rattle.kind_faults.specs.Counts.{unit_count}
use Rattle.fort_kinds.specs.Sites.{placed_sites}
use Rattle.fort_names.specs.Leasts.{noted}
use Rattle.fort_names.specs.Sights.{means}
use Rattle.fort_tree.specs.declared.fault.Code.TheVariants.{E37}
use Rattle.sound_programs.specs.Faults.{found}
use Rattle.std.specs.Prelude.{flat_map}
use Rattle.kind_faults.proofs.counts.note_unit_counts.Given as goal

abbrev pub invariant-loop-site : goal.invariant-loop-site
invariant-loop-site l = noted (found E37 (flat_map (unit_count (means l.sight)) (placed_sites (drop l.site-index l.sites)))) l.least ≡ noted (found E37 (flat_map (unit_count (means l.sight)) (placed_sites l.fn.sites))) l.fn.least
