use Rattle.std.proofs.Common.{◌≡◌, drop}
use Rattle.fort_tree.specs.declared.fault.Code.TheVariants.{E3A}
use Rattle.sound_programs.specs.Faults.{found}
use Rattle.fort_names.specs.Leasts.{noted}
use Rattle.fort_names.specs.Sights.{means}
use Rattle.std.specs.Prelude.{flat_map}
use Rattle.fort_kinds.specs.Sites.{placed_sites}
use Rattle.argument_faults.specs.Written.{passed_at}
use Rattle.argument_faults.proofs.writes.note_sites.Given as goal

abbrev pub invariant-loop-site : goal.invariant-loop-site
invariant-loop-site l =
    noted (found E3A (flat_map (passed_at (means l.sight)) (placed_sites (drop l.site-index l.list)))) l.least
    ≡ noted (found E3A (flat_map (passed_at (means l.sight)) (placed_sites l.fn.list))) l.fn.least
