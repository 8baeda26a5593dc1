use Rattle.std.proofs.Common.{◌≡◌, drop}
use Rattle.std.specs.Prelude.{flat_map}
use Rattle.fort_tree.specs.declared.fault.Code.TheVariants.{E38}
use Rattle.sound_programs.specs.Faults.{found}
use Rattle.sound_programs.specs.Placing.{placed}
use Rattle.fort_names.specs.Leasts.{noted}
use Rattle.fort_names.specs.Sights.{means, file_of}
use Rattle.fort_kinds.specs.Sites.{placed_sites}
use Rattle.argument_faults.specs.InUnits.{alias_in}
use Rattle.argument_faults.proofs.unit_faults.note_sites.Given as goal

abbrev pub invariant-loop-site : goal.invariant-loop-site
invariant-loop-site l =
    noted (found E38 (flat_map (alias_in (placed (file_of l.sight)) (means l.sight) l.unit) (placed_sites (drop l.site-index l.list)))) l.least
    ≡ noted (found E38 (flat_map (alias_in (placed (file_of l.sight)) (means l.sight) l.unit) (placed_sites l.fn.list))) l.fn.least
