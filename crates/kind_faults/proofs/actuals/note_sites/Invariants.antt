use Rattle.std.proofs.Common.{◌≡◌, drop}
use Rattle.kind_faults.specs.Fitting.{code_of_fit, unfit}
use Rattle.fort_kinds.specs.Sites.{placed_sites}
use Rattle.fort_names.specs.Leasts.{noted}
use Rattle.fort_names.specs.Sights.{means}
use Rattle.sound_programs.specs.Faults.{found}
use Rattle.sound_programs.specs.Walks.{actuals}
use Rattle.std.specs.Prelude.{flat_map}
use Rattle.kind_faults.proofs.actuals.note_sites.Given as goal

abbrev pub invariant-loop-site : goal.invariant-loop-site
invariant-loop-site l = noted (found (code_of_fit l.fit) (flat_map (unfit (means l.sight) l.fit) (flat_map (actuals (means l.sight)) (placed_sites (drop l.site-index l.sites))))) l.least ≡ noted (found (code_of_fit l.fit) (flat_map (unfit (means l.sight) l.fit) (flat_map (actuals (means l.sight)) (placed_sites l.fn.sites)))) l.fn.least
