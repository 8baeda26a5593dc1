use Rattle.std.proofs.Common.{◌≡◌, drop}
use Rattle.fort_tree.specs.declared.fault.Code.TheVariants.{E34}
use Rattle.sound_programs.specs.Faults.{found}
use Rattle.fort_names.specs.Leasts.{noted}
use Rattle.fort_names.specs.Circles.{circle_places}
use Rattle.fort_names.proofs.cycles.note_links.Given as goal

abbrev pub invariant-loop-link : goal.invariant-loop-link
invariant-loop-link l = noted (found E34 (circle_places l.fn.links (drop l.link-index l.links))) l.least ≡ noted (found E34 (circle_places l.fn.links l.fn.links)) l.fn.least
