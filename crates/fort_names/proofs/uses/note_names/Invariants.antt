use Rattle.std.proofs.Common.{◌≡◌, drop, not}
use Rattle.fort_tree.specs.declared.fault.Code.TheVariants.{E34}
use Rattle.sound_programs.specs.Faults.{found}
use Rattle.fort_names.specs.Leasts.{noted, places_at}
use Rattle.fort_names.specs.Sharing.{gives}
use Rattle.fort_names.proofs.uses.note_names.Given as goal

abbrev pub invariant-loop-named : goal.invariant-loop-named
invariant-loop-named l = noted (found E34 (places_at (λ n. not (gives l.shared l.used n.name)) (λ n. n.at) (drop l.named-index l.only))) l.least ≡ noted (found E34 (places_at (λ n. not (gives l.shared l.used n.name)) (λ n. n.at) l.fn.only)) l.fn.least
