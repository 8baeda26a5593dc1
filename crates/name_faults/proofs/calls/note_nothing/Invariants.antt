use Rattle.std.proofs.Common.{◌≡◌, drop}
use Rattle.fort_tree.specs.declared.fault.Code.TheVariants.{E35}
use Rattle.sound_programs.specs.Faults.{found}
use Rattle.fort_names.specs.Leasts.{noted}
use Rattle.sound_programs.specs.NameFaults.{places_where}
use Rattle.fort_names.specs.Sights.{means}
use Rattle.name_faults.specs.References.{is_nothing}
use Rattle.name_faults.proofs.calls.note_nothing.Given as goal

abbrev pub invariant-loop-named : goal.invariant-loop-named
invariant-loop-named l =
    noted (found E35 (places_where (λ n. is_nothing (means l.sight) n.name) (drop l.named-index l.names))) l.least
    ≡ noted (found E35 (places_where (λ n. is_nothing (means l.sight) n.name) l.names)) l.fn.least
