use Rattle.std.proofs.Common.{◌≡◌, drop, not}
use Rattle.fort_tree.specs.declared.fault.Code.TheVariants.{E30}
use Rattle.sound_programs.specs.Faults.{found}
use Rattle.fort_names.specs.Leasts.{noted}
use Rattle.sound_programs.specs.NameFaults.{places_where}
use Rattle.fort_names.specs.NameLists.{has}
use Rattle.name_faults.proofs.values.note_not_listed.Given as goal

abbrev pub invariant-loop-named : goal.invariant-loop-named
invariant-loop-named l =
    noted (found E30 (places_where (λ n. not (has l.declared n.name)) (drop l.named-index l.names))) l.least
    ≡ noted (found E30 (places_where (λ n. not (has l.declared n.name)) l.names)) l.fn.least
