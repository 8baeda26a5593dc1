use Rattle.std.proofs.Common.{◌≡◌, ◌++◌, ◌&&◌, drop, not}
use Rattle.claw_meaning.specs.Units.{is_listed}
use Rattle.sound_programs.specs.NameFaults.{places_where}
use Rattle.fort_names.specs.NameLists.{has}
use Rattle.name_faults.proofs.loop_names.note_outside.Given as goal

abbrev pub invariant-loop-one : goal.invariant-loop-one
invariant-loop-one l =
    l.into.items ++ places_where (λ n. has l.variables n.name && not (is_listed l.loops n.name)) (drop l.one-index l.names)
    ≡ l.fn.into.items ++ places_where (λ n. has l.variables n.name && not (is_listed l.loops n.name)) l.names
