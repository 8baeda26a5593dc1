use Rattle.std.proofs.Common.{◌≡◌, ◌++◌, drop}
use Rattle.claw_meaning.specs.Units.{is_listed}
use Rattle.sound_programs.specs.NameFaults.{places_where}
use Rattle.name_faults.proofs.loop_names.note_among.Given as goal

abbrev pub invariant-loop-one : goal.invariant-loop-one
invariant-loop-one l = l.into.items ++ places_where (λ n. is_listed l.loops n.name) (drop l.one-index l.names) ≡ l.fn.into.items ++ places_where (λ n. is_listed l.loops n.name) l.names
