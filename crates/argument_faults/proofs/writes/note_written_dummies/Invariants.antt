use Rattle.std.proofs.Common.{◌≡◌, drop}
use Rattle.fort_tree.specs.declared.fault.Code.TheVariants.{E3A}
use Rattle.sound_programs.specs.Faults.{found}
use Rattle.fort_names.specs.Leasts.{noted, places_at}
use Rattle.argument_faults.specs.Written.{is_written_dummy}
use Rattle.argument_faults.proofs.writes.note_written_dummies.Given as goal

abbrev pub invariant-loop-decl : goal.invariant-loop-decl
invariant-loop-decl l =
    noted (found E3A (places_at (is_written_dummy l.dummies) (λ d. d.at) (drop l.decl-index l.decls))) l.least
    ≡ noted (found E3A (places_at (is_written_dummy l.dummies) (λ d. d.at) l.fn.decls)) l.fn.least
