use Rattle.std.proofs.Common.{◌≡◌, drop}
use Rattle.fort_tree.specs.declared.fault.Code.TheVariants.{E3B}
use Rattle.sound_programs.specs.Faults.{found}
use Rattle.fort_names.specs.Leasts.{noted, places_at, has_intent}
use Rattle.fort_names.proofs.intents.note_other.Given as goal

abbrev pub invariant-loop-decl : goal.invariant-loop-decl
invariant-loop-decl l =
    noted (found E3B (places_at (has_intent l.dummies) (λ d. d.at) (drop l.decl-index l.decls))) l.least
    ≡ noted (found E3B (places_at (has_intent l.dummies) (λ d. d.at) l.fn.decls)) l.fn.least
