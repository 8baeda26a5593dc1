use Rattle.std.proofs.Common.{◌≡◌, drop}
use Rattle.fort_tree.specs.declared.fault.Code.TheVariants.{E31}
use Rattle.sound_programs.specs.Faults.{found}
use Rattle.sound_programs.specs.Scopes.{place_of_use}
use Rattle.fort_names.specs.Leasts.{noted, places_at}
use Rattle.fort_names.specs.TwoUses.{is_other}
use Rattle.fort_names.specs.Using.{brought_from}
use Rattle.fort_names.proofs.double_uses.note_others.Given as goal

abbrev pub invariant-loop-line : goal.invariant-loop-line
invariant-loop-line l = noted (found E31 (places_at (λ line. is_other l.number (brought_from l.shared l.name line)) (λ line. place_of_use line l.name) (drop l.line-index l.lines))) l.least ≡ noted (found E31 (places_at (λ line. is_other l.number (brought_from l.shared l.name line)) (λ line. place_of_use line l.name) l.fn.lines)) l.fn.least
