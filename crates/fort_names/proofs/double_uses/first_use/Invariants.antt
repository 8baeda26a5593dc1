use Rattle.std.proofs.Common.{◌≡◌, drop, None}
use Rattle.sound_programs.specs.Scopes.{place_of_use}
use Rattle.fort_names.specs.TwoUses.{first_use}
use Rattle.fort_names.specs.Using.{brought_from}
use Rattle.fort_names.proofs.double_uses.first_use.Given as goal

abbrev pub invariant-loop-line : goal.invariant-loop-line
invariant-loop-line l = first_use (brought_from l.shared l.name) (λ line. place_of_use line l.name) l.first (drop l.line-index l.lines) ≡ first_use (brought_from l.shared l.name) (λ line. place_of_use line l.name) None l.fn.lines
