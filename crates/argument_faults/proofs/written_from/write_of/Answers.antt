use Rattle.std.proofs.Common.{subst}
use Rattle.claw_meaning.specs.Scope.{Entity}
use Rattle.claw_meaning.specs.Syntax.{Text}
use Rattle.sound_programs.specs.Placing.{placed_unit}
use Rattle.argument_faults.specs.ModuleWrites.{IsFirstWrite, module_writes_in}
use Rattle.argument_faults.proofs.written_from.write_of.Goals as goal

-- src/reaching.rt
pub returns : goal.returns
returns c =
    subst (λ (entity : Text → Entity). IsFirstWrite (module_writes_in entity (placed_unit c.args.unit.now)) c.in_ok-first.first) (c.sight_of_unit-sight.ensures.means c.args.unit.now c.requires.there) c.in_ok-first.ensures
