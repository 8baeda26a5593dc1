use Rattle.std.proofs.Common.{sym, subst}
use Rattle.std.specs.Prelude.{List, flat_map}
use Rattle.claw_meaning.specs.Scope.{Entity}
use Rattle.claw_meaning.specs.Syntax.{Text}
use Rattle.sound_programs.specs.ArgumentFaults.{module_variables, module_variables_of, names_of_step}
use Rattle.sound_programs.specs.Placed.{bare_program}
use Rattle.sound_programs.specs.Placing.{placed, placed_unit}
use Rattle.sound_programs.specs.Walks.{steps_of}
use Rattle.argument_faults.specs.declared.module_names.ModuleVariable.{ModuleVariable}
use Rattle.argument_faults.specs.ModuleNames.{HasSame, pairs}
use Rattle.argument_faults.proofs.reached.variables_of.Goals as goal

-- src/reaching.rt
pub returns : goal.returns
returns c =
    let u = placed_unit c.args.unit.now in
    subst (λ (l : List ModuleVariable). HasSame (pairs l) (module_variables_of (bare_program (placed c.args.file.now)) u)) (sym c.from_vec.ensures)
    (subst (λ (entity : Text → Entity). HasSame (pairs c.in_ok-list.list.items) (module_variables entity u.name (flat_map (λ s. names_of_step s.step) (steps_of u))))
    (c.sight_of_unit-sight.ensures.means c.args.unit.now c.requires.there) c.in_ok-list.ensures)
