use Rattle.std.proofs.Common.{◌≡◌, ◌<◌, length, get_or, arith, refl, ◌∙◌, ap, Some}
use Rattle.std.specs.List.{slice_get}
use Rattle.std.proofs.lemmas.Option.{slice_get_read}
use Rattle.fort_tree.specs.declared.fault.Code.TheVariants.{E30}
use Rattle.claw_meaning.specs.Scope.{Entity}
use Rattle.claw_meaning.specs.Syntax.{Text}
use Rattle.sound_programs.specs.Faults.{found}
use Rattle.sound_programs.specs.NameFaults.{undeclared_in_bounds}
use Rattle.sound_programs.specs.Placing.{placed_module}
use Rattle.fort_names.specs.Leasts.{noted}
use Rattle.name_faults.specs.Undeclared.{undeclared_in_a_module}
use Rattle.name_faults.proofs.InFiles.{next_numbered}
use Rattle.name_faults.proofs.values.note_modules.Goals as goal

-- src/values.rt
pub loop-number-preserved : goal.loop-number-preserved
loop-number-preserved c =
    let f = c.args.file.now in
    let i = c.loop-number.number in
    let m = c.one-item.result in
    let old = c.loop-number.least in
    let within : i < length f.modules = omega (arith, ap length c.items-one-items.ensures) in
    let is : m ≡ get_or f.modules i m = c.one-item.is ∙ ap (λ l. get_or l i m) c.items-one-items.ensures in
    let there : slice_get f.modules i ≡ Some m = slice_get_read f.modules (length f.modules) i m refl within is in
    next_numbered E30 (undeclared_in_a_module f) f.modules i m within is old c.note_module.new.least
    (c.in_ok-note_module.ensures ∙ ap (λ (entity : Text → Entity). noted (found E30 (undeclared_in_bounds entity (placed_module m).decls)) old) (c.sight_of_module-sight.ensures.means m there))
    ∙ c.loop-number.invariant
