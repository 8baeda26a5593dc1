use Rattle.std.proofs.Common.{◌≡◌, ◌<◌, length, get_or, arith, refl, ◌∙◌, ap, Some}
use Rattle.std.specs.List.{slice_get}
use Rattle.std.proofs.lemmas.Option.{slice_get_read}
use Rattle.fort_tree.specs.declared.fault.Code.TheVariants.{E30}
use Rattle.claw_meaning.specs.Scope.{Entity}
use Rattle.claw_meaning.specs.Syntax.{Text}
use Rattle.sound_programs.specs.Faults.{found}
use Rattle.name_faults.specs.Undeclared.{undeclared_in_unit}
use Rattle.sound_programs.specs.Placing.{placed_unit}
use Rattle.fort_names.specs.Leasts.{noted, of_units}
use Rattle.fort_names.proofs.FirstOf.{next_places}
use Rattle.name_faults.specs.Undeclared.{undeclared_in_a_unit}
use Rattle.name_faults.proofs.values.note_units.Goals as goal

-- src/values.rt
pub loop-number-preserved : goal.loop-number-preserved
loop-number-preserved c =
    let f = c.args.file.now in
    let i = c.loop-number.number in
    let u = c.unit-item.result in
    let old = c.loop-number.least in
    let within : i < length f.units = omega (arith, ap length c.items-unit-items.ensures) in
    let is : u ≡ get_or f.units i u = c.unit-item.is ∙ ap (λ l. get_or l i u) c.items-unit-items.ensures in
    let there : slice_get f.units i ≡ Some u = slice_get_read f.units (length f.units) i u refl within is in
    next_places E30 (of_units (undeclared_in_a_unit f)) (undeclared_in_a_unit f) (λ a l. refl) f.units i u within is old c.note_unit.new.least
    (c.in_ok-note_unit.ensures ∙ ap (λ (entity : Text → Entity). noted (found E30 (undeclared_in_unit entity (placed_unit u))) old) (c.sight_of_unit-sight.ensures.means u there))
    ∙ c.loop-number.invariant
