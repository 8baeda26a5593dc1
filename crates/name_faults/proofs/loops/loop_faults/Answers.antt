use Rattle.std.proofs.Common.{◌≡◌, ◌<◌, ◌++◌, length, get_or, Some, refl, ap, ◌∙◌, arith}
use Rattle.std.specs.List.{slice_get}
use Rattle.std.proofs.lemmas.Option.{slice_get_read}
use Rattle.sound_programs.specs.LoopFaults.{loop_faults_in_unit}
use Rattle.sound_programs.specs.Placed.{Unit, bare_program}
use Rattle.sound_programs.specs.Placing.{placed, placed_unit}
use Rattle.sound_programs.specs.Scopes.{Of_unit, entity_in}
use Rattle.name_faults.proofs.LoopsAre.{next_unit}
use Rattle.name_faults.proofs.loops.loop_faults.Goals as goal

-- src/loops.rt
pub loop-number-preserved : goal.loop-number-preserved
loop-number-preserved c =
    let f = c.args.file.now in
    let i = c.loop-number.number in
    let u = c.unit-item.result in
    let within : i < length f.units = omega (arith, ap length c.items-unit-items.ensures) in
    let is : u ≡ get_or f.units i u = c.unit-item.is ∙ ap (λ l. get_or l i u) c.items-unit-items.ensures in
    let there : slice_get f.units i ≡ Some u = slice_get_read f.units (length f.units) i u refl within is in
    let old = c.loop-number.places.items in
    next_unit (λ (v : Unit). loop_faults_in_unit (entity_in (bare_program (placed f)) (Of_unit v)) v) f.units i u within is _ old c.note_in_unit.new.into.items
    c.loop-number.invariant
    (c.in_ok-note_in_unit.ensures ∙ ap (λ e. old ++ loop_faults_in_unit e (placed_unit u)) (c.sight_of_unit-sight.ensures.means u there))
