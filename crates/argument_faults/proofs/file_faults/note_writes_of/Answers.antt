use Rattle.std.proofs.Common.{◌≡◌, None, get_or, arith, sym, ap, subst, ◌∙◌}
use Rattle.std.proofs.lemmas.Option.{slice_get_within}
use Rattle.argument_faults.specs.Reaching.{IsWrittenFrom}
use Rattle.std.specs.Prelude.{flat_map}
use Rattle.claw_meaning.specs.Scope.{Entity}
use Rattle.claw_meaning.specs.Syntax.{Text}
use Rattle.fort_tree.specs.declared.fault.Code.TheVariants.{E3A}
use Rattle.sound_programs.specs.ArgumentFaults.{function_dummies, function_writes, writes_fixed}
use Rattle.sound_programs.specs.Faults.{found}
use Rattle.sound_programs.specs.Placed.{bare_program}
use Rattle.sound_programs.specs.Placing.{placed, placed_unit}
use Rattle.sound_programs.specs.Scopes.{Of_unit, entity_in}
use Rattle.sound_programs.specs.Walks.{steps_of}
use Rattle.fort_names.specs.Leasts.{noted}
use Rattle.argument_faults.proofs.WritesAre.{three_parts, function_writes_are}
use Rattle.argument_faults.proofs.file_faults.note_writes_of.Goals as goal

-- src/file_faults.rt
pub write_at-requires : goal.write_at-requires
write_at-requires c = omega (arith, slice_get_within c.args.file.now.units c.args.number c.args.unit.now c.requires.there, c.requires.writes.same_length)

-- src/file_faults.rt
pub returns : goal.returns
returns c =
    let u = placed_unit c.args.unit.now in
    let p = placed c.args.file.now in
    let entity = entity_in (bare_program p) (Of_unit u) in
    let number = c.args.number in
    let write = c.write_at.result in
    let this : get_or c.args.writes.now number None ≡ write = sym c.write_at.ensures in
    three_parts E3A (flat_map (λ s. writes_fixed entity s.step) (steps_of u)) (function_dummies u) (function_writes p (bare_program p) u)
    c.args.least.now c.note_unit_writes.new.least c.note_function_dummies.new.least c.note_function_write.new.least
    (c.in_ok-note_unit_writes.ensures ∙ ap (λ (entity : Text → Entity). noted (found E3A (flat_map (λ s. writes_fixed entity s.step) (steps_of u))) c.args.least.now) (c.sight_of_unit-sight.ensures.means c.args.unit.now c.requires.there))
    c.note_function_dummies.ensures
    (c.note_function_write.ensures
    ∙ function_writes_are c.args.file.now c.args.unit.now write (subst (IsWrittenFrom c.args.file.now c.args.unit.now) this (c.requires.writes.written number c.args.unit.now c.requires.there)) c.note_function_dummies.new.least)
