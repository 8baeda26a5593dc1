use Rattle.std.proofs.Common.{◌<◌, length, map, arith, refl, ap, ◌∙◌, sym}
use Rattle.std.specs.Prelude.{flat_map, slice_get}
use Rattle.std.proofs.lemmas.Option.{slice_get_read}
use Rattle.fort_tree.specs.declared.fault.Code.TheVariants.{E3A}
use Rattle.sound_programs.specs.Placing.{placed, placed_unit}
use Rattle.fort_names.proofs.FirstOf.{next_places}
use Rattle.sound_programs.specs.ArgumentFaults.{write_faults_in_unit}
use Rattle.sound_programs.specs.Placed.{bare_program}
use Rattle.argument_faults.proofs.file_faults.note_writes_in.Goals as goal

-- src/file_faults.rt
pub note_writes_of-requires-clause-there : goal.note_writes_of-requires-clause-there
note_writes_of-requires-clause-there c =
    let items = c.args.units.now in
    let within : c.loop-number.number < length items = omega arith in
    ap (λ l. slice_get l c.loop-number.number) (sym c.requires.units) ∙ slice_get_read items (length items) c.loop-number.number c.index-units-number.result refl within c.index-units-number.is

-- src/file_faults.rt
pub loop-number-preserved : goal.loop-number-preserved
loop-number-preserved c =
    let items = c.args.units.now in
    let within : c.loop-number.number < length items = omega arith in
    next_places E3A (λ l. flat_map (write_faults_in_unit (placed c.args.file.now) (bare_program (placed c.args.file.now))) (map placed_unit l)) (λ a. (write_faults_in_unit (placed c.args.file.now) (bare_program (placed c.args.file.now))) (placed_unit a)) (λ a l. refl) items c.loop-number.number c.index-units-number.result within c.index-units-number.is
    c.loop-number.least c.note_writes_of.new.least c.in_ok-note_writes_of.ensures ∙ c.loop-number.invariant
