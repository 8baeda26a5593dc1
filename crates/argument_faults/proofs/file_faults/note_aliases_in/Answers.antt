use Rattle.std.proofs.Common.{◌<◌, length, map, arith, refl, ap, ◌∙◌, sym}
use Rattle.std.specs.Prelude.{flat_map, slice_get}
use Rattle.std.proofs.lemmas.Option.{slice_get_read}
use Rattle.fort_tree.specs.declared.fault.Code.TheVariants.{E38}
use Rattle.sound_programs.specs.Placing.{placed, placed_unit}
use Rattle.fort_names.proofs.FirstOf.{next_places}
use Rattle.argument_faults.specs.InUnits.{aliases_of}
use Rattle.argument_faults.proofs.file_faults.note_aliases_in.Goals as goal

-- src/file_faults.rt
pub note_aliases_of-requires-clause-there : goal.note_aliases_of-requires-clause-there
note_aliases_of-requires-clause-there c =
    let items = c.args.units.now in
    let within : c.loop-number.number < length items = omega arith in
    ap (λ l. slice_get l c.loop-number.number) (sym c.requires.units) ∙ slice_get_read items (length items) c.loop-number.number c.index-units-number.result refl within c.index-units-number.is

-- src/file_faults.rt
pub loop-number-preserved : goal.loop-number-preserved
loop-number-preserved c =
    let items = c.args.units.now in
    let within : c.loop-number.number < length items = omega arith in
    next_places E38 (λ l. flat_map (aliases_of (placed c.args.file.now)) (map placed_unit l)) (λ a. (aliases_of (placed c.args.file.now)) (placed_unit a)) (λ a l. refl) items c.loop-number.number c.index-units-number.result within c.index-units-number.is
    c.loop-number.least c.note_aliases_of.new.least c.in_ok-note_aliases_of.ensures ∙ c.loop-number.invariant
