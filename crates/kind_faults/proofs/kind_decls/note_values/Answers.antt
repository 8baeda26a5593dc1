use Rattle.std.proofs.Common.{◌<◌, map, length, arith, refl, ◌∙◌}
use Rattle.fort_names.proofs.FirstOf.{next_places}
use Rattle.fort_tree.specs.declared.fault.Code.TheVariants.{E32}
use Rattle.sound_programs.specs.KindFaults.{value_fault}
use Rattle.sound_programs.specs.Placing.{placed_decl}
use Rattle.std.specs.Prelude.{flat_map}
use Rattle.kind_faults.proofs.kind_decls.note_values.Goals as goal

-- src/kind_decls.rt
pub loop-decl-preserved : goal.loop-decl-preserved
loop-decl-preserved c =
    let items = c.args.decls.now in
    let within : c.loop-decl.decl-index < length items = omega arith in
    next_places E32 (λ l. flat_map value_fault (map placed_decl l)) (λ a. value_fault (placed_decl a)) (λ a l. refl) items c.loop-decl.decl-index c.decl-item.result within c.decl-item.is c.loop-decl.least c.note_value.new.least
    c.note_value.ensures ∙ c.loop-decl.invariant
