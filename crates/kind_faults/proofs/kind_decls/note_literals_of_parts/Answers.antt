use Rattle.std.proofs.Common.{◌<◌, length, arith, refl, ◌∙◌}
use Rattle.fort_names.proofs.FirstOf.{next_places}
use Rattle.fort_tree.specs.declared.fault.Code.TheVariants.{E32}
use Rattle.sound_programs.specs.KindFaults.{literal_fault}
use Rattle.sound_programs.specs.Placing.{placed_expr}
use Rattle.std.specs.Prelude.{flat_map}
use Rattle.unit_steps.specs.Behind.{exprs}
use Rattle.kind_faults.proofs.kind_decls.note_literals_of_parts.Goals as goal

-- src/kind_decls.rt
pub loop-part-preserved : goal.loop-part-preserved
loop-part-preserved c =
    let items = c.args.parts.now in
    let within : c.loop-part.part-index < length items = omega arith in
    next_places E32 (λ l. flat_map literal_fault (exprs l)) (λ a. literal_fault (placed_expr a.now)) (λ a l. refl) items c.loop-part.part-index c.part-item.result within c.part-item.is c.loop-part.least c.note_literal.new.least
    c.note_literal.ensures ∙ c.loop-part.invariant
