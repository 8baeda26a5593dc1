use Rattle.std.proofs.Common.{◌<◌, length, arith, ◌∙◌}
use Rattle.fort_names.proofs.FirstOf.{next_places}
use Rattle.fort_tree.specs.declared.fault.Code.TheVariants.{E32}
use Rattle.sound_programs.specs.KindFaults.{literal_fault, literals_in}
use Rattle.sound_programs.specs.Placing.{placed_expr}
use Rattle.sound_programs.specs.Walks.{parts}
use Rattle.std.proofs.lemmas.Grind.{flat_map-append}
use Rattle.std.specs.Prelude.{flat_map}
use Rattle.unit_steps.specs.Behind.{exprs}
use Rattle.kind_faults.proofs.kind_decls.note_literals.Goals as goal

-- src/kind_decls.rt
pub loop-expr-preserved : goal.loop-expr-preserved
loop-expr-preserved c =
    let items = c.args.whole.now in
    let within : c.loop-expr.expr-index < length items = omega arith in
    next_places E32 (λ l. literals_in (exprs l)) (λ a. flat_map literal_fault (parts (placed_expr a.now))) (λ a l. flat_map-append literal_fault (parts (placed_expr a.now)) (flat_map parts (exprs l))) items c.loop-expr.expr-index c.expr-item.result within c.expr-item.is c.loop-expr.least c.note_literals_in.new.least
    c.in_ok-note_literals_in.ensures ∙ c.loop-expr.invariant
