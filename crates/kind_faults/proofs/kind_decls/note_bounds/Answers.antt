use Rattle.std.proofs.Common.{◌<◌, length, arith, refl, ◌∙◌}
use Rattle.kind_faults.specs.Holders.{scope_of}
use Rattle.fort_names.proofs.FirstOf.{next_places}
use Rattle.fort_names.specs.Sights.{means}
use Rattle.fort_tree.specs.declared.fault.Code.TheVariants.{E32}
use Rattle.sound_programs.specs.KindFaults.{bound_fault}
use Rattle.sound_programs.specs.Placing.{placed_expr}
use Rattle.std.specs.Prelude.{flat_map}
use Rattle.unit_steps.specs.Behind.{exprs}
use Rattle.kind_faults.proofs.kind_decls.note_bounds.Goals as goal

-- src/kind_decls.rt
pub loop-bound-preserved : goal.loop-bound-preserved
loop-bound-preserved c =
    let items = c.args.bounds.now in
    let within : c.loop-bound.bound-index < length items = omega arith in
    next_places E32 (λ l. flat_map (bound_fault (scope_of c.args.holder.now) (means c.args.sight.now)) (exprs l)) (λ a. bound_fault (scope_of c.args.holder.now) (means c.args.sight.now) (placed_expr a.now)) (λ a l. refl) items c.loop-bound.bound-index c.bound-item.result within c.bound-item.is c.loop-bound.least c.note_bound.new.least
    c.note_bound.ensures ∙ c.loop-bound.invariant
