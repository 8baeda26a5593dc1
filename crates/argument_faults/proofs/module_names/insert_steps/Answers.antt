use Rattle.std.proofs.Common.{◌<◌, length, map, arith, ap, ◌∙◌}
use Rattle.fort_names.specs.Sharing.{inserted}
use Rattle.argument_faults.proofs.Inserting.{next_inserted}
use Rattle.argument_faults.proofs.module_names.insert_steps.Goals as goal

-- src/module_names.rt
pub loop-step-preserved : goal.loop-step-preserved
loop-step-preserved c =
    let items = c.args.steps.now in
    let within : c.loop-step.step-index < length items = omega arith in
    next_inserted items c.loop-step.step-index c.step-item.result within c.step-item.is c.loop-step.into c.insert_names.new.into
    (c.in_ok-insert_names.ensures ∙ ap (λ l. inserted c.loop-step.into (map (λ n. n.name) l)) (c.as_slice.ensures.value ∙ c.in_ok-names.ensures))
    ∙ c.loop-step.invariant
