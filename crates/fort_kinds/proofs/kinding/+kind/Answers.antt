use Rattle.std.proofs.Common.{◌<◌, length, arith, ap, Some, ◌∙◌}
use Rattle.fort_kinds.specs.OneSub.{shared_with}
use Rattle.fort_names.specs.Sights.{means}
use Rattle.fort_kinds.proofs.Subs.{next_shared}
use Rattle.fort_kinds.proofs.kinding.«+kind».Goals as goal

-- src/kinding.rt
pub common_kind-loop-arg-preserved : goal.common_kind-loop-arg-preserved
common_kind-loop-arg-preserved t c =
    let items = c.args.args.now in
    let within : c.loop-arg.arg-index < length items = omega arith in
    next_shared (means c.args.sight.now) items c.loop-arg.arg-index c.arg-item.result within c.arg-item.is c.loop-arg.shared (Some c.shared_kind.result)
    (ap Some (c.shared_kind.ensures ∙ ap (shared_with c.loop-arg.shared) c.kind_of_sub-kind.ensures)) ∙ c.loop-arg.invariant
