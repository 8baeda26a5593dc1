use Rattle.std.proofs.Common.{◌<◌, length, arith, ◌∙◌}
use Rattle.fort_names.specs.Sights.{means}
use Rattle.fort_kinds.proofs.Gathers.{next_gathered, gathered_two}
use Rattle.fort_kinds.proofs.ranking.Ranks.«+gather».Goals as goal

-- src/ranking.rt
pub gather_all-loop-sub-preserved : goal.gather_all-loop-sub-preserved
gather_all-loop-sub-preserved t c =
    let items = c.args.subs.now in
    let within : c.loop-sub.sub-index < length items = omega arith in
    next_gathered (means c.args.sight.now) items c.loop-sub.sub-index c.sub-item.result within c.sub-item.is c.loop-sub.self c.gather_one.new.self c.gather_one.ensures ∙ c.loop-sub.invariant

-- src/ranking.rt
pub gather-returns-in-Two : goal.gather-returns-in-Two
gather-returns-in-Two t c =
    gathered_two (means c.args.sight.now) c.args.expr.now c.in-Two.left c.in-Two.right c.get.result.now c.get-in-Two.result.now _ c.in-Two.is c.get.ensures c.get-in-Two.ensures
    c.args.self.now c.gather.new.self c.gather-in-Two.new.self c.gather.ensures c.gather-in-Two.ensures
